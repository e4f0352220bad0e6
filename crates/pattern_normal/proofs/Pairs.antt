-- One more of the first alternatives, with all of the seconds.
use Rattle.std.proofs.Common.{◌≡◌, ℕ, ◌+◌, ◌*◌, ◌≤◌, ◌<◌, List, [], ◌∷◌, ◌++◌, length, map, filter, take, get_or, sym, ap, subst, ◌∙◌, All, arith}
use Rattle.std.specs.List.{flat_map}
use Rattle.std.proofs.lemmas.List.{take_more, length-take-le}
use Rattle.std.proofs.lemmas.List.Elements.{All-nil, All-cons, All-head, All-tail, All-weaker}
use Rattle.token_bits.specs.declared.tokens.Tokens.{Tokens}
use Rattle.sled_model.specs.declared.raw.Match.{Match}
use Rattle.sled_model.specs.declared.pattern.Pattern.{Pattern}
use Rattle.sled_model.specs.Results.{results, agrees}
use Rattle.pattern_normal.specs.declared.alternative.Alternative.{Alternative}
use Rattle.pattern_normal.specs.Surroundings.{Surroundings, context_of, open_weight, len_in}
use Rattle.pattern_normal.specs.Alternatives.{shown, ended, both_ended, chain_ended, both_row, chain_row, IsBetween, AreBetween, ArePairs, AreFollowed, StandForPattern}
use Rattle.pattern_normal.proofs.Shown.{shown_take, both_row-one, chain_row-one}

pub All-split : {X : Type 0} (P : X → Type 0) (xs ys : List X) → All P (xs ++ ys) → All P xs × All P ys
All-split P [] ys h = (All-nil P, h)
All-split P (x ∷ xs) ys h = let r = All-split P xs ys (All-tail P x (xs ++ ys) h) in (All-cons P x xs (All-head P x (xs ++ ys) h) r.0, r.1)

-- what holds of the first of a list and one more
pub All-one_more : {X : Type 0} (P : X → Type 0) (xs : List X) (i : ℕ) (x : X) → i < length xs → x ≡ get_or xs i x → All P (take (i + 1) xs) → All P (take i xs) × P x
All-one_more P xs i x l is h =
    let e : take (i + 1) xs ≡ take i xs ++ x ∷ [] = take_more xs i x l ∙ ap (λ z. take i xs ++ z ∷ []) (sym is) in
    let r = All-split P (take i xs) (x ∷ []) (subst (λ z. All P z) e h) in (r.0, All-head P x [] r.1)

product_more : (i n a b c : ℕ) → a ≤ i * n → c ≤ a + b → b ≤ n → c ≤ (i + 1) * n
product_more i n a b c p q r = let e : (i + 1) * n ≡ i * n + n = omega arith in rw e (omega (arith, p, q, r))

module _ (firsts : List Alternative) (i : ℕ) (a : Alternative) (l : i < length firsts) (is : a ≡ get_or firsts i a) where
  counted : (n : ℕ) (pairs new : List Alternative) (b : ℕ) → length pairs ≤ length (take i firsts) * n → length new ≤ length pairs + b → b ≤ n → length new ≤ length (take (i + 1) firsts) * n
  counted n pairs new b p q r =
      let before : length (take i firsts) ≡ i = length-take-le i firsts (omega arith) in
      let after : length (take (i + 1) firsts) ≡ i + 1 = length-take-le (i + 1) firsts (omega arith) in
      rw after (product_more i n (length pairs) b (length new) (subst (λ k. length pairs ≤ k * n) before p) q r)

  pub pairs_more : (seconds pairs new : List Alternative) → ArePairs (take i firsts) seconds pairs
      → ((tokens : Tokens) (w : List ℕ) → shown tokens w new ≡ shown tokens w pairs ++ both_row tokens w a seconds)
      → ((least most : ℕ) → IsBetween least most a → AreBetween least most seconds → AreBetween least most pairs → AreBetween least most new)
      → length new ≤ length pairs + length seconds → ArePairs (take (i + 1) firsts) seconds new
  pairs_more seconds pairs new before says ends count = record {
    shown = λ tokens w. let g = λ (x : Match). map (both_ended x) (filter (agrees x) (shown tokens w seconds)) in
        says tokens w ∙ ap (λ z. z ++ both_row tokens w a seconds) (before.shown tokens w)
        ∙ ap (λ z. flat_map g (shown tokens w (take i firsts)) ++ z) (sym (both_row-one tokens w a seconds)) ∙ sym (shown_take tokens w g firsts i a l is);
    ends = λ least most p q. let r = All-one_more (IsBetween least most) firsts i a l is p in ends least most r.1 q (before.ends least most r.0 q);
    count = counted (length seconds) pairs new (length seconds) before.count count (omega arith);
  }

  pub followed_more : (near : Surroundings) (p : Pattern) (ys pairs new : List Alternative) → AreFollowed near p (take i firsts) pairs → StandForPattern near p a.bits.len ys
      → ((tokens : Tokens) (w : List ℕ) → shown tokens w new ≡ shown tokens w pairs ++ chain_row tokens w a ys)
      → ((least most : ℕ) → AreBetween least most ys → AreBetween least most pairs → AreBetween least most new)
      → length new ≤ length pairs + length ys → AreFollowed near p (take (i + 1) firsts) new
  followed_more near p ys pairs new before stand says ends count = record {
    shown = λ fits w bytes.
        let q = λ (k : ℕ). results (context_of near) p w k in let g = λ (x : Match). map (chain_ended x) (map (ended x.len) (q x.len)) in
        let r = All-one_more (λ (c : Alternative). c.bits.len + len_in near p ≤ 32) firsts i a l is fits in
        says near.tokens w ∙ ap (λ z. z ++ chain_row near.tokens w a ys) (before.shown r.0 w bytes)
        ∙ ap (λ z. flat_map g (shown near.tokens w (take i firsts)) ++ z) (sym (chain_row-one near.tokens w q a ys (λ reaches. stand.covers r.1 w bytes reaches)))
        ∙ sym (shown_take near.tokens w g firsts i a l is);
    ends = λ least most h.
        let r = All-one_more (IsBetween least most) firsts i a l is h in
        let from : least ≤ a.bits.len = r.1.0 in let to : a.bits.len ≤ most = r.1.1 in
        ends least (most + len_in near p)
        (All-weaker (IsBetween a.bits.len (a.bits.len + len_in near p)) (IsBetween least (most + len_in near p)) (λ c b. (omega (arith, from, b.0), omega (arith, to, b.1))) ys stand.ends)
        (before.ends least most r.0);
    count = counted (open_weight near p) pairs new (length ys) before.count count stand.count;
  }
