-- What stands for patterns, part by part.
use Rattle.std.proofs.Common.{◌≡◌, ℕ, ◌+◌, ◌*◌, ◌≤◌, ◌<◌, max, true, false, cond, List, [], ◌∷◌, ◌++◌, length, map, filter, take, get_or, sum, refl, sym, ap, subst, ◌∙◌, arith}
use Rattle.std.specs.List.{flat_map, fold}
use Rattle.std.proofs.lemmas.List.{map-append, length-append, length-map, take_all}
use Rattle.std.proofs.lemmas.List.Elements.{All-nil, All-append, All-map, All-weaker}
use Rattle.std.proofs.lemmas.Nat.{mul-le}
use Rattle.token_bits.specs.declared.tokens.Tokens.{Tokens}
use Rattle.sled_model.specs.declared.raw.Match.{Match}
use Rattle.sled_model.specs.declared.pattern.Pattern.{Pattern}
use Rattle.sled_model.specs.Measures.{product, greatest}
use Rattle.sled_model.specs.Results.{Meaning, results, agrees, both, either, chain, fold_meanings, label_meaning, label_match, loose_meaning, loose_match}
use Rattle.sled_model.proofs.Lists.{fold_take}
use Rattle.pattern_normal.specs.declared.alternative.Alternative.{Alternative}
use Rattle.pattern_normal.specs.Surroundings.{Surroundings, context_of, open_weight, len_in}
use Rattle.pattern_normal.specs.Alternatives.{is_met, seen, shown, ended, both_ended, chain_ended, IsBetween, AreBetween, ArePairs, AreFollowed, StandFor, StandForPattern, label_alternative, loose_alternative}
use Rattle.pattern_normal.proofs.Shown.{shown-append, product-ended, chain-ended}

-- ---- the same meaning, weight and length, said otherwise

pub stand_as : (tokens : Tokens) (m n : Meaning) (w v l k at : ℕ) (cs : List Alternative)
    → ((window : List ℕ) (i : ℕ) → m window i ≡ n window i) → w ≡ v → l ≡ k → StandFor tokens m w l at cs → StandFor tokens n v k at cs
stand_as tokens m n w v l k at cs e f g s = record {
  covers = λ fits window bytes reaches. s.covers (rw g fits) window bytes reaches ∙ ap (map (ended at)) (e window at);
  ends = subst (λ z. AreBetween at (at + z) cs) g s.ends;
  count = rw (← f) s.count;
}

-- nothing stands for what has no results
pub stand_none : (tokens : Tokens) (m : Meaning) (w l at : ℕ) → ((window : List ℕ) (i : ℕ) → m window i ≡ []) → StandFor tokens m w l at []
stand_none tokens m w l at e = record {
  covers = λ fits window bytes reaches. ap (map (ended at)) (sym (e window at));
  ends = All-nil (IsBetween at (at + l));
  count = omega arith;
}

-- ---- two parts

wider : (at l k : ℕ) (cs : List Alternative) → l ≤ k → AreBetween at (at + l) cs → AreBetween at (at + k) cs
wider at l k cs h b = All-weaker (IsBetween at (at + l)) (IsBetween at (at + k)) (λ c p. (p.0, omega (arith, p.1, h))) cs b

module _ (tokens : Tokens) (at : ℕ) (m n : Meaning) (w v l k : ℕ) (fs ss : List Alternative) (f : StandFor tokens m w l at fs) (s : StandFor tokens n v k at ss) where
  pub stand_both : (cs : List Alternative) → ArePairs fs ss cs → StandFor tokens (both m n) (w * v) (max l k) at cs
  stand_both cs pairs = record {
    covers = λ fits window bytes reaches.
        pairs.shown tokens window
        ∙ ap (λ xs. flat_map (λ x. map (both_ended x) (filter (agrees x) (shown tokens window ss))) xs) (f.covers (omega (arith, fits)) window bytes reaches)
        ∙ ap (λ ys. flat_map (λ x. map (both_ended x) (filter (agrees x) ys)) (map (ended at) (m window at))) (s.covers (omega (arith, fits)) window bytes reaches)
        ∙ product-ended at (m window at) (n window at);
    ends = pairs.ends at (at + max l k) (wider at l (max l k) fs (omega arith) f.ends) (wider at k (max l k) ss (omega arith) s.ends);
    count = let h = mul-le (length fs) (length ss) w v f.count s.count in omega (arith, h, pairs.count);
  }

  pub stand_either : StandFor tokens (either m n) (w + v) (max l k) at (fs ++ ss)
  stand_either = record {
    covers = λ fits window bytes reaches.
        shown-append tokens window fs ss
        ∙ ap (λ z. z ++ shown tokens window ss) (f.covers (omega (arith, fits)) window bytes reaches)
        ∙ ap (λ z. map (ended at) (m window at) ++ z) (s.covers (omega (arith, fits)) window bytes reaches)
        ∙ sym (map-append (ended at) (m window at) (n window at));
    ends = All-append (IsBetween at (at + max l k)) fs ss (wider at l (max l k) fs (omega arith) f.ends) (wider at k (max l k) ss (omega arith) s.ends);
    count = rw (length-append fs ss) (omega (arith, f.count, s.count));
  }

module _ (near : Surroundings) (at : ℕ) (m : Meaning) (w l : ℕ) (fs : List Alternative) (f : StandFor near.tokens m w l at fs) where
  pub stand_chain : (p : Pattern) (cs : List Alternative) → AreFollowed near p fs cs → StandFor near.tokens (chain m (results (context_of near) p)) (w * open_weight near p) (l + len_in near p) at cs
  stand_chain p cs pairs =
      let q = λ (window : List ℕ) (k : ℕ). results (context_of near) p window k in
      let e : (at + l) + len_in near p ≡ at + (l + len_in near p) = omega arith in
      record {
        covers = λ fits window bytes reaches.
            pairs.shown (All-weaker (IsBetween at (at + l)) (λ (c : Alternative). c.bits.len + len_in near p ≤ 32) (λ c b. omega (arith, fits, b.1)) fs f.ends) window bytes
            ∙ ap (λ xs. flat_map (λ x. map (chain_ended x) (map (ended x.len) (q window x.len))) xs) (f.covers (omega (arith, fits)) window bytes reaches)
            ∙ chain-ended at (q window) (m window at);
        ends = subst (λ z. AreBetween at z cs) e (pairs.ends at (at + l) f.ends);
        count = let h = mul-le (length fs) (open_weight near p) w (open_weight near p) f.count (omega arith) in omega (arith, h, pairs.count);
      }

-- ---- labels and `...`

module _ (tokens : Tokens) (window : List ℕ) where
  shown_label : (l at : ℕ) (cs : List Alternative) → shown tokens window (map (label_alternative l at) cs) ≡ map (label_match l at) (shown tokens window cs)
  shown_label l at [] = refl
  shown_label l at (c ∷ cs) =
      let before = map (label_alternative l at) cs in
      elim (is_met window c) as (λ b. map (seen tokens window) (cond b (label_alternative l at c ∷ filter (is_met window) before) (filter (is_met window) before))
      ≡ map (label_match l at) (map (seen tokens window) (cond b (c ∷ filter (is_met window) cs) (filter (is_met window) cs))))
      [ true ↦ ap (λ z. label_match l at (seen tokens window c) ∷ z) (shown_label l at cs) | false ↦ shown_label l at cs ]

  shown_loose : (cs : List Alternative) → shown tokens window (map loose_alternative cs) ≡ map loose_match (shown tokens window cs)
  shown_loose [] = refl
  shown_loose (c ∷ cs) =
      let before = map loose_alternative cs in
      elim (is_met window c) as (λ b. map (seen tokens window) (cond b (loose_alternative c ∷ filter (is_met window) before) (filter (is_met window) before))
      ≡ map loose_match (map (seen tokens window) (cond b (c ∷ filter (is_met window) cs) (filter (is_met window) cs))))
      [ true ↦ ap (λ z. loose_match (seen tokens window c) ∷ z) (shown_loose cs) | false ↦ shown_loose cs ]

label_ended : (l at : ℕ) (xs : List Match) → map (label_match l at) (map (ended at) xs) ≡ map (ended at) (map (label_match l at) xs)
label_ended l at [] = refl
label_ended l at (x ∷ xs) = ap (λ z. ended at (label_match l at x) ∷ z) (label_ended l at xs)

loose_ended : (at : ℕ) (xs : List Match) → map loose_match (map (ended at) xs) ≡ map (ended at) (map loose_match xs)
loose_ended at [] = refl
loose_ended at (x ∷ xs) = ap (λ z. ended at (loose_match x) ∷ z) (loose_ended at xs)

module _ (tokens : Tokens) (at : ℕ) (m : Meaning) (w l : ℕ) (cs : List Alternative) (s : StandFor tokens m w l at cs) where
  pub stand_label : (label : ℕ) → StandFor tokens (label_meaning label m) w l at (map (label_alternative label at) cs)
  stand_label label = record {
    covers = λ fits window bytes reaches. shown_label tokens window label at cs ∙ ap (map (label_match label at)) (s.covers fits window bytes reaches) ∙ label_ended label at (m window at);
    ends = All-map (IsBetween at (at + l)) (label_alternative label at) cs s.ends;
    count = rw (length-map cs (label_alternative label at)) s.count;
  }

  pub stand_loose : StandFor tokens (loose_meaning m) w l at (map loose_alternative cs)
  stand_loose = record {
    covers = λ fits window bytes reaches. shown_loose tokens window cs ∙ ap (map loose_match) (s.covers fits window bytes reaches) ∙ loose_ended at (m window at);
    ends = All-map (IsBetween at (at + l)) loose_alternative cs s.ends;
    count = rw (length-map cs loose_alternative) s.count;
  }

-- ---- chains of one operator, folded from the left

pub product_folded : (n : ℕ) (ns : List ℕ) → product (n ∷ ns) ≡ fold (λ a b. a * b) n ns
product_folded n ns = let e : 1 * n ≡ n = omega arith in ap (λ z. fold (λ a b. a * b) z ns) e

pub greatest_folded : (n : ℕ) (ns : List ℕ) → greatest (n ∷ ns) ≡ fold max n ns
greatest_folded n ns = let e : max 0 n ≡ n = omega arith in ap (λ z. fold max z ns) e

pub sum_folded : (n : ℕ) (ns : List ℕ) → sum (n ∷ ns) ≡ fold (λ a b. a + b) n ns
sum_folded n ns = let e : 0 + n ≡ n = omega arith in ap (λ z. fold (λ a b. a + b) z ns) e

-- after i more parts
pub record StandsAfter (near : Surroundings) (op : Meaning → Meaning → Meaning) (weigh measure : ℕ → ℕ → ℕ) (at : ℕ) (parts rest : List Pattern) (i : ℕ) (cs : List Alternative) : Type 0 where
  pub first : Pattern
  pub are : parts ≡ first ∷ rest
  pub stands : StandFor near.tokens (fold op (results (context_of near) first) (map (results (context_of near)) (take i rest)))
      (fold weigh (open_weight near first) (map (open_weight near) (take i rest))) (fold measure (len_in near first) (map (len_in near) (take i rest))) at cs

module _ (near : Surroundings) (op : Meaning → Meaning → Meaning) (weigh measure : ℕ → ℕ → ℕ) (at : ℕ) where
  pub start_after : (first : Pattern) (rest parts : List Pattern) (cs : List Alternative) → parts ≡ first ∷ rest → StandForPattern near first at cs → StandsAfter near op weigh measure at parts rest 0 cs
  start_after first rest parts cs e s = record { first = first; are = e; stands = s }

  -- one more part
  pub next_after : (parts rest : List Pattern) (i : ℕ) (p : Pattern) (fs cs : List Alternative) → i < length rest → p ≡ get_or rest i p → (before : StandsAfter near op weigh measure at parts rest i fs)
      → StandFor near.tokens (op (fold op (results (context_of near) before.first) (map (results (context_of near)) (take i rest))) (results (context_of near) p))
      (weigh (fold weigh (open_weight near before.first) (map (open_weight near) (take i rest))) (open_weight near p))
      (measure (fold measure (len_in near before.first) (map (len_in near) (take i rest))) (len_in near p)) at cs
      → StandsAfter near op weigh measure at parts rest (i + 1) cs
  next_after parts rest i p fs cs l is before s = record {
    first = before.first;
    are = before.are;
    stands = stand_as near.tokens _ _ _ _ _ _ at cs
        (λ window j. ap (λ z. z window j) (sym (fold_take op (results (context_of near)) (results (context_of near) before.first) rest i p l is)))
        (sym (fold_take weigh (open_weight near) (open_weight near before.first) rest i p l is))
        (sym (fold_take measure (len_in near) (len_in near before.first) rest i p l is)) s;
  }

  -- all of them
  pub all_after : (parts rest : List Pattern) (i : ℕ) (cs : List Alternative) → length rest ≤ i → (w l : List ℕ → ℕ) → ((n : ℕ) (ns : List ℕ) → w (n ∷ ns) ≡ fold weigh n ns) → ((n : ℕ) (ns : List ℕ) → l (n ∷ ns) ≡ fold measure n ns)
      → StandsAfter near op weigh measure at parts rest i cs → StandFor near.tokens (fold_meanings op (map (results (context_of near)) parts)) (w (map (open_weight near) parts)) (l (map (len_in near) parts)) at cs
  all_after parts rest i cs all w l f g s =
      let m = results (context_of near) in let e : take i rest ≡ rest = take_all i rest all in
      stand_as near.tokens _ _ _ _ _ _ at cs
      (λ window j. ap (λ z. fold op (m s.first) (map m z) window j) e ∙ ap (λ z. fold_meanings op (map m z) window j) (sym s.are))
      (ap (λ z. fold weigh (open_weight near s.first) (map (open_weight near) z)) e ∙ sym (f (open_weight near s.first) (map (open_weight near) rest)) ∙ ap (λ z. w (map (open_weight near) z)) (sym s.are))
      (ap (λ z. fold measure (len_in near s.first) (map (len_in near) z)) e ∙ sym (g (len_in near s.first) (map (len_in near) rest)) ∙ ap (λ z. l (map (len_in near) z)) (sym s.are))
      s.stands
