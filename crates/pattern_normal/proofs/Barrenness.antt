-- Patterns that have no results.
use Rattle.std.proofs.Common.{◌≡◌, ℕ, zero, suc, ◌+◌, ◌-◌, ◌/◌, ◌^◌, ◌<◌, Bool, true, false, cond, List, [], ◌∷◌, ◌++◌, map, filter, refl, ap, ◌∙◌, Option, Some, None, slice_get, inl, inr, sym, subst, take, get_or, length, arith, nat_lt, nat_le, option_and_then}
use Rattle.std.specs.List.{flat_map, fold}
use Rattle.std.specs.Option.{option_map, option_map_or}
use Rattle.std.proofs.Math.Nat.{mod-lt}
use Rattle.std.proofs.lemmas.List.{take_more}
use Rattle.std.proofs.lemmas.Bool.{ltb-true, leb-true}
use Rattle.std.proofs.lemmas.Nat.{zero_from_ones, pow_pos}
use Rattle.token_bits.specs.declared.tokens.Tokens.{Tokens}
use Rattle.token_bits.specs.declared.tokens.Class.{Class}
use Rattle.token_bits.specs.declared.tokens.Field.{Field}
use Rattle.token_bits.specs.Tokens.{token, bits_of, width_of, token_len}
use Rattle.sled_model.specs.declared.pattern.Relation.{Relation}
use Rattle.sled_model.specs.declared.pattern.Relation.TheVariants.{Equal, Differs, Below, AtMost, Above, AtLeast}
use Rattle.sled_model.specs.declared.pattern.Pattern.{Pattern}
use Rattle.token_bits.specs.declared.tokens.FieldId.{FieldId}
use Rattle.sled_model.specs.declared.pattern.Pattern.TheVariants.{Limit, Label, Both, Either, Chain, Loose}
use Rattle.sled_model.specs.Measures.{limit_weight, width_at}
use Rattle.sled_model.specs.Results.{Meaning, results, results_from, one_match, has_relation, fold_meanings, both, either, chain, both_match, chain_match, agrees, label_match, loose_match}
use Rattle.sled_model.proofs.Equations.{results-Both, results-Either, results-Chain, results-Loose, results-Label}
use Rattle.pattern_normal.specs.Surroundings.{Surroundings, context_of}
use Rattle.pattern_normal.specs.Barren.{HasNoResults, SomeHasNone, AllHaveNone}
use Rattle.pattern_normal.specs.Alternatives.{StandFor}
use Rattle.pattern_normal.proofs.Standing.{stand_none}

refuse : (b : Bool) → (b ≡ true → ⊥) → b ≡ false
refuse true f = absurd (f refl)
refuse false f = refl

-- ---- relations

zero_width : (relation : Relation) (w limit v : ℕ) → 0 < w → v < 2 ^ w → limit_weight w relation limit ≡ 0 → has_relation relation v limit ≡ false
zero_width Equal w limit v p l h = absurd (omega (arith, h))
zero_width Differs w limit v p l h = absurd (omega (arith, p, h))
zero_width Below w limit v p l h = let z = zero_from_ones limit h in refuse (nat_lt v limit) (λ e. let b = ltb-true v limit e in omega (arith, z, b))
zero_width AtMost w limit v p l h = absurd (omega (arith, zero_from_ones (limit + 1) h))
zero_width Above w limit v p l h = let z = zero_from_ones (2 ^ w - 1 - limit) h in refuse (nat_lt limit v) (λ e. let b = ltb-true limit v e in omega (arith, z, l, b))
zero_width AtLeast w limit v p l h = let z = zero_from_ones (2 ^ w - limit) h in refuse (nat_le limit v) (λ e. let b = leb-true limit v e in omega (arith, z, l, b))

by_token : (o : Option ℕ) (relation : Relation) (lo hi limit len : ℕ) → limit_weight (hi - lo + 1) relation limit ≡ 0
    → results_from (option_map (bits_of lo hi) o) (λ value. cond (has_relation relation value limit) (one_match [] len) []) ≡ []
by_token None relation lo hi limit len h = refl
by_token (Some n) relation lo hi limit len h =
    ap (λ t. cond t (one_match [] len) []) (zero_width relation (hi - lo + 1) limit (bits_of lo hi n) (omega arith) (mod-lt (n / 2 ^ lo) (pow_pos (hi - lo + 1))) h)

by_class : (o : Option Class) (relation : Relation) (lo hi limit len i : ℕ) (w : List ℕ) → limit_weight (hi - lo + 1) relation limit ≡ 0
    → results_from (option_and_then (λ (class : Class). option_map (bits_of lo hi) (token class w i)) o) (λ value. cond (has_relation relation value limit) (one_match [] len) []) ≡ []
by_class None relation lo hi limit len i w h = refl
by_class (Some class) relation lo hi limit len i w h = by_token (token class w i) relation lo hi limit len h

by_field : (tokens : Tokens) (o : Option Field) (relation : Relation) (limit len i : ℕ) (w : List ℕ) → limit_weight (option_map_or width_of o 0) relation limit ≡ 0
    → results_from (option_and_then (λ (field : Field). option_and_then (λ (class : Class). option_map (bits_of field.lo field.hi) (token class w i)) (slice_get tokens.classes field.class.0)) o) (λ value. cond (has_relation relation value limit) (one_match [] len) []) ≡ []
by_field tokens None relation limit len i w h = refl
by_field tokens (Some field) relation limit len i w h = by_class (slice_get tokens.classes field.class.0) relation field.lo field.hi limit len i w h

-- ---- meanings without results

nothing_from : {X Y : Type 0} (f : X → List Y) → ((x : X) → f x ≡ []) → (xs : List X) → flat_map f xs ≡ []
nothing_from f e [] = refl
nothing_from f e (x ∷ xs) = ap (λ z. z ++ flat_map f xs) (e x) ∙ nothing_from f e xs

pub both_first : (m n : Meaning) → HasNoResults m → HasNoResults (both m n)
both_first m n e w i = ap (flat_map (λ a. map (both_match a) (filter (agrees a) (n w i)))) (e w i)

pub both_second : (m n : Meaning) → HasNoResults n → HasNoResults (both m n)
both_second m n e w i = nothing_from (λ a. map (both_match a) (filter (agrees a) (n w i))) (λ a. ap (λ ys. map (both_match a) (filter (agrees a) ys)) (e w i)) (m w i)

pub chain_first : (m n : Meaning) → HasNoResults m → HasNoResults (chain m n)
chain_first m n e w i = ap (flat_map (λ a. map (chain_match a) (n w (i + a.len)))) (e w i)

pub chain_second : (m n : Meaning) → HasNoResults n → HasNoResults (chain m n)
chain_second m n e w i = nothing_from (λ a. map (chain_match a) (n w (i + a.len))) (λ a. ap (map (chain_match a)) (e w (i + a.len))) (m w i)

either_none : (m n : Meaning) → HasNoResults m → HasNoResults n → HasNoResults (either m n)
either_none m n e f w i = ap (λ z. z ++ n w i) (e w i) ∙ f w i

module _ (op : Meaning → Meaning → Meaning) (first : (m n : Meaning) → HasNoResults m → HasNoResults (op m n)) (second : (m n : Meaning) → HasNoResults n → HasNoResults (op m n)) where
  stays : (acc : Meaning) (ms : List Meaning) → HasNoResults acc → HasNoResults (fold op acc ms)
  stays acc [] e = e
  stays acc (m ∷ ms) e = stays (op acc m) ms (first acc m e)

  becomes : (acc : Meaning) (ms : List Meaning) → SomeHasNone ms → HasNoResults (fold op acc ms)
  becomes acc [] h = absurd h
  becomes acc (m ∷ ms) (inl e) = stays (op acc m) ms (second acc m e)
  becomes acc (m ∷ ms) (inr h) = becomes (op acc m) ms h

  pub folded_some : (ms : List Meaning) → SomeHasNone ms → HasNoResults (fold_meanings op ms)
  folded_some [] h = absurd h
  folded_some (m ∷ ms) (inl e) = stays m ms e
  folded_some (m ∷ ms) (inr h) = becomes m ms h

either_stays : (acc : Meaning) (ms : List Meaning) → HasNoResults acc → AllHaveNone ms → HasNoResults (fold either acc ms)
either_stays acc [] e h = e
either_stays acc (m ∷ ms) e h = either_stays (either acc m) ms (either_none acc m e h.0) h.1

folded_all : (ms : List Meaning) → AllHaveNone ms → HasNoResults (fold_meanings either ms)
folded_all [] h w i = refl
folded_all (m ∷ ms) h w i = either_stays m ms h.0 h.1 w i

-- ---- patterns

module _ (near : Surroundings) where
  pub barren_limit : (f : FieldId) (relation : Relation) (limit : ℕ) → limit_weight (width_at near.tokens f) relation limit ≡ 0 → HasNoResults (results (context_of near) (Limit f relation limit))
  barren_limit f relation limit h w i = by_field near.tokens (slice_get near.tokens.fields f.0) relation limit (token_len near.tokens f) i w h

  pub barren_label : (l : ℕ) (p : Pattern) → HasNoResults (results (context_of near) p) → HasNoResults (results (context_of near) (Label l p))
  barren_label l p h w i = results-Label (context_of near) w i l p ∙ ap (map (label_match l i)) (h w i)

  pub barren_loose : (p : Pattern) → HasNoResults (results (context_of near) p) → HasNoResults (results (context_of near) (Loose p))
  barren_loose p h w i = results-Loose (context_of near) w i p ∙ ap (map loose_match) (h w i)

  pub barren_both : (ps : List Pattern) → SomeHasNone (map (results (context_of near)) ps) → HasNoResults (results (context_of near) (Both ps))
  barren_both ps h w i = results-Both (context_of near) w i ps ∙ folded_some both both_first both_second (map (results (context_of near)) ps) h w i

  pub barren_chain : (ps : List Pattern) → SomeHasNone (map (results (context_of near)) ps) → HasNoResults (results (context_of near) (Chain ps))
  barren_chain ps h w i = results-Chain (context_of near) w i ps ∙ folded_some chain chain_first chain_second (map (results (context_of near)) ps) h w i

  pub barren_either : (ps : List Pattern) → AllHaveNone (map (results (context_of near)) ps) → HasNoResults (results (context_of near) (Either ps))
  barren_either ps h w i = results-Either (context_of near) w i ps ∙ folded_all (map (results (context_of near)) ps) h w i

  pub none_of_both : (ps : List Pattern) (n l at : ℕ) → SomeHasNone (map (results (context_of near)) ps) → StandFor near.tokens (fold_meanings both (map (results (context_of near)) ps)) n l at []
  none_of_both ps n l at h = stand_none near.tokens _ n l at (folded_some both both_first both_second (map (results (context_of near)) ps) h)

  pub none_of_chain : (ps : List Pattern) (n l at : ℕ) → SomeHasNone (map (results (context_of near)) ps) → StandFor near.tokens (fold_meanings chain (map (results (context_of near)) ps)) n l at []
  none_of_chain ps n l at h = stand_none near.tokens _ n l at (folded_some chain chain_first chain_second (map (results (context_of near)) ps) h)

-- ---- lists of meanings

pub some_at : {X : Type 0} (f : X → Meaning) (xs : List X) (i : ℕ) (x : X) → i < length xs → x ≡ get_or xs i x → HasNoResults (f x) → SomeHasNone (map f xs)
some_at f [] i x l e h = absurd (omega (arith, l))
some_at f (y ∷ xs) zero x l e h = inl (subst (λ z. HasNoResults (f z)) e h)
some_at f (y ∷ xs) (suc i) x l e h = inr (some_at f xs i x (omega (arith, l)) e h)

pub all_more : {X : Type 0} (f : X → Meaning) (xs : List X) (i : ℕ) (x : X) → i < length xs → x ≡ get_or xs i x → AllHaveNone (map f (take i xs)) → HasNoResults (f x) → AllHaveNone (map f (take (i + 1) xs))
all_more {X = X} f xs i x l e h g = subst (λ zs. AllHaveNone (map f zs)) (sym (take_more xs i x l ∙ ap (λ z. take i xs ++ z ∷ []) (sym e))) (join (take i xs) h)
  where
    join : (ys : List X) → AllHaveNone (map f ys) → AllHaveNone (map f (ys ++ x ∷ []))
    join [] k = (g, tt)
    join (y ∷ ys) k = (k.0, join ys k.1)
