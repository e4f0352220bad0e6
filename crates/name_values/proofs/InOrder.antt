-- Names that are the operands of one instance, in order.
use Rattle.std.proofs.Common.{◌≡◌, ℕ, suc, ◌+◌, ◌==◌, ◌<◌, ◌≤◌, Bool, true, false, cond, List, [], ◌∷◌, length, get_or, slice_get, Option, Some, None, refl, sym, ap, subst, ◌∙◌, arith}
use Rattle.std.specs.Prelude.{◌&&◌}
use Rattle.std.specs.Option.{option_or}
use Rattle.std.proofs.lemmas.Bool.Decides.{nat_tests}
use Rattle.sled_model.specs.declared.constructor.ConstructorId.{ConstructorId}
use Rattle.sled_model.specs.declared.instance.Instance.{Instance}
use Rattle.sled_model.specs.declared.instance.Operand.{Operand}
use Rattle.sled_model.specs.declared.pattern.Argument.{Argument}
use Rattle.sled_model.specs.declared.pattern.Argument.TheVariants.{Any, Name, Inner'}
use Rattle.pattern_normal.specs.declared.skeleton.Skeleton.{Skeleton}
use Rattle.pattern_normal.specs.declared.skeleton.Spot.{Spot}
use Rattle.pattern_normal.specs.declared.skeleton.Spot.TheVariants as spot
use Rattle.match_meaning.specs.Names.{AreNameValues}
use Rattle.instance_reading.specs.declared.place.Place.{Place}
use Rattle.name_values.specs.Arguments.{named_from, are_names_from}
use Rattle.name_values.specs.Values.{entry_at, entries_at, IsReadAs}
use Rattle.name_values.proofs.Choices.{spot_gives}

pub one_item : {X : Type 0} (xs : List X) (x : X) → length xs ≡ 1 → x ≡ get_or xs 0 x → xs ≡ x ∷ []
one_item [] x l e = absurd (omega (arith, l))
one_item (y ∷ []) x l e = ap (λ z. z ∷ []) (sym e)
one_item (y ∷ z ∷ xs) x l e = absurd (omega (arith, l))

same_number : (i j : ℕ) → (i == j) ≡ true → i ≡ j
same_number i j e = grind (arith, nat_tests)

other_number : (i j : ℕ) → (i == j) ≡ false → i ≡ j → ⊥
other_number i j e d = grind (arith, nat_tests)

both_left : (a b : Bool) → (a && b) ≡ true → a ≡ true
both_left true b e = refl
both_left false b e = cc

both_right : (a b : Bool) → (a && b) ≡ true → b ≡ true
both_right true b e = e
both_right false b e = cc

module _ (k : ℕ) (operands : List Operand) (o : Operand) (there : slice_get operands k ≡ Some o) where
  -- the argument in its place gives the operand
  pub operand_named : (j : ℕ) (arguments : List Argument) → are_names_from j arguments ≡ true → j ≤ k → k < j + length arguments → named_from k operands j arguments ≡ Some o
  operand_named j [] h low high = absurd (omega (arith, low, high))
  operand_named j (Any ∷ arguments) h low high = cc
  operand_named j (Inner' s p ∷ arguments) h low high = cc
  operand_named j (Name i ∷ arguments) h low high =
      by_test (i == k) refl (λ past. operand_named (j + 1) arguments (both_right (i == j) (are_names_from (j + 1) arguments) h) past (omega (arith, high)))
    where
      here : i ≡ j
      here = same_number i j (both_left (i == j) (are_names_from (j + 1) arguments) h)

      later : (i ≡ k → ⊥) → j + 1 ≤ k
      later apart = grind (arith, here, apart, low)

      by_test : (b : Bool) → (i == k) ≡ b → (j + 1 ≤ k → named_from k operands (j + 1) arguments ≡ Some o) → option_or (cond b (slice_get operands j) None) (named_from k operands (j + 1) arguments) ≡ Some o
      by_test true e rest =
          let same : j ≡ k = sym here ∙ same_number i k e in
          ap (λ (x : Option Operand). option_or x (named_from k operands (j + 1) arguments)) (ap (slice_get operands) same ∙ there)
      by_test false e rest = rest (later (other_number i k e))

module _ (place : Place) (c : ConstructorId) (inner : Skeleton) (arguments : List Argument) (s : Spot) (is : s ≡ spot.Choice c inner arguments) (i : Instance)
    (read : IsReadAs place.spec.now place.location (entry_at place s) (Some i)) (in_order : are_names_from 0 arguments ≡ true) where
  values_from : (k : ℕ) (names : List (List ℕ)) (os : List Operand) → ((m : ℕ) (o : Operand) → slice_get os m ≡ Some o → slice_get i.operands (k + m) ≡ Some o) → length os ≡ length names
      → k + length names ≤ length arguments → AreNameValues place.spec.now place.location (entry_at place s ∷ []) k names os
  values_from k [] [] there l w = tt
  values_from k [] (o ∷ os) there l w = absurd (omega (arith, l))
  values_from k (name ∷ names) [] there l w = absurd (omega (arith, l))
  values_from k (name ∷ names) (o ∷ os) there l w =
      let at : k + 0 ≡ k = omega arith in
      let here : slice_get i.operands k ≡ Some o = ap (slice_get i.operands) (sym at) ∙ there 0 o refl in
      let named : named_from k i.operands 0 arguments ≡ Some o = operand_named k i.operands o here 0 arguments in_order (omega arith) (omega (arith, w)) in (
        (Some o, spot_gives place c inner arguments s name k i (Some o) is read (sym named), refl),
        values_from (k + 1) names os (λ m o e. let same : k + suc m ≡ k + 1 + m = omega arith in ap (slice_get i.operands) (sym same) ∙ there (suc m) o e) (omega (arith, l)) (omega (arith, w)),
      )

  pub whole : (names : List (List ℕ)) (spots : List Spot) → spots ≡ s ∷ [] → length i.operands ≡ length names → length arguments ≡ length names
      → AreNameValues place.spec.now place.location (entries_at place spots) 0 names i.operands
  whole names spots one l w =
      subst (λ (ss : List Spot). AreNameValues place.spec.now place.location (entries_at place ss) 0 names i.operands) (sym one)
      (values_from 0 names i.operands (λ m o e. let same : 0 + m ≡ m = omega arith in ap (slice_get i.operands) same ∙ e) l (omega (arith, w)))
