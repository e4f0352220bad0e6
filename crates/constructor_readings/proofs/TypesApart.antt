-- No operand of a constructor is of the type that the constructor makes.
use Rattle.std.proofs.Common.{◌≡◌, ℕ, zero, suc, ◌<◌, length, Bool, true, false, eqb, List, [], ◌∷◌, Option, Some, None, slice_get, All, refl, sym, ap, ◌∙◌, subst, arith}
use Rattle.std.specs.Prelude.{not, ◌&&◌, ◌||◌, bytes_eq, is_some, unwrap_or, option_and_then}
use Rattle.std.specs.List.{list_any}
use Rattle.std.proofs.lemmas.Bool.{eqb-true, or_left, or_right}
use Rattle.std.proofs.lemmas.List.Elements.{All-nil, All-same}
use Rattle.std.proofs.lemmas.Slice.Eq.{bytes_eq-Decides}
use Rattle.sled_parser.specs.declared.tree.OperandTree.{OperandTree}
use Rattle.sled_parser.specs.declared.tree.OperandTree.TheVariants.{Word, Extended, Typed}
use Rattle.sled_model.specs.declared.constructor.TypeId.{TypeId}
use Rattle.sled_model.specs.declared.spec.Spec.{Spec}
use Rattle.sled_model.specs.Results.{makes}
use Rattle.tree_meaning.specs.declared.scope.Meaning.{Meaning}
use Rattle.tree_meaning.specs.declared.scope.Meaning.TheVariants as meaning
use Rattle.tree_meaning.specs.Scopes.{Declared, meaning_of, type_named, as_type}
use Rattle.tree_meaning.proofs.Soundness.{found_all}
use Rattle.operand_meaning.specs.Operands.{operands_are_known}
use Rattle.operand_meaning.proofs.ListFacts.{both_of, not_true}
use Rattle.constructor_scopes.specs.Bodies.{operand_type}
use Rattle.constructor_meaning.specs.Conditions.{kinds}
use Rattle.constructor_meaning.specs.Constructing.{Constructing}
use Rattle.constructor_meaning.specs.Results.{uses_type, may_make, result_is_open}
use Rattle.constructor_meaning.specs.Sound.{IsSoundScope, NamesKnownType}
use Rattle.constructor_building.specs.Building.{next_type, result_type}
use Rattle.constructor_readings.specs.Accepted.{TypesAreNamed}
use Rattle.constructor_readings.proofs.Short.{MakesNoOperand}
use Rattle.constructor_readings.proofs.TypedStands.{typed_operand}

any_here : {A : Type 0} (p : A → Bool) (xs : List A) (k : ℕ) (x : A) → slice_get xs k ≡ Some x → p x ≡ true → list_any p xs ≡ true
any_here p [] k x at h = cc
any_here p (y ∷ xs) zero x at h = let same : y ≡ x = cc in or_left (p y) (list_any p xs) (ap p same ∙ h)
any_here p (y ∷ xs) (suc k) x at h = or_right (p y) (list_any p xs) (any_here p xs k x at h)

not_made : (t : TypeId) (made : TypeId) → (made ≡ t → ⊥) → makes t (Some made) ≡ false
not_made t made differ = by_test (eqb made.0 t.0) refl where
  by_test : (b : Bool) → eqb made.0 t.0 ≡ b → b ≡ false
  by_test false is = refl
  by_test true is = absurd (differ (ap (λ n. let id : TypeId = record { 0 = n } in id) (eqb-true made.0 t.0 is)))

module _ (spec : Spec) (declared : Declared) (sound : IsSoundScope spec declared) (named : TypesAreNamed declared) where
  type_meaning : (m : Option Meaning) (t : TypeId) → option_and_then as_type m ≡ Some t → m ≡ Some (meaning.Type t)
  type_meaning None t is = cc
  type_meaning (Some (meaning.Type u)) t is = let same : u ≡ t = cc in ap (λ x. Some (meaning.Type x)) same
  type_meaning (Some _) t is = cc

  -- a name's type is one that there is
  type_below : (w : List ℕ) (t : TypeId) → type_named declared w ≡ Some t → t.0 < length spec.type_names
  type_below w t is =
      found_all (NamesKnownType spec) declared sound.types
      (All-same (NamesKnownType spec) declared.local_meanings [] sound.local_meanings (All-nil (NamesKnownType spec))) w (meaning.Type t) (type_meaning (meaning_of declared w) t is)

  one_type : (v w : List ℕ) (t : TypeId) → type_named declared v ≡ Some t → type_named declared w ≡ Some t → v ≡ w
  one_type v w t here there = named v w t (type_meaning (meaning_of declared v) t here) (type_meaning (meaning_of declared w) t there)

  -- an operand of a type has a name of it
  type_word : (o : OperandTree) (t : TypeId) → operand_type declared o ≡ Some t → (w : List ℕ) × (type_named declared w ≡ Some t)
  type_word (Word w) t is = (w, is)
  type_word (Extended w) t is = cc
  type_word (Typed n r) t is = (r, is)

  some_type : (o : Option TypeId) (t : TypeId) → o ≡ Some t → is_some o ≡ true
  some_type None t is = cc
  some_type (Some u) t is = refl

  itself : (v w : List ℕ) → v ≡ w → bytes_eq v w ≡ true
  itself v w same = (bytes_eq-Decides v w).1 same

  uses : (r : List ℕ) (o : OperandTree) (t : TypeId) → type_named declared r ≡ Some t → operand_type declared o ≡ Some t → uses_type declared r o ≡ true
  uses r (Word w) t made is = rw (some_type (type_named declared w) t is, itself r w (one_type r w t made is)) refl
  uses r (Extended w) t made is = cc
  uses r (Typed n s) t made is = itself r s (one_type r s t made is)

  module _ (c : Constructing) (known : operands_are_known declared c.equations c.operands ≡ true) where
    apart_from : (r : Option (List ℕ)) → result_is_open spec declared c.operands r ≡ true → MakesNoOperand (kinds declared c) (result_type spec declared r)
    apart_from None open_is = λ k t at. refl
    apart_from (Some r) open_is = λ k t at.
        let found = typed_operand declared c.equations c.operands known k t at in
        let o = found.0 in
        let closed = not_true (list_any (uses_type declared r) c.operands) (both_of (may_make spec (meaning_of declared r)) (not (list_any (uses_type declared r) c.operands)) open_is).1 in
        not_made t (unwrap_or (type_named declared r) (next_type spec)) (by_type (type_named declared r) refl k t o found.1.place found.1.type closed)
      where
        by_type : (m : Option TypeId) → type_named declared r ≡ m → (k : ℕ) (t : TypeId) (o : OperandTree) → slice_get c.operands k ≡ Some o → operand_type declared o ≡ Some t
            → list_any (uses_type declared r) c.operands ≡ false → unwrap_or m (next_type spec) ≡ t → ⊥
        by_type None is k t o place type closed same =
            let word = type_word o t type in
            let less = type_below word.0 t word.1 in
            let number : length spec.type_names ≡ t.0 = ap (λ (x : TypeId). x.0) same in
            omega arith
        by_type (Some u) is k t o place type closed same =
            let there : list_any (uses_type declared r) c.operands ≡ true = any_here (uses_type declared r) c.operands k o place (uses r o t (is ∙ ap Some same) type) in cc

    -- so none of the operands is of the type that is made
    pub types_apart : result_is_open spec declared c.operands c.result ≡ true → MakesNoOperand (kinds declared c) (result_type spec declared c.result)
    types_apart open_is = apart_from c.result open_is
