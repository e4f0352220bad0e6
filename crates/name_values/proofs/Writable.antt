-- What arguments name of an instance can be written where the instance can.
use Rattle.std.proofs.Common.{◌≡◌, ℕ, zero, suc, ◌+◌, ◌==◌, Bool, true, false, cond, List, [], ◌∷◌, All, Option, Some, None, IfSome, slice_get, refl, sym, ap, ◌∙◌, subst}
use Rattle.std.specs.Prelude.{◌&&◌}
use Rattle.std.specs.Option.{option_map_or, option_or}
use Rattle.std.proofs.lemmas.List.Elements.{All-nil, All-cons, All-head, All-tail}
use Rattle.sled_model.specs.declared.constructor.OperandKind.{OperandKind}
use Rattle.sled_model.specs.declared.instance.Instance.{Instance}
use Rattle.sled_model.specs.declared.instance.Operand.{Operand, roll-Operand, out-Operand, roll-out-Operand}
use Rattle.sled_model.specs.declared.instance.Operand.TheOpen.{Operand-F}
use Rattle.sled_model.specs.declared.instance.Operand.TheOpen as one
use Rattle.sled_model.specs.declared.instance.Operand.TheVariants.{rolls-Num, rolls-Place, rolls-Sub}
use Rattle.sled_model.specs.declared.pattern.Argument.{Argument}
use Rattle.sled_model.specs.declared.pattern.Argument.TheVariants.{Any, Name, Inner'}
use Rattle.sled_model.specs.declared.pattern.Pattern.{Pattern, Row_of-Pattern, end_of-Pattern, more_of-Pattern, Row_of-Argument, end_of-Argument, more_of-Argument}
use Rattle.sled_model.specs.declared.pattern.Pattern.TheVariants.{Token, Limit, Bind, Label', Both', Either', Chain', Loose', Apply, Apply', Empty}
use Rattle.sled_model.specs.declared.pattern.Pattern.TheVariants as pattern
use Rattle.sled_model.specs.declared.spec.Spec.{Spec}
use Rattle.sled_model.specs.Kinds.{is_of, type_in, is_of_kind, are_of_kinds, kinds_of, admits}
use Rattle.sled_model.proofs.KindLaws.{is_of_kind-Sub}
use Rattle.asm_text.specs.Writable.{HasNoPlace, IsAdmitted}
use Rattle.asm_text.proofs.WritableLaws.{operands_have_no_place}
use Rattle.match_meaning.specs.Names.{inner_operands, named_among, named_by, named_in_box, named_in, argument_value}
use Rattle.name_values.proofs.NamedLaws.{inner_operands-Sub}

-- it is a number, or an instance that the description admits, and is no label's address at any level
abbrev pub IsWritable : Spec → Operand → Type 0
IsWritable spec o = IsAdmitted spec o × HasNoPlace o

second_true : (a b : Bool) → (a && b) ≡ true → b ≡ true
second_true true b h = h
second_true false b h = cc

first_true : (a b : Bool) → (a && b) ≡ true → a ≡ true
first_true true b h = refl
first_true false b h = cc

module _ (spec : Spec) where
  -- ---- the operands of an instance that is admitted

  admitted_of_kind : (kind : OperandKind) (o : Operand) → is_of_kind spec kind o ≡ true → IsAdmitted spec o
  admitted_of_kind kind o h i e =
      second_true (option_map_or (is_of (type_in kind)) (slice_get spec.constructors i.constructor.0) false) (admits spec i)
      (sym (is_of_kind-Sub spec kind i) ∙ ap (is_of_kind spec kind) (sym e) ∙ h)

  all_admitted : (kinds : List OperandKind) (os : List Operand) → are_of_kinds spec kinds os ≡ true → All (IsAdmitted spec) os
  all_admitted [] [] h = All-nil (IsAdmitted spec)
  all_admitted [] (o ∷ os) h = cc
  all_admitted (kind ∷ kinds) [] h = cc
  all_admitted (kind ∷ kinds) (o ∷ os) h =
      All-cons (IsAdmitted spec) o os
      (admitted_of_kind kind o (first_true (is_of_kind spec kind o) (are_of_kinds spec kinds os) h))
      (all_admitted kinds os (second_true (is_of_kind spec kind o) (are_of_kinds spec kinds os) h))

  by_kinds : (kinds : Option (List OperandKind)) (os : List Operand) → option_map_or (λ kinds. are_of_kinds spec kinds os) kinds false ≡ true → All (IsAdmitted spec) os
  by_kinds None os h = cc
  by_kinds (Some kinds) os h = all_admitted kinds os h

  both_each : (os : List Operand) → All (IsAdmitted spec) os → All HasNoPlace os → All (IsWritable spec) os
  both_each [] h g = All-nil (IsWritable spec)
  both_each (o ∷ os) h g =
      All-cons (IsWritable spec) o os (All-head (IsAdmitted spec) o os h, All-head HasNoPlace o os g) (both_each os (All-tail (IsAdmitted spec) o os h) (All-tail HasNoPlace o os g))

  pub operands_writable : (i : Instance) → admits spec i ≡ true → All HasNoPlace i.operands → All (IsWritable spec) i.operands
  operands_writable i h g = both_each i.operands (by_kinds (kinds_of spec i.constructor) i.operands h) g

  -- ---- what arguments name

  inner_writable : (o : Option Operand) → IfSome o (IsWritable spec) → All (IsWritable spec) (inner_operands o)
  inner_writable None h = All-nil (IsWritable spec)
  inner_writable (Some o) h = subst (λ o. IsWritable spec o → All (IsWritable spec) (inner_operands (Some o))) (roll-out-Operand o) (by_layer (out-Operand o)) h
    where
      by_layer : (layer : Operand-F Operand Instance) → IsWritable spec (roll-Operand layer) → All (IsWritable spec) (inner_operands (Some (roll-Operand layer)))
      by_layer (one.Num n) h = subst (λ o. All (IsWritable spec) (inner_operands (Some o))) (sym (rolls-Num n)) (All-nil (IsWritable spec))
      by_layer (one.Place label add) h = subst (λ o. All (IsWritable spec) (inner_operands (Some o))) (sym (rolls-Place label add)) (All-nil (IsWritable spec))
      by_layer (one.Sub i) h =
          subst (λ o. All (IsWritable spec) (inner_operands (Some o))) (sym (rolls-Sub i))
          (subst (All (IsWritable spec)) (sym (inner_operands-Sub i))
          (operands_writable i (h.0 i (rolls-Sub i)) (operands_have_no_place i (subst HasNoPlace (rolls-Sub i) h.1))))

  some_at : (os : List Operand) (j : ℕ) → All (IsWritable spec) os → IfSome (slice_get os j) (IsWritable spec)
  some_at [] j h = tt
  some_at (o ∷ os) zero h = All-head (IsWritable spec) o os h
  some_at (o ∷ os) (suc j) h = some_at os j (All-tail (IsWritable spec) o os h)

  either_some : (o p : Option Operand) → IfSome o (IsWritable spec) → IfSome p (IsWritable spec) → IfSome (option_or o p) (IsWritable spec)
  either_some None p h g = g
  either_some (Some o) p h g = h

  mutual
    among_writable : {n : _} (k : ℕ) (os : List Operand) (j : ℕ) (arguments : Row_of-Argument n) → All (IsWritable spec) os → IfSome (named_among k os j arguments) (IsWritable spec)
    among_writable k os j end_of-Argument h = tt
    among_writable k os j (more_of-Argument a arguments) h =
        either_some (named_by k (slice_get os j) a) (named_among k os (j + 1) arguments) (by_writable k (slice_get os j) a (some_at os j h)) (among_writable k os (j + 1) arguments h)

    by_writable : (k : ℕ) (o : Option Operand) (a : Argument) → IfSome o (IsWritable spec) → IfSome (named_by k o a) (IsWritable spec)
    by_writable k o Any h = tt
    by_writable k o (Name j) h = elim (j == k) as (λ b. IfSome (cond b o None) (IsWritable spec)) [ true ↦ h | false ↦ tt ]
    by_writable k o (Inner' s p) h = box_writable k (inner_operands o) p (inner_writable o h)

    box_writable : {n : _} (k : ℕ) (os : List Operand) (p : Row_of-Pattern n) → All (IsWritable spec) os → IfSome (named_in_box k os p) (IsWritable spec)
    box_writable k os end_of-Pattern h = tt
    box_writable k os (more_of-Pattern p ps) h = in_writable k os p h

    in_writable : (k : ℕ) (os : List Operand) (p : Pattern) → All (IsWritable spec) os → IfSome (named_in k os p) (IsWritable spec)
    in_writable k os (Apply' c s arguments) h = among_writable k os 0 arguments h
    in_writable k os (Token c) h = tt
    in_writable k os (Limit f relation limit) h = tt
    in_writable k os (Bind f) h = tt
    in_writable k os (pattern.Operand j) h = tt
    in_writable k os (Label' l s p) h = tt
    in_writable k os (Both' s ps) h = tt
    in_writable k os (Either' s ps) h = tt
    in_writable k os (Chain' s ps) h = tt
    in_writable k os (Loose' s p) h = tt
    in_writable k os Empty h = tt

  pub argument_writable : (k : ℕ) (arguments : List Argument) (os : List Operand) → All (IsWritable spec) os → IfSome (argument_value k arguments os) (IsWritable spec)
  argument_writable k arguments os h = in_writable k os (Apply (record { 0 = 0 }) arguments) h
