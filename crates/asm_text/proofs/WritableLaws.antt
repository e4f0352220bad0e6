-- What the description admits has a text where it holds no address of a label.
use Rattle.std.proofs.Common.{◌≡◌, Bool, true, false, List, [], ◌∷◌, All, Option, Some, None, IsSome, slice_get, refl, sym, ap, ◌∙◌, subst, ℤ}
use Rattle.std.specs.Prelude.{◌&&◌}
use Rattle.std.specs.Option.{option_map, option_map_or}
use Rattle.std.proofs.lemmas.List.Elements.{All-nil, All-cons, All-head, All-tail}
use Rattle.sled_model.specs.declared.constructor.OperandKind.{OperandKind}
use Rattle.sled_model.specs.declared.constructor.TypeId.{TypeId}
use Rattle.sled_model.specs.declared.constructor.Constructor.{Constructor}
use Rattle.sled_model.specs.declared.instance.Instance.{Instance}
use Rattle.sled_model.specs.declared.instance.Operand.{Operand, Row_of-Instance, end_of-Instance, more_of-Instance, Row_of-Operand, end_of-Operand, more_of-Operand, items-the_row-Operand, items_hidden-the_row-Operand-0, roll-Operand, out-Operand, roll-out-Operand, out-roll-Operand}
use Rattle.sled_model.specs.declared.instance.Operand.TheOpen.{Operand-F}
use Rattle.sled_model.specs.declared.instance.Operand.TheOpen as one
use Rattle.sled_model.specs.declared.instance.Operand.TheBlock.{hidden-the_row-Instance-1, hidden-the_row-Operand-0}
use denote.Hole.Carrier.{hidden}
use Rattle.sled_model.specs.declared.instance.Operand.TheVariants.{Num, Place, Sub, Sub', rolls-Num, rolls-Place, rolls-Sub}
use Rattle.sled_model.specs.declared.spec.Spec.{Spec}
use Rattle.sled_model.specs.Kinds.{is_of, type_in, kinds_of, is_of_kind, row_is_of_type, row_is_of_kinds, are_of_kinds, admits}
use Rattle.asm_text.specs.Writable.{HasNoPlace, RowHasNoPlace, RowsHaveNoPlace, IsAdmitted, HasText, RowHasText, RowsHaveText, InstanceHasText}

both_true : (a b : Bool) → (a && b) ≡ true → (a ≡ true) × (b ≡ true)
both_true true b h = (refl, h)
both_true false b h = cc

-- ---- rows and lists

RowsHaveText-all : {n : _} (spec : Spec) (os : Row_of-Operand n) → RowsHaveText spec os → All (HasText spec) (items-the_row-Operand _ os)
RowsHaveText-all spec end_of-Operand h = All-nil (HasText spec)
RowsHaveText-all spec (more_of-Operand o os) h = All-cons (HasText spec) o (items-the_row-Operand _ os) h.0 (RowsHaveText-all spec os h.1)

RowsHaveText-from_all : {n : _} (spec : Spec) (os : Row_of-Operand n) → All (HasText spec) (items-the_row-Operand _ os) → RowsHaveText spec os
RowsHaveText-from_all spec end_of-Operand h = tt
RowsHaveText-from_all spec (more_of-Operand o os) h =
    (All-head (HasText spec) o (items-the_row-Operand _ os) h, RowsHaveText-from_all spec os (All-tail (HasText spec) o (items-the_row-Operand _ os) h))

RowsHaveNoPlace-all : {n : _} (os : Row_of-Operand n) → RowsHaveNoPlace os → All HasNoPlace (items-the_row-Operand _ os)
RowsHaveNoPlace-all end_of-Operand h = All-nil HasNoPlace
RowsHaveNoPlace-all (more_of-Operand o os) h = All-cons HasNoPlace o (items-the_row-Operand _ os) h.0 (RowsHaveNoPlace-all os h.1)

RowsHaveNoPlace-from_all : {n : _} (os : Row_of-Operand n) → All HasNoPlace (items-the_row-Operand _ os) → RowsHaveNoPlace os
RowsHaveNoPlace-from_all end_of-Operand h = tt
RowsHaveNoPlace-from_all (more_of-Operand o os) h =
    (All-head HasNoPlace o (items-the_row-Operand _ os) h, RowsHaveNoPlace-from_all os (All-tail HasNoPlace o (items-the_row-Operand _ os) h))

-- an instance that has a text as an operand has one by itself
pub InstanceHasText-from_operand : (spec : Spec) (i : Instance) → HasText spec (Sub i) → InstanceHasText spec i
unfolding hidden-the_row-Instance-1 hidden
InstanceHasText-from_operand spec i h = record {
  known = h.0;
  operands = subst (All (HasText spec)) (items_hidden-the_row-Operand-0 i.operands) (RowsHaveText-all spec (hidden-the_row-Operand-0 i.operands) h.1);
}

pub InstanceHasText_inner : (spec : Spec) (o : Operand) (i j : Instance) → o ≡ Sub i → j ≡ i → HasText spec o → InstanceHasText spec j
InstanceHasText_inner spec o i j is same h = subst (InstanceHasText spec) (sym same) (InstanceHasText-from_operand spec i (subst (HasText spec) is h))

HasText-from_instance : (spec : Spec) (i : Instance) → InstanceHasText spec i → HasText spec (Sub i)
unfolding hidden-the_row-Instance-1 hidden
HasText-from_instance spec i h =
    (h.known, RowsHaveText-from_all spec (hidden-the_row-Operand-0 i.operands) (subst (All (HasText spec)) (sym (items_hidden-the_row-Operand-0 i.operands)) h.operands))

-- an instance that holds no label's address as an operand has none among its own
pub operands_have_no_place : (i : Instance) → HasNoPlace (Sub i) → All HasNoPlace i.operands
unfolding hidden-the_row-Instance-1 hidden
operands_have_no_place i h = subst (All HasNoPlace) (items_hidden-the_row-Operand-0 i.operands) (RowsHaveNoPlace-all (hidden-the_row-Operand-0 i.operands) h)

-- an instance none of whose operands holds a label's address holds none
pub HasNoPlace-Sub : (i : Instance) → All HasNoPlace i.operands → HasNoPlace (Sub i)
unfolding hidden-the_row-Instance-1 hidden
HasNoPlace-Sub i h = RowsHaveNoPlace-from_all (hidden-the_row-Operand-0 i.operands) (subst (All HasNoPlace) (sym (items_hidden-the_row-Operand-0 i.operands)) h)

-- ---- what is admitted

abbrev layer_of : Instance → Operand-F Operand Instance
layer_of i = one.Sub i

same_layer : (i j : Instance) → Sub i ≡ Sub j → layer_of i ≡ layer_of j
same_layer i j e = sym (out-roll-Operand (layer_of i)) ∙ ap out-Operand (rolls-Sub i ∙ e ∙ sym (rolls-Sub j)) ∙ out-roll-Operand (layer_of j)

-- a number is no instance
pub IsAdmitted-Num : (spec : Spec) (n : ℤ) → IsAdmitted spec (Num n)
IsAdmitted-Num spec n i e = cc

-- an operand that is an instance is admitted where the instance is
pub IsAdmitted-Sub : (spec : Spec) (i : Instance) → admits spec i ≡ true → IsAdmitted spec (Sub i)
IsAdmitted-Sub spec i h j e =
    let layers = same_layer i j e in let same : i ≡ j = cc in
    subst (λ k. admits spec k ≡ true) same h

is_known : (f : Constructor → Bool) (c : Option Constructor) → option_map_or f c false ≡ true → IsSome c
is_known f None h = cc
is_known f (Some c) h = refl

module _ (spec : Spec) where
  mutual
    pub HasText-from_kind : (kind : OperandKind) (o : Operand) → is_of_kind spec kind o ≡ true → HasNoPlace o → HasText spec o
    HasText-from_kind kind (Num n) h p = tt
    HasText-from_kind kind (Place label add) h p = absurd p
    HasText-from_kind kind (Sub' s i) h p = RowHasText-from_type (type_in kind) i h p

    RowHasText-from_type : {n : _} (t : Option TypeId) (i : Row_of-Instance n) → row_is_of_type spec t i ≡ true → RowHasNoPlace i → RowHasText spec i
    RowHasText-from_type t end_of-Instance h p = cc
    RowHasText-from_type t (more_of-Instance k s operands none) h p =
        let parts = both_true (option_map_or (is_of t) (slice_get spec.constructors k.0) false) (row_is_of_kinds spec (kinds_of spec k) operands) h in
        (is_known (is_of t) (slice_get spec.constructors k.0) parts.0, RowsHaveText-from_kinds (kinds_of spec k) operands parts.1 p)

    RowsHaveText-from_kinds : {n : _} (kinds : Option (List OperandKind)) (os : Row_of-Operand n) → row_is_of_kinds spec kinds os ≡ true → RowsHaveNoPlace os → RowsHaveText spec os
    RowsHaveText-from_kinds None end_of-Operand h p = tt
    RowsHaveText-from_kinds None (more_of-Operand o os) h p = cc
    RowsHaveText-from_kinds (Some []) end_of-Operand h p = tt
    RowsHaveText-from_kinds (Some []) (more_of-Operand o os) h p = cc
    RowsHaveText-from_kinds (Some (kind ∷ kinds)) end_of-Operand h p = tt
    RowsHaveText-from_kinds (Some (kind ∷ kinds)) (more_of-Operand o os) h p =
        let parts = both_true (is_of_kind spec kind o) (row_is_of_kinds spec (Some kinds) os) h in
        (HasText-from_kind kind o parts.0 p.0, RowsHaveText-from_kinds (Some kinds) os parts.1 p.1)

All-text : (spec : Spec) (kinds : List OperandKind) (os : List Operand) → are_of_kinds spec kinds os ≡ true → All HasNoPlace os → All (HasText spec) os
All-text spec [] [] h p = All-nil (HasText spec)
All-text spec [] (o ∷ os) h p = cc
All-text spec (kind ∷ kinds) [] h p = All-nil (HasText spec)
All-text spec (kind ∷ kinds) (o ∷ os) h p =
    let parts = both_true (is_of_kind spec kind o) (are_of_kinds spec kinds os) h in
    All-cons (HasText spec) o os (HasText-from_kind spec kind o parts.0 (All-head HasNoPlace o os p)) (All-text spec kinds os parts.1 (All-tail HasNoPlace o os p))

by_constructor : (spec : Spec) (i : Instance) (c : Option Constructor) → slice_get spec.constructors i.constructor.0 ≡ c
    → option_map_or (λ kinds. are_of_kinds spec kinds i.operands) (option_map (λ (c : Constructor). c.operands) c) false ≡ true → All HasNoPlace i.operands → InstanceHasText spec i
by_constructor spec i None e h p = cc
by_constructor spec i (Some c) e h p = record { known = subst IsSome (sym e) refl; operands = All-text spec c.operands i.operands h p }

-- an instance that is admitted has a text, where no operand is a label's address
pub InstanceHasText-from_admitted : (spec : Spec) (i : Instance) → admits spec i ≡ true → All HasNoPlace i.operands → InstanceHasText spec i
InstanceHasText-from_admitted spec i h p = by_constructor spec i (slice_get spec.constructors i.constructor.0) refl h p

-- and so has an operand
pub HasText-from_admitted : (spec : Spec) (o : Operand) → IsAdmitted spec o → HasNoPlace o → HasText spec o
HasText-from_admitted spec o h p = subst (λ o. IsAdmitted spec o → HasNoPlace o → HasText spec o) (roll-out-Operand o) (by_layer (out-Operand o)) h p
  where
    by_layer : (layer : Operand-F Operand Instance) → IsAdmitted spec (roll-Operand layer) → HasNoPlace (roll-Operand layer) → HasText spec (roll-Operand layer)
    by_layer (one.Num n) h p = subst (HasText spec) (sym (rolls-Num n)) tt
    by_layer (one.Place label add) h p = absurd (subst HasNoPlace (rolls-Place label add) p)
    by_layer (one.Sub i) h p =
        let none = operands_have_no_place i (subst HasNoPlace (rolls-Sub i) p) in
        subst (HasText spec) (sym (rolls-Sub i)) (HasText-from_instance spec i (InstanceHasText-from_admitted spec i (h i (rolls-Sub i)) none))

pub All-text_from_admitted : (spec : Spec) (os : List Operand) → All (IsAdmitted spec) os → All HasNoPlace os → All (HasText spec) os
All-text_from_admitted spec os h p = λ k d within. HasText-from_admitted spec _ (h k d within) (p k d within)
