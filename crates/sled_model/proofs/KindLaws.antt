-- What `is_of_kind` is of an instance, seen as lists.
use Rattle.std.proofs.Common.{◌≡◌, Bool, false, List, [], ◌∷◌, Option, Some, None, length, slice_get, refl, sym, ap, ◌∙◌, arith}
use Rattle.std.specs.Prelude.{◌&&◌, ◌==◌}
use Rattle.std.specs.Option.{option_map_or}
use Rattle.std.proofs.lemmas.Bool.{ne_eqb}
use Rattle.sled_model.specs.declared.constructor.OperandKind.{OperandKind}
use Rattle.sled_model.specs.declared.constructor.Constructor.{Constructor}
use Rattle.sled_model.specs.declared.instance.Instance.{Instance}
use Rattle.sled_model.specs.declared.instance.Operand.{Operand, Row_of-Operand, end_of-Operand, more_of-Operand, items-the_row-Operand, items_hidden-the_row-Operand-0}
use Rattle.sled_model.specs.declared.instance.Operand.TheBlock.{hidden-the_row-Instance-1, hidden-the_row-Operand-0}
use denote.Hole.Carrier.{hidden}
use Rattle.sled_model.specs.declared.instance.Operand.TheVariants.{Sub}
use Rattle.sled_model.specs.declared.spec.Spec.{Spec}
use Rattle.sled_model.specs.Kinds.{is_of, type_in, kinds_of, is_of_kind, row_is_of_kinds, are_of_kinds, admits}

row_is_of_kinds-row : {n : _} (spec : Spec) (kinds : List OperandKind) (os : Row_of-Operand n) → row_is_of_kinds spec (Some kinds) os ≡ are_of_kinds spec kinds (items-the_row-Operand _ os)
row_is_of_kinds-row spec [] end_of-Operand = refl
row_is_of_kinds-row spec [] (more_of-Operand o os) = refl
row_is_of_kinds-row spec (kind ∷ kinds) end_of-Operand = refl
row_is_of_kinds-row spec (kind ∷ kinds) (more_of-Operand o os) = ap (λ t. is_of_kind spec kind o && t) (row_is_of_kinds-row spec kinds os)

of_known : {n : _} (spec : Spec) (known : Option (List OperandKind)) (os : Row_of-Operand n)
    → row_is_of_kinds spec known os ≡ option_map_or (λ kinds. are_of_kinds spec kinds (items-the_row-Operand _ os)) known false
of_known spec None os = refl
of_known spec (Some kinds) os = row_is_of_kinds-row spec kinds os

-- an instance is of the kind where its constructor is of the kind's type and the description admits it
pub is_of_kind-Sub : (spec : Spec) (kind : OperandKind) (i : Instance)
    → is_of_kind spec kind (Sub i) ≡ (option_map_or (is_of (type_in kind)) (slice_get spec.constructors i.constructor.0) false && admits spec i)
unfolding hidden-the_row-Instance-1 hidden
is_of_kind-Sub spec kind i =
    let known = kinds_of spec i.constructor in
    ap (λ t. option_map_or (is_of (type_in kind)) (slice_get spec.constructors i.constructor.0) false && t)
    (of_known spec known (hidden-the_row-Operand-0 i.operands) ∙ ap (λ os. option_map_or (λ kinds. are_of_kinds spec kinds os) known false) (items_hidden-the_row-Operand-0 i.operands))

-- no constructor is of no type
pub of_no_type : (c : Option Constructor) → option_map_or (is_of None) c false ≡ false
of_no_type None = refl
of_no_type (Some c) = refl

pub ruleset kind_laws = (is_of_kind-Sub, of_no_type)

-- where no operand is left, no kind may be
pub no_operand_left : (spec : Spec) (kinds : List OperandKind) → are_of_kinds spec kinds [] ≡ (length kinds == 0)
no_operand_left spec [] = refl
no_operand_left spec (kind ∷ kinds) = sym (ne_eqb (length (kind ∷ kinds)) 0 (λ e. absurd (omega arith)))
