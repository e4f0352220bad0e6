-- What an application inside another is, seen as lists.
use Rattle.std.proofs.Common.{◌≡◌, ℕ, true, false, List, [], ◌∷◌, ◌++◌, map, length, Option, Some, None, refl, sym, ap, ◌∙◌, arith}
use Rattle.std.specs.Prelude.{◌&&◌, ◌==◌, option_map}
use Rattle.std.specs.Option.{option_map_or}
use Rattle.std.proofs.lemmas.Bool.{ne_eqb}
use Rattle.sled_parser.specs.declared.tree.ArgumentTree.{ArgumentTree, Row_of-ArgumentTree, end_of-ArgumentTree, more_of-ArgumentTree, items-the_row-ArgumentTree, items_hidden-the_row-ArgumentTree-0}
use Rattle.sled_parser.specs.declared.tree.ArgumentTree.TheBlock.{hidden-the_row-ArgumentTree-0}
use Rattle.sled_parser.specs.declared.tree.ArgumentTree.TheVariants.{Inner}
use Rattle.sled_model.specs.declared.constructor.Constructor.{Constructor}
use Rattle.sled_model.specs.declared.constructor.OperandKind.{OperandKind}
use Rattle.sled_model.specs.declared.pattern.Argument.TheVariants as argument
use Rattle.sled_model.specs.declared.pattern.Pattern.TheVariants as pattern
use Rattle.sled_model.specs.declared.spec.Spec.{Spec}
use Rattle.sled_model.specs.Kinds.{is_of, type_in}
use Rattle.arm_meaning.specs.Applications.{constructor_called, kinds_called, argument_fits, row_fits, arguments_fit, application_fits, constructor_or_first, argument_of, row_arguments, application_of}
use Rattle.arm_meaning.specs.Bound.{argument_names, row_names, names_in}

-- ---- what is admitted

row_fits-row : {n : _} (spec : Spec) (kinds : List OperandKind) (arguments : Row_of-ArgumentTree n)
    → row_fits spec (Some kinds) arguments ≡ arguments_fit spec kinds (items-the_row-ArgumentTree _ arguments)
row_fits-row spec [] end_of-ArgumentTree = refl
row_fits-row spec [] (more_of-ArgumentTree a arguments) = refl
row_fits-row spec (kind ∷ kinds) end_of-ArgumentTree = refl
row_fits-row spec (kind ∷ kinds) (more_of-ArgumentTree a arguments) = ap (λ t. argument_fits spec kind a && t) (row_fits-row spec kinds arguments)

known_fits : {n : _} (spec : Spec) (known : Option (List OperandKind)) (arguments : Row_of-ArgumentTree n)
    → row_fits spec known arguments ≡ option_map_or (λ kinds. arguments_fit spec kinds (items-the_row-ArgumentTree _ arguments)) known false
known_fits spec None arguments = refl
known_fits spec (Some kinds) arguments = row_fits-row spec kinds arguments

-- an application may stand for an operand of the kind where it is of the kind's type and fits
pub argument_fits-Inner : (spec : Spec) (kind : OperandKind) (name : List ℕ) (arguments : List ArgumentTree)
    → argument_fits spec kind (Inner name arguments) ≡ (option_map_or (is_of (type_in kind)) (constructor_called spec name) false && application_fits spec name arguments)
argument_fits-Inner spec kind name arguments =
    let known = kinds_called spec name in
    ap (λ t. option_map_or (is_of (type_in kind)) (constructor_called spec name) false && t)
    (known_fits spec known (hidden-the_row-ArgumentTree-0 arguments) ∙ ap (λ list. option_map_or (λ kinds. arguments_fit spec kinds list) known false) (items_hidden-the_row-ArgumentTree-0 arguments))

-- an application of a constructor that was found by its name
pub inner_fits : (spec : Spec) (kind : OperandKind) (a : ArgumentTree) (name : List ℕ) (arguments : List ArgumentTree) (found : Constructor) → a ≡ Inner name arguments
    → Some found ≡ constructor_called spec name → is_of (type_in kind) found ≡ true → arguments_fit spec found.operands arguments ≡ argument_fits spec kind a
inner_fits spec kind a name arguments found is called made =
    sym (ap (argument_fits spec kind) is ∙ argument_fits-Inner spec kind name arguments
    ∙ ap (λ o. option_map_or (is_of (type_in kind)) o false && option_map_or (λ kinds. arguments_fit spec kinds arguments) (option_map (λ (c : Constructor). c.operands) o) false) (sym called)
    ∙ ap (λ t. t && arguments_fit spec found.operands arguments) made)

-- where no argument is left, no kind may be
pub no_argument_left : (spec : Spec) (kinds : List OperandKind) → arguments_fit spec kinds [] ≡ (length kinds == 0)
no_argument_left spec [] = refl
no_argument_left spec (kind ∷ kinds) = sym (ne_eqb (length (kind ∷ kinds)) 0 (λ e. absurd (omega arith)))

-- ---- what is meant

row_arguments-row : {n : _} (spec : Spec) (names : List (List ℕ)) (arguments : Row_of-ArgumentTree n)
    → row_arguments spec names arguments ≡ map (argument_of spec names) (items-the_row-ArgumentTree _ arguments)
row_arguments-row spec names end_of-ArgumentTree = refl
row_arguments-row spec names (more_of-ArgumentTree a arguments) = ap (λ rest. argument_of spec names a ∷ rest) (row_arguments-row spec names arguments)

-- an inner application stands for the pattern that it is
pub argument_of-Inner : (spec : Spec) (names : List (List ℕ)) (name : List ℕ) (arguments : List ArgumentTree)
    → argument_of spec names (Inner name arguments) ≡ argument.Inner (application_of spec names name arguments)
argument_of-Inner spec names name arguments =
    ap (λ list. argument.Inner (pattern.Apply (constructor_or_first spec name) list))
    (row_arguments-row spec names (hidden-the_row-ArgumentTree-0 arguments) ∙ ap (map (argument_of spec names)) (items_hidden-the_row-ArgumentTree-0 arguments))

-- ---- the names in arguments

row_names-row : {n : _} (arguments : Row_of-ArgumentTree n) → row_names arguments ≡ names_in (items-the_row-ArgumentTree _ arguments)
row_names-row end_of-ArgumentTree = refl
row_names-row (more_of-ArgumentTree a arguments) = ap (λ ns. argument_names a ++ ns) (row_names-row arguments)

pub argument_names-Inner : (name : List ℕ) (arguments : List ArgumentTree) → argument_names (Inner name arguments) ≡ names_in arguments
argument_names-Inner name arguments = row_names-row (hidden-the_row-ArgumentTree-0 arguments) ∙ ap names_in (items_hidden-the_row-ArgumentTree-0 arguments)
