-- Applications of constructors in an arm: which ones the language admits, and what they stand for.
use Rattle.std.specs.Prelude.{ℕ, Bool, true, false, ◌&&◌, List, [], ◌∷◌, map, Option, Some, None, option_map, option_and_then, unwrap_or, slice_get}
use Rattle.std.specs.Option.{option_map_or}
use Rattle.sled_parser.specs.declared.tree.ArgumentTree.{ArgumentTree, Row_of-ArgumentTree, end_of-ArgumentTree, more_of-ArgumentTree}
use Rattle.sled_parser.specs.declared.tree.ArgumentTree.TheVariants.{Any, Name, Inner'}
use Rattle.sled_model.specs.declared.constructor.Constructor.{Constructor}
use Rattle.sled_model.specs.declared.constructor.ConstructorId.{ConstructorId}
use Rattle.sled_model.specs.declared.constructor.OperandKind.{OperandKind}
use Rattle.sled_model.specs.declared.pattern.Argument.{Argument}
use Rattle.sled_model.specs.declared.pattern.Argument.TheVariants as argument
use Rattle.sled_model.specs.declared.pattern.Pattern.{Pattern}
use Rattle.sled_model.specs.declared.pattern.Pattern.TheVariants as pattern
use Rattle.sled_model.specs.declared.spec.Spec.{Spec}
use Rattle.sled_model.specs.Kinds.{is_of, type_in}
use Rattle.sled_model.specs.Specs.{constructor_names_of}
use Rattle.tree_meaning.specs.Names.{position_of}
use Rattle.tree_meaning.specs.Patterns.{label_number}

-- ---- constructors by name

-- the number of the constructor of that name
abbrev pub number_called : Spec → List ℕ → Option ℕ
number_called spec name = position_of (constructor_names_of spec) name

abbrev pub constructor_called : Spec → List ℕ → Option Constructor
constructor_called spec name = option_and_then (slice_get spec.constructors) (number_called spec name)

-- the kinds of the operands of the constructor of that name
abbrev pub kinds_called : Spec → List ℕ → Option (List OperandKind)
kinds_called spec name = option_map (λ (c : Constructor). c.operands) (constructor_called spec name)

-- ---- what is admitted

abbrev mutual
  -- Whether the argument may stand for an operand of the kind: `_` and a name for any, and an application for a typed one, where the
  -- constructor of its name makes the type and its own arguments fit.
  pub argument_fits : Spec → OperandKind → ArgumentTree → Bool
  argument_fits spec kind (Inner' name s arguments) = option_map_or (is_of (type_in kind)) (constructor_called spec name) false && row_fits spec (kinds_called spec name) arguments
  argument_fits spec kind _ = true

  pub row_fits : {n : _} → Spec → Option (List OperandKind) → Row_of-ArgumentTree n → Bool
  row_fits spec None arguments = false
  row_fits spec (Some []) end_of-ArgumentTree = true
  row_fits spec (Some []) (more_of-ArgumentTree a arguments) = false
  row_fits spec (Some (kind ∷ kinds)) end_of-ArgumentTree = false
  row_fits spec (Some (kind ∷ kinds)) (more_of-ArgumentTree a arguments) = argument_fits spec kind a && row_fits spec (Some kinds) arguments

-- one argument for each operand, and each may stand for its own
abbrev pub arguments_fit : Spec → List OperandKind → List ArgumentTree → Bool
arguments_fit spec [] [] = true
arguments_fit spec (kind ∷ kinds) (a ∷ arguments) = argument_fits spec kind a && arguments_fit spec kinds arguments
arguments_fit spec _ _ = false

-- the name is a constructor's, and the arguments fit its operands
abbrev pub application_fits : Spec → List ℕ → List ArgumentTree → Bool
application_fits spec name arguments = option_map_or (λ kinds. arguments_fit spec kinds arguments) (kinds_called spec name) false

-- ---- what is meant

-- the constructor of that name, or the first where there is none
abbrev pub constructor_or_first : Spec → List ℕ → ConstructorId
constructor_or_first spec name = record { 0 = unwrap_or (number_called spec name) 0 }

abbrev mutual
  -- What the argument stands for, where the arm binds these names: `_` for nothing, a name for its number among them, and an application
  -- for the pattern that it is.
  pub argument_of : Spec → List (List ℕ) → ArgumentTree → Argument
  argument_of spec names Any = argument.Any
  argument_of spec names (Name w) = argument.Name (label_number names w)
  argument_of spec names (Inner' name s arguments) = argument.Inner (pattern.Apply (constructor_or_first spec name) (row_arguments spec names arguments))

  pub row_arguments : {n : _} → Spec → List (List ℕ) → Row_of-ArgumentTree n → List Argument
  row_arguments spec names end_of-ArgumentTree = []
  row_arguments spec names (more_of-ArgumentTree a arguments) = argument_of spec names a ∷ row_arguments spec names arguments

-- the pattern that an application is
abbrev pub application_of : Spec → List (List ℕ) → List ℕ → List ArgumentTree → Pattern
application_of spec names name arguments = pattern.Apply (constructor_or_first spec name) (map (argument_of spec names) arguments)
