-- What arguments give a name, over a list of them.
use Rattle.std.specs.Prelude.{ℕ, ◌+◌, ◌==◌, ◌&&◌, Bool, true, false, List, [], ◌∷◌, Option, None, slice_get}
use Rattle.std.specs.Option.{option_or}
use Rattle.sled_model.specs.declared.instance.Operand.{Operand}
use Rattle.sled_model.specs.declared.pattern.Argument.{Argument}
use Rattle.sled_model.specs.declared.pattern.Argument.TheVariants.{Name}
use Rattle.match_meaning.specs.Names.{named_by}

-- the operand that the arguments, the first of which stands for operand number j, give the name of this number
abbrev pub named_from : ℕ → List Operand → ℕ → List Argument → Option Operand
named_from k operands j [] = None
named_from k operands j (a ∷ arguments) = option_or (named_by k (slice_get operands j) a) (named_from k operands (j + 1) arguments)

-- whether the argument is the name of this number
abbrev pub is_name : ℕ → Argument → Bool
is_name k (Name j) = j == k
is_name k _ = false

-- whether the arguments are the names from this number on, in order
abbrev pub are_names_from : ℕ → List Argument → Bool
are_names_from k [] = true
are_names_from k (a ∷ arguments) = is_name k a && are_names_from (k + 1) arguments
