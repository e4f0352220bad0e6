-- What arguments give a name, seen as lists.
use Rattle.std.proofs.Common.{◌≡◌, ℕ, ◌+◌, List, Option, Some, slice_get, refl, ap, ◌∙◌}
use Rattle.std.specs.Option.{option_or}
use Rattle.sled_model.specs.declared.constructor.ConstructorId.{ConstructorId}
use Rattle.sled_model.specs.declared.instance.Instance.{Instance}
use Rattle.sled_model.specs.declared.instance.Operand.{Operand, items_hidden-the_row-Operand-0}
use Rattle.sled_model.specs.declared.instance.Operand.TheBlock.{hidden-the_row-Instance-1}
use Rattle.sled_model.specs.declared.instance.Operand.TheVariants.{Sub}
use Rattle.sled_model.specs.declared.pattern.Argument.{Argument}
use Rattle.sled_model.specs.declared.pattern.Argument.TheVariants.{Inner}
use Rattle.sled_model.specs.declared.pattern.Argument.TheBlock.{hidden-the_row-Pattern-0, hidden-the_row-Argument-2}
use Rattle.sled_model.specs.declared.pattern.Pattern.{Pattern, Row_of-Argument, end_of-Argument, more_of-Argument, items-the_row-Argument, items_hidden-the_row-Argument-2}
use Rattle.sled_model.specs.declared.pattern.Pattern.TheVariants.{Apply}
use denote.Hole.Carrier.{hidden}
use Rattle.match_meaning.specs.Names.{inner_operands, named_among, named_by, named_in}
use Rattle.name_values.specs.Arguments.{named_from}

named_among-row : {n : _} (k : ℕ) (operands : List Operand) (j : ℕ) (arguments : Row_of-Argument n) → named_among k operands j arguments ≡ named_from k operands j (items-the_row-Argument _ arguments)
named_among-row k operands j end_of-Argument = refl
named_among-row k operands j (more_of-Argument a arguments) = ap (option_or (named_by k (slice_get operands j) a)) (named_among-row k operands (j + 1) arguments)

pub named_in-Apply : (k : ℕ) (operands : List Operand) (c : ConstructorId) (arguments : List Argument) → named_in k operands (Apply c arguments) ≡ named_from k operands 0 arguments
named_in-Apply k operands c arguments = named_among-row k operands 0 (hidden-the_row-Argument-2 arguments) ∙ ap (named_from k operands 0) (items_hidden-the_row-Argument-2 arguments)

pub named_by-Inner : (k : ℕ) (o : Option Operand) (p : Pattern) → named_by k o (Inner p) ≡ named_in k (inner_operands o) p
unfolding hidden-the_row-Pattern-0 hidden
named_by-Inner k o p = refl

pub inner_operands-Sub : (i : Instance) → inner_operands (Some (Sub i)) ≡ i.operands
unfolding hidden-the_row-Instance-1 hidden
inner_operands-Sub i = items_hidden-the_row-Operand-0 i.operands

pub ruleset named_laws = (named_in-Apply, named_by-Inner, inner_operands-Sub)
