use Rattle.std.proofs.Common.{◌≡◌, true, take}
use Rattle.std.specs.List.{list_all}
use Rattle.tree_meaning.specs.Names.{is_among}
use Rattle.tree_meaning.specs.NameTables.{table_names}
use Rattle.tree_meaning.specs.Scopes.{declared_in}
use Rattle.operand_meaning.specs.Limits as of
use Rattle.operand_meaning.proofs.limits.equations_are_within.Given as goal

abbrev pub invariant-loop-equation : goal.invariant-loop-equation
invariant-loop-equation l = list_all (of.equation_is_within (declared_in l.scope) (is_among (table_names l.lone)) (is_among (table_names l.sliced))) (take l.equation-index l.equations) ≡ true
