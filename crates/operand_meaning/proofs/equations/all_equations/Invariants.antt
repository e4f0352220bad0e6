use Rattle.std.proofs.Common.{◌≡◌, map, take}
use Rattle.tree_meaning.specs.NameTables.{table_names}
use Rattle.tree_meaning.specs.Scopes.{declared_in}
use Rattle.operand_meaning.specs.Equations as of
use Rattle.operand_meaning.proofs.equations.all_equations.Given as goal

abbrev pub invariant-loop-equation : goal.invariant-loop-equation
invariant-loop-equation l = l.made ≡ map (of.equation_of (declared_in l.scope) (table_names l.labels) l.operands) (take l.equation-index l.equations)
