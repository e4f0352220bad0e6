use Rattle.std.proofs.Common.{◌≡◌, ◌++◌, take}
use Rattle.std.specs.List.{filter_map}
use Rattle.tree_meaning.specs.NameTables.{table_names}
use Rattle.tree_meaning.specs.Scopes.{declared_in}
use Rattle.operand_meaning.specs.Equations as of
use Rattle.operand_meaning.proofs.equations.push_terms.Given as goal

abbrev pub invariant-loop-tree : goal.invariant-loop-tree
invariant-loop-tree l = l.terms ≡ l.initial.terms ++ filter_map (of.term_of (declared_in l.scope) (table_names l.labels) l.operands l.turned) (take l.tree-index l.trees)
