use Rattle.std.proofs.Common.{◌≡◌, true, take}
use Rattle.std.specs.Prelude.{is_some}
use Rattle.std.specs.List.{list_all, filter_map}
use Rattle.tree_meaning.specs.Names.{is_among}
use Rattle.tree_meaning.specs.NameTables.{table_names}
use Rattle.tree_meaning.specs.Scopes.{declared_in}
use Rattle.operand_meaning.specs.Operands as of
use Rattle.operand_meaning.proofs.kinds.kinds_over.Given as goal

abbrev pub invariant-loop-operand : goal.invariant-loop-operand
invariant-loop-operand l = record {
  kinds : l.kinds ≡ filter_map (of.kind_over (declared_in l.scope) (is_among (table_names l.sliced))) (take l.operand-index l.operands);
  known : list_all (λ o. is_some (of.kind_over (declared_in l.scope) (is_among (table_names l.sliced)) o)) (take l.operand-index l.operands) ≡ true;
}
