use Rattle.std.proofs.Common.{◌≡◌, take}
use Rattle.tree_meaning.specs.Names.{merged}
use Rattle.tree_meaning.specs.NameTables.{table_names}
use Rattle.arm_meaning.specs.Bound.{names_in}
use Rattle.arm_meaning.proofs.NameLemmas.{are_fresh}
use Rattle.arm_meaning.proofs.bindings.+arguments.Given as goal

abbrev pub invariant-add_names-loop-argument : goal.invariant-add_names-loop-argument
invariant-add_names-loop-argument l = record {
  names : table_names l.names ≡ merged (table_names l.initial.names) (names_in (take l.argument-index l.arguments));
  new : l.all_new ≡ are_fresh (table_names l.initial.names) (names_in (take l.argument-index l.arguments));
}
