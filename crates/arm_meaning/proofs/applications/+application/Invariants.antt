use Rattle.std.proofs.Common.{◌≡◌, map, take}
use Rattle.tree_meaning.specs.NameTables.{table_names}
use Rattle.arm_meaning.specs.Applications.{argument_of}
use Rattle.arm_meaning.proofs.applications.+application.Given as goal

abbrev pub invariant-arguments_of-loop-argument : goal.invariant-arguments_of-loop-argument
invariant-arguments_of-loop-argument l = l.made ≡ map (argument_of l.spec (table_names l.names)) (take l.argument-index l.arguments)
