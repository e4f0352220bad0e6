use Rattle.std.proofs.Common.{◌≡◌, [], take}
use Rattle.sled_model.specs.Results.{known_from}
use Rattle.sled_model.specs.PatternContexts.{table_of}
use Rattle.sled_model.proofs.bodies.body_table.Given as goal

abbrev pub invariant-loop-k : goal.invariant-loop-k
invariant-loop-k l = l.table ≡ table_of l.window (known_from l.tokens [] (take l.k l.constructors))
