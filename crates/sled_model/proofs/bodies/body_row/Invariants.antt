use Rattle.std.proofs.Common.{◌≡◌, map}
use Rattle.std.specs.List.{range_with_len}
use Rattle.sled_model.specs.Results.{results}
use Rattle.sled_model.specs.PatternContexts.{context_in}
use Rattle.sled_model.proofs.bodies.body_row.Given as goal

abbrev pub invariant-loop-at : goal.invariant-loop-at
invariant-loop-at l = l.row ≡ map (results (context_in l.near) l.body l.near.window.now) (range_with_len 0 l.at)
