use Rattle.std.proofs.Common.{◌≡◌, ◌++◌, drop}
use Rattle.sled_model.specs.Results.{choices_from}
use Rattle.sled_model.specs.PatternContexts.{known_in}
use Rattle.sled_model.proofs.choices.type_results.Given as goal

abbrev pub invariant-loop-k : goal.invariant-loop-k
invariant-loop-k l = choices_from 0 (known_in l.near) l.of l.near.window.now l.at ≡ l.found ++ choices_from l.k (drop l.k (known_in l.near)) l.of l.near.window.now l.at
