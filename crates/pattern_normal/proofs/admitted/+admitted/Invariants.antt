use Rattle.std.proofs.Common.{◌≡◌, [], drop}
use Rattle.sled_model.specs.Admitted.{list_admits}
use Rattle.pattern_normal.specs.Skeletons.{read_entries}
use Rattle.pattern_normal.specs.Surroundings.{around, known_of}
use Rattle.pattern_normal.proofs.admitted.+admitted.Given as goal

abbrev pub invariant-arguments_admit-loop-operand : goal.invariant-arguments_admit-loop-operand
invariant-arguments_admit-loop-operand l =
    list_admits (known_of (around l.near)) l.constructor (read_entries l.near.tokens.now [] l.inner) 0 l.arguments
    ≡ list_admits (known_of (around l.near)) l.constructor (read_entries l.near.tokens.now [] l.inner) l.operand (drop l.operand l.arguments)
