use Rattle.std.proofs.Common.{◌≡◌, drop}
use Rattle.sled_model.specs.Admitted.{list_admits}
use Rattle.sled_model.specs.PatternContexts.{known_in}
use Rattle.sled_model.proofs.admitted.+admitted.Given as goal

abbrev pub invariant-arguments_admit-loop-operand : goal.invariant-arguments_admit-loop-operand
invariant-arguments_admit-loop-operand l =
    list_admits (known_in l.near) l.constructor l.inner 0 l.arguments ≡ list_admits (known_in l.near) l.constructor l.inner l.operand (drop l.operand l.arguments)
