use Rattle.std.proofs.Common.{◌≡◌, drop}
use Rattle.arm_meaning.specs.Applications.{arguments_fit}
use Rattle.arm_meaning.proofs.applications.+fits.Given as goal

abbrev pub invariant-arguments_fit-loop-argument : goal.invariant-arguments_fit-loop-argument
invariant-arguments_fit-loop-argument l = arguments_fit l.spec l.kinds l.arguments ≡ arguments_fit l.spec l.left (drop l.argument-index l.arguments)
