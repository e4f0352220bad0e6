use Rattle.arm_meaning.proofs.Soundness.{patterns_are_sound}
use Rattle.arm_meaning.proofs.laws.pattern_laws.Goals as goal

pub returns : goal.returns
returns c = patterns_are_sound
