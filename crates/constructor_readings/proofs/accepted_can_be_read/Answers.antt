use Rattle.constructor_readings.proofs.MadeReadings.{made_readable}
use Rattle.constructor_readings.proofs.accepted_can_be_read.Goals as goal

pub returns : goal.returns
returns c = λ spec declared d sound fields patterns accepted. made_readable spec declared d sound accepted.met patterns accepted.numbers fields accepted.plans
