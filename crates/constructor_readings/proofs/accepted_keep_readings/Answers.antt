use Rattle.constructor_readings.proofs.MadeFits.{built_readings}
use Rattle.constructor_readings.proofs.accepted_keep_readings.Goals as goal

pub returns : goal.returns
returns c = λ spec declared d sound fields types patterns accepted before. built_readings spec declared d sound accepted fields patterns types before
