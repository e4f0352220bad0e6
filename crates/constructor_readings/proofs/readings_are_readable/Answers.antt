use Rattle.constructor_readings.proofs.Kept.{readable_of}
use Rattle.constructor_readings.proofs.readings_are_readable.Goals as goal

pub returns : goal.returns
returns c = readable_of
