use Rattle.constructor_readings.proofs.Kept.{tokens_kept}
use Rattle.constructor_readings.proofs.tokens_keep_readings.Goals as goal

pub returns : goal.returns
returns c = λ spec tokens class_names field_names sound grows before. tokens_kept spec sound tokens class_names field_names grows before
