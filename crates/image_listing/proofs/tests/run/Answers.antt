use Rattle.std.proofs.Common.{refl}
use Rattle.image_listing.specs.Small.{small_taking}
use Rattle.image_listing.proofs.tests.run.Goals as goal

pub list-answer-requires : goal.list-answer-requires
list-answer-requires c = (small_taking, refl)
