use Rattle.acceptance_laws.proofs.Descriptions.{accepted_sound}
use Rattle.acceptance_laws.proofs.accepted_are_sound.Goals as goal

pub returns : goal.returns
returns c = λ input decls short is numbers lacks. accepted_sound input decls short is numbers lacks
