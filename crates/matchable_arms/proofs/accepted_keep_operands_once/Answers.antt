use Rattle.matchable_arms.proofs.Accepted.{built_once}
use Rattle.matchable_arms.proofs.accepted_keep_operands_once.Goals as goal

pub returns : goal.returns
returns c = λ spec declared k sound nothing accepted before. built_once spec declared k sound accepted.met nothing before
