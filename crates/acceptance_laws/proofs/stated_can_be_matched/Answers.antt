use Rattle.acceptance_laws.proofs.Statements.{stated_matchable}
use Rattle.acceptance_laws.proofs.stated_can_be_matched.Goals as goal

pub returns : goal.returns
returns c = λ d tree whole met. stated_matchable d whole tree met
