use Rattle.model_rows.proofs.WorkedSolving as worked
use Rattle.model_rows.proofs.solving_rows.Goals as goal

pub returns : goal.returns
returns c = worked.solving_rows
