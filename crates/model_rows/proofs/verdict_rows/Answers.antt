use Rattle.model_rows.proofs.WorkedVerdicts as worked
use Rattle.model_rows.proofs.verdict_rows.Goals as goal

pub returns : goal.returns
returns c = worked.verdict_rows
