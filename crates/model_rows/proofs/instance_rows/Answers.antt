use Rattle.model_rows.proofs.WorkedInstances as worked
use Rattle.model_rows.proofs.instance_rows.Goals as goal

pub returns : goal.returns
returns c = worked.instance_rows
