use Rattle.model_rows.proofs.WorkedEvents as worked
use Rattle.model_rows.proofs.event_rows.Goals as goal

pub returns : goal.returns
returns c = worked.event_rows
