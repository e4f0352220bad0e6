use Rattle.model_rows.proofs.WorkedEncoding as worked
use Rattle.model_rows.proofs.encoding_rows.Goals as goal

pub returns : goal.returns
returns c = worked.encoding_rows
