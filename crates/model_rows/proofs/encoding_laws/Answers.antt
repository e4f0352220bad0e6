use Rattle.model_rows.proofs.EncodingLaws as worked
use Rattle.model_rows.proofs.encoding_laws.Goals as goal

pub returns : goal.returns
returns c = worked.encoding_laws
