use Rattle.model_rows.proofs.VerdictLaws as worked
use Rattle.model_rows.proofs.verdict_laws.Goals as goal

pub returns : goal.returns
returns c = worked.verdict_laws
