use Rattle.name_values.proofs.Results as law
use Rattle.name_values.proofs.laws.arm_results_mean.Goals as goal

pub returns : goal.returns
returns c = law.arm_results_mean
