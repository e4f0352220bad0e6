use Rattle.name_values.proofs.OneValue as law
use Rattle.name_values.proofs.laws.one_value_each.Goals as goal

pub returns : goal.returns
returns c = law.one_value_each
