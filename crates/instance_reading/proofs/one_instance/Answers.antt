use Rattle.instance_reading.proofs.OneInstance as law
use Rattle.instance_reading.proofs.one_instance.Goals as goal

pub returns : goal.returns
returns c = law.one_instance
