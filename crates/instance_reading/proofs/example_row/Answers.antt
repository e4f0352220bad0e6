use Rattle.instance_reading.proofs.Worked as worked
use Rattle.instance_reading.proofs.example_row.Goals as goal

pub returns : goal.returns
returns c = worked.example
