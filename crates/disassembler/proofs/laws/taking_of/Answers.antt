use Rattle.disassembler.proofs.Taken as law
use Rattle.disassembler.proofs.laws.taking_of.Goals as goal

pub returns : goal.returns
returns c = law.taking_of
