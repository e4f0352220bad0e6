use Rattle.disassembler.proofs.Taken as law
use Rattle.disassembler.proofs.laws.one_taking.Goals as goal

pub returns : goal.returns
returns c = law.one_taking
