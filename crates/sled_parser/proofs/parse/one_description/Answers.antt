use Rattle.sled_parser.proofs.OnlyDescription as only
use Rattle.sled_parser.proofs.parse.one_description.Goals as goal

pub returns : goal.returns
returns c = only.one_description
