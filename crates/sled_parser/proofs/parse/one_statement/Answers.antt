use Rattle.sled_parser.proofs.Only as only
use Rattle.sled_parser.proofs.parse.one_statement.Goals as goal

pub returns : goal.returns
returns c = only.one_statement
