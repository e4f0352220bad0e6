use Rattle.arm_meaning.proofs.AllLaws.{actions_write_instances, names_are_operands, actions_name_their_names}
use Rattle.arm_meaning.proofs.laws.all_laws.Goals as goal

pub returns-clause-writes : goal.returns-clause-writes
returns-clause-writes c = actions_write_instances

pub returns-clause-names : goal.returns-clause-names
returns-clause-names c = names_are_operands

pub returns-clause-bound : goal.returns-clause-bound
returns-clause-bound c = actions_name_their_names
