use Rattle.type_tables.proofs.Added.{gain_set, gain_past}
use Rattle.type_tables.proofs.types.add_made.Goals as goal

pub returns-in_ok-add_to_type : goal.returns-in_ok-add_to_type
returns-in_ok-add_to_type c =
    gain_set c.args.made c.args.measures c.in-Some.id c.args.types.now c.index-types-at.result c.add_to_type.new.entry c.in-Some.is c.if-at-types.true c.index-types-at.is c.in_ok-add_to_type.ensures

pub returns-else-at-types : goal.returns-else-at-types
returns-else-at-types c = gain_past c.args.made c.args.measures c.in-Some.id c.args.types.now c.in-Some.is c.if-at-types.false
