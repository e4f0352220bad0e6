use Rattle.std.proofs.Common.{length}
use Rattle.constructor_building.proofs.KnownLemmas.{body_plain}
use Rattle.constructor_building.proofs.adding.add_one.Goals as goal

pub measure-requires-clause-plain : goal.measure-requires-clause-plain
measure-requires-clause-plain c = body_plain c.args.spec.now (length c.args.spec.now.type_names) c.args.constructor c.requires.known
