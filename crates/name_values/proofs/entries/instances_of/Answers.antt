use Rattle.std.proofs.Common.{arith}
use Rattle.name_values.specs.Values.{entry_at, IsBodyChoice, IsReadAs}
use Rattle.name_values.proofs.Zips.{zip_mapped, all_mapped_at}
use Rattle.name_values.proofs.entries.instances_of.Goals as goal

pub spot_instance-requires-clause-results : goal.spot_instance-requires-clause-results
spot_instance-requires-clause-results c =
    let place = c.args.place.now in
    all_mapped_at (IsBodyChoice place.spec.now) (entry_at place) c.args.spots.now c.loop-spot.spot-index c.spot-item.result c.requires.results (omega arith) c.spot-item.is

pub loop-spot-preserved : goal.loop-spot-preserved
loop-spot-preserved c =
    let place = c.args.place.now in
    zip_mapped (IsReadAs place.spec.now place.location) (entry_at place) c.args.spots.now c.loop-spot.spot-index c.spot-item.result c.loop-spot.instances c.push.new.self c.in_ok-spot_instance.field-0
    (omega arith) c.spot-item.is c.loop-spot.invariant c.in_ok-spot_instance.ensures c.in_ok-push.ensures.ok
