use Rattle.std.proofs.Common.{arith}
use Rattle.name_values.specs.Values.{entry_at, IsReadAs}
use Rattle.name_values.proofs.Zips.{zip_mapped_length, zip_mapped_at}
use Rattle.name_values.proofs.entries.name_value.Goals as goal

pub bounds-instances-i : goal.bounds-instances-i
bounds-instances-i c =
    let place = c.args.place.now in
    let same = zip_mapped_length (IsReadAs place.spec.now place.location) (entry_at place) c.args.spots.now c.args.instances.now c.requires.read in omega (arith, same)

pub given-requires-clause-read : goal.given-requires-clause-read
given-requires-clause-read c =
    let place = c.args.place.now in
    zip_mapped_at (IsReadAs place.spec.now place.location) (entry_at place) c.args.spots.now c.args.instances.now c.loop-i.i c.index-spots-i.result c.index-instances-i.result c.requires.read (omega arith)
    c.index-spots-i.is c.index-instances-i.is
