use Rattle.instance_reading.proofs.Lookups.{declared_within, read_is}
use Rattle.instance_reading.proofs.bound.Bound.declared.Goals as goal

pub bounds-as_slice-self : goal.bounds-as_slice-self
bounds-as_slice-self c = declared_within c.args.self.now c.requires c.as_slice.result.now c.as_slice.ensures

pub returns : goal.returns
returns c =
    let b = c.args.self.now in
    read_is b.place.spec.now.constructors c.as_slice.result.now b.constructor.0 c.index-as_slice-self.result c.as_slice.ensures
    (declared_within b c.requires c.as_slice.result.now c.as_slice.ensures) c.index-as_slice-self.is
