use Rattle.std.proofs.Common.{◌≤◌, ◌-◌, cond, length}
use Rattle.image_listing.specs.Places.{Filled}
use Rattle.image_listing.proofs.window.Window.fill.Given as goal

abbrev pub invariant-loop-self : goal.invariant-loop-self
invariant-loop-self g l = record {
  filled : Filled l.initial.self.held.items l.self.held.items l.initial.self.at_end l.self.at_end (g.I.Source.left l.initial.source) (g.I.Source.left l.source);
  later : g.I.Source.faults l.initial.source ≤ g.I.Source.faults l.source;
}

abbrev pub decreases-loop-self : goal.decreases-loop-self
decreases-loop-self g l = cond l.self.at_end 0 (33 - length l.self.held.items)
