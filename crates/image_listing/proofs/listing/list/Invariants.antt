use Rattle.std.proofs.Common.{◌≤◌, ◌-◌, ◌^◌}
use Rattle.image_listing.specs.Listing.{Taking}
use Rattle.image_listing.specs.Places.{HasCome}
use Rattle.image_listing.proofs.listing.list.Given as goal

abbrev pub invariant-loop-line : goal.invariant-loop-line
invariant-loop-line g l = record {
  come : HasCome (g.D.Decoder.is_taking l.initial.decoder) l.base (g.I.Source.left l.initial.source) (g.I.Source.left l.source) (g.O.Sink.contents l.initial.sink) (g.O.Sink.contents l.sink) l.window.held.items l.window.at_end l.places l.end;
  stands : (taking : Taking) → g.D.Decoder.is_taking l.initial.decoder taking → g.D.Decoder.is_taking l.decoder taking;
  later : g.I.Source.faults l.initial.source ≤ g.I.Source.faults l.source;
  later_out : g.O.Sink.faults l.initial.sink ≤ g.O.Sink.faults l.sink;
}

abbrev pub decreases-loop-line : goal.decreases-loop-line
decreases-loop-line g l = 2 ^ 32 - l.end
