use Rattle.std.proofs.Common.{sym, ap, ◌∙◌, arith, refl}
use Rattle.std.specs.Option.{option_map}
use Rattle.image_listing.proofs.Steps.{a_line}
use Rattle.image_listing.proofs.step.Line.set_place.Goals as goal

pub returns-clause-step : goal.returns-clause-step
returns-clause-step g c taking left stands front least one some =
    let within = rw c.in-Some.is at c.in_ok-count.ensures.within in
    a_line least taking one c.args.place left some c.in-Some.count c.take.new.words.items c.args.window.now _
    (c.in_ok-count.ensures.taken taking left stands front ∙ ap (option_map (λ n. (n, c.take.new.words.items))) c.in-Some.is)
    (omega arith) (omega arith) front (omega (arith, within.1, c.requires.short)) (rw c.deref.ensures.value at c.in_ok-write_line.ensures)
