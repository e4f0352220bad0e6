use Rattle.std.proofs.Common.{ℕ, List, refl, subst, [], drop, ◌+◌}
use Rattle.std.proofs.lemmas.Option.{slice_get_read}
use Rattle.eq_solver.specs.Pieces.{Piece}
use Rattle.eq_solver.specs.Sums.{at, setting_from}
use Rattle.eq_solver.specs.Given.{pieces_of}
use Rattle.eq_solver.proofs.SlicesWritten.{IsPartlyMade, small_pieces, begun, room_before, one_read, next_pieces}
use Rattle.eq_solver.proofs.given.write_slices.Goals as goal

pub loop-number-init : goal.loop-number-init
loop-number-init c = λ k.
    begun _ _ _ (small_pieces (setting_from c.args.halves.now [] c.args.labels.now) (at c.args.fields.now) c.args.values.now c.requires.fits k c.args.numbers.now) refl (c.requires.chains k)

pub write_slice-requires-clause-fits : goal.write_slice-requires-clause-fits
write_slice-requires-clause-fits c =
    c.requires.fits _ c.index-values-number.result (slice_get_read _ _ _ _ refl (c.requires.within c.loop-number.number-index 0 c.loop-number-test.true) c.index-values-number.is)

pub write_slice-requires-clause-room : goal.write_slice-requires-clause-room
write_slice-requires-clause-room c =
    let w = setting_from c.args.halves.now [] c.args.labels.now in
    let v = at c.args.fields.now in
    let g = c.index-values-number.result in
    let there = slice_get_read _ _ _ _ refl (c.requires.within c.loop-number.number-index 0 c.loop-number-test.true) c.index-values-number.is in
    room_before w v g (at c.args.out.now) (λ k. pieces_of w v c.args.values.now k c.args.numbers.now) (λ k. pieces_of w v c.args.values.now k (drop (c.loop-number.number-index + 1) c.args.numbers.now)) g.target (at c.loop-number.out)
    (λ k. subst (λ (rest : List Piece). IsPartlyMade (pieces_of w v c.args.values.now k c.args.numbers.now) rest (at c.args.out.now k) (at c.loop-number.out k)) (next_pieces w v c.args.values.now c.args.numbers.now c.loop-number.number-index 0 g c.loop-number-test.true there k)
    (c.loop-number.invariant k))

pub loop-number-preserved : goal.loop-number-preserved
loop-number-preserved c =
    let w = setting_from c.args.halves.now [] c.args.labels.now in
    let v = at c.args.fields.now in
    let g = c.index-values-number.result in
    let there = slice_get_read _ _ _ _ refl (c.requires.within c.loop-number.number-index 0 c.loop-number-test.true) c.index-values-number.is in
    one_read w v g (at c.args.out.now) (λ k. pieces_of w v c.args.values.now k c.args.numbers.now) (λ k. pieces_of w v c.args.values.now k (drop (c.loop-number.number-index + 1) c.args.numbers.now)) g.target (at c.loop-number.out) (at c.write_slice.new.out)
    c.write_slice.ensures
    (λ k. subst (λ (rest : List Piece). IsPartlyMade (pieces_of w v c.args.values.now k c.args.numbers.now) rest (at c.args.out.now k) (at c.loop-number.out k)) (next_pieces w v c.args.values.now c.args.numbers.now c.loop-number.number-index 0 g c.loop-number-test.true there k)
    (c.loop-number.invariant k))
