use Rattle.std.proofs.Common.{◌≡◌, ◌<◌, ◌≤◌, ◌++◌, length, take, length-append, length-take, arith, rules}
use Rattle.sled_base.proofs.ReadsLemmas.{Consumes-trans, consumed_end, consumed_front, consumed_none}
use Rattle.sled_base.proofs.reads.read_up_to.Goals as goal

pub returns-then-count-eq0-clause-bytes : goal.returns-then-count-eq0-clause-bytes
returns-then-count-eq0-clause-bytes g c =
    let none : c.in-Ok.count ≡ 0 = c.if-count-eq0.true in
    let got = c.in-Ok.ensures.bytes in
    let more = Consumes-trans _ _ _ c.loop-piece.held.items _ c.loop-piece.invariant.read got.0 in
    let all = consumed_none _ _ c.loop-piece.held.items _ _ more none in
    let room : 0 < length c.read.new.buf = search rules in
    consumed_end _ _ c.loop-piece.held.items c.args.most all (got.1 none room) (omega (arith, c.loop-piece.invariant.within))

pub returns-clause-bytes : goal.returns-clause-bytes
returns-clause-bytes g c = consumed_front _ _ c.loop-piece.held.items c.args.most c.loop-piece.invariant.read (omega (arith, c.loop-piece.invariant.within))

pub returns-in_default-extend_from_slice-clause-lost : goal.returns-in_default-extend_from_slice-clause-lost
returns-in_default-extend_from_slice-clause-lost g c =
    let n = c.in-Ok.count in
    let piece = c.read.new.buf in
    let all = Consumes-trans _ _ _ c.loop-piece.held.items (take n piece) c.loop-piece.invariant.read c.in-Ok.ensures.bytes.0 in
    let long = length-append c.loop-piece.held.items (take n piece) in
    let room = length-take c.min-room.result c.loop-piece.piece in
    (c.loop-piece.held.items ++ take n piece, omega (arith, long, room, c.in-Ok.ensures.bound), all)
