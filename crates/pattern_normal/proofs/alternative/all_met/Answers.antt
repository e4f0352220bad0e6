use Rattle.std.proofs.Common.{arith}
use Rattle.pattern_normal.proofs.Pairs.{pairs_more}
use Rattle.pattern_normal.proofs.alternative.all_met.Goals as goal

pub loop-first-preserved : goal.loop-first-preserved
loop-first-preserved c = pairs_more c.args.firsts.now c.loop-first.first-index c.first-item.result (omega arith) c.first-item.is c.args.seconds.now c.loop-first.pairs c.push_met.new.pairs
    c.loop-first.invariant c.in_ok-push_met.ensures.shown c.in_ok-push_met.ensures.ends c.in_ok-push_met.ensures.count
