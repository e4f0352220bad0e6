use Rattle.std.proofs.Common.{◌≡◌, ◌++◌, ap, ◌∙◌, arith}
use Rattle.std.proofs.lemmas.List.{length-append}
use Rattle.std.proofs.lemmas.List.Elements.{All-append, All-get_or}
use Rattle.std.specs.Option.{option_to_list}
use Rattle.pattern_normal.specs.Alternatives.{shown, both_row, IsBetween}
use Rattle.pattern_normal.proofs.Shown.{grown, both_row-append}
use Rattle.pattern_normal.proofs.Ends.{ends_of_met, at_most_one}
use Rattle.pattern_normal.proofs.alternative.push_met.Goals as goal

pub loop-other-preserved : goal.loop-other-preserved
loop-other-preserved c =
    let a = c.args.first.now in let item = c.other-item.result in let i = c.loop-other.other-index in let more = option_to_list c.in_ok-both.both in
    let told : c.keep.new.alternatives ≡ c.loop-other.pairs ++ more = c.in_ok-keep.ensures in
    record {
      shown = λ tokens w. ap (shown tokens w) told ∙ grown tokens w (both_row tokens w a) (both_row-append tokens w a) (shown tokens w c.args.pairs.now) c.loop-other.pairs more
          c.args.others.now i item (omega arith) c.other-item.is (c.loop-other.invariant.shown tokens w) (c.in_ok-both.ensures.met tokens w);
      ends = λ least most p q r. rw told (All-append (IsBetween least most) c.loop-other.pairs more (c.loop-other.invariant.ends least most p q r)
          (ends_of_met least most a item c.in_ok-both.both c.in_ok-both.ensures.len p (rw c.other-item.is (All-get_or (IsBetween least most) c.args.others.now i item (omega arith) q))));
      count = rw (told, length-append c.loop-other.pairs more) (omega (arith, at_most_one c.in_ok-both.both, c.loop-other.invariant.count));
    }
