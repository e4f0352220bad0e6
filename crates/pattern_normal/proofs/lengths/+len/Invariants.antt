use Rattle.std.proofs.Common.{◌≡◌, map, sum, take}
use Rattle.sled_model.specs.Measures.{capped, greatest}
use Rattle.pattern_normal.specs.Alone.{lone_len}
use Rattle.pattern_normal.proofs.lengths.+len.Given as goal

abbrev pub invariant-len_sum-loop-part : goal.invariant-len_sum-loop-part
invariant-len_sum-loop-part l = l.all ≡ capped (sum (map (lone_len l.tokens) (take l.part-index l.parts)))

abbrev pub invariant-greatest_len-loop-part : goal.invariant-greatest_len-loop-part
invariant-greatest_len-loop-part l = l.all ≡ capped (greatest (map (lone_len l.tokens) (take l.part-index l.parts)))
