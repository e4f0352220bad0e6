use Rattle.std.proofs.Common.{◌≡◌, map, sum, take}
use Rattle.sled_model.specs.Measures.{capped, greatest}
use Rattle.application_measures.specs.Parts.{len_among}
use Rattle.application_measures.proofs.lengths.+len.Given as goal

abbrev pub invariant-len_sum-loop-part : goal.invariant-len_sum-loop-part
invariant-len_sum-loop-part l = l.all ≡ capped (sum (map (len_among l.tokens l.operands) (take l.part-index l.parts)))

abbrev pub invariant-greatest_len-loop-part : goal.invariant-greatest_len-loop-part
invariant-greatest_len-loop-part l = l.all ≡ capped (greatest (map (len_among l.tokens l.operands) (take l.part-index l.parts)))
