use Rattle.std.proofs.Common.{◌<◌, length, arith, below_more}
use Rattle.std.proofs.Math.ListN.{length-set}
use Rattle.bit_cases.proofs.Joined.{Joins, under_mask, short, met, next_below, next_rest}
use Rattle.bit_cases.proofs.byte_case.ByteCase.join.Goals as goal
use Rattle.bit_cases.proofs.byte_case.ByteCase.join.Goals.{After-max}

pub loop-k-preserved : goal.loop-k-preserved
loop-k-preserved c =
    let a = c.args.self.now in let b = c.args.other.now in let i = c.loop-k.invariant in let k = c.loop-k.k in
    let in_mask : k < length c.loop-k.mask = omega arith in let in_value : k < length c.loop-k.value = omega arith in
    record {
      mask_len = simp length-set i.mask_len;
      value_len = simp length-set i.value_len;
      same = below_more _ _ i.same c.if-self-k.false;
      mask = next_below a.mask b.mask c.loop-k.mask k in_mask i.mask_rest i.mask;
      value = next_below a.value b.value c.loop-k.value k in_value i.value_rest i.value;
      mask_rest = next_rest a.mask b.mask c.loop-k.mask k in_mask i.mask_rest;
      value_rest = next_rest a.value b.value c.loop-k.value k in_value i.value_rest;
    }

joins : (c : After-max) → Joins c.args.self.now.mask c.args.self.now.value c.args.other.now.mask c.args.other.now.value c.loop-k.mask c.loop-k.value
joins c = let i = c.loop-k.invariant in record {
  masks = λ k h. i.mask k (omega arith);
  values = λ k h. i.value k (omega arith);
  under = c.args.self.now.under_mask;
  others = c.args.other.now.under_mask;
  same = λ k h. i.same k (omega arith);
}

pub invariant_of-result : goal.invariant_of-result
invariant_of-result c = let a = c.args.self.now in let b = c.args.other.now in
    record {
      at_most_32 = omega (arith, a.at_most_32, b.at_most_32);
      under_mask = under_mask _ _ _ _ _ _ (joins c);
      short = rw c.max.ensures (short a.mask a.value b.mask b.value c.loop-k.mask c.loop-k.value (joins c) a.len b.len a.short b.short);
    }

pub returns-clause-met : goal.returns-clause-met
returns-clause-met c = let a = c.args.self.now in let b = c.args.other.now in
    λ window. rw c.max.ensures (met a.mask a.value b.mask b.value c.loop-k.mask c.loop-k.value (joins (goal.at.returns-clause-met c).After-max) a.len b.len window)
