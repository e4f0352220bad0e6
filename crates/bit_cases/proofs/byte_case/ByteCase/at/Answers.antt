use Rattle.bit_cases.proofs.Moved.{under_mask, short, met}
use Rattle.bit_cases.proofs.byte_case.ByteCase.at.Goals as goal

pub invariant_of-result : goal.invariant_of-result
invariant_of-result c = let a = c.args in record {
  at_most_32 = c.requires.fits;
  under_mask = under_mask a.offset a.mask.now a.value.now c.moved.result c.moved-2.result c.moved.ensures c.moved-2.ensures c.requires.lengths c.requires.under;
  short = short a.offset a.mask.now a.value.now c.moved.result c.moved-2.result c.moved.ensures c.moved-2.ensures c.requires.lengths c.requires.under;
}

pub returns-clause-meets : goal.returns-clause-meets
returns-clause-meets c = let a = c.args in
    λ window. met a.offset a.mask.now a.value.now c.moved.result c.moved-2.result c.moved.ensures c.moved-2.ensures c.requires.lengths c.requires.under c.requires.fits window
