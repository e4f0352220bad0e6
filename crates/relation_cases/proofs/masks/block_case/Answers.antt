use Rattle.std.proofs.Common.{arith}
use Rattle.bit_cases.proofs.MeetsTest.{meets-true, meets-from}
use Rattle.relation_cases.specs.Cases.{is_met}
use Rattle.relation_cases.proofs.BlockCase.{asked, asked_under, asked_met}
use Rattle.relation_cases.proofs.masks.block_case.Goals as goal

pub at-requires-clause-under : goal.at-requires-clause-under
at-requires-clause-under c =
    let a = c.args in let r = c.requires in
    asked_under a.class a.field a.block _ _
    (asked a.class a.field a.block c.byte_count-count.result c.token_mask.result c.token_value.result c.token_bytes-mask.result c.token_bytes-value.result
    r.width r.order r.within r.block c.byte_count-count.ensures c.token_mask.ensures c.token_value.ensures (omega arith) c.token_bytes-mask.ensures c.token_bytes-value.ensures)

pub returns-clause-met : goal.returns-clause-met
returns-clause-met c =
    let a = c.args in let r = c.requires in let case = c.at.result in
    λ window bytes. asked_met a.class a.field a.block _ _
    (asked a.class a.field a.block c.byte_count-count.result c.token_mask.result c.token_value.result c.token_bytes-mask.result c.token_bytes-value.result
    r.width r.order r.within r.block c.byte_count-count.ensures c.token_mask.ensures c.token_value.ensures (omega arith) c.token_bytes-mask.ensures c.token_bytes-value.ensures)
    a.at window bytes (is_met window case)
    (λ t. (c.at.ensures.meets window).0 (meets-true case.mask case.value case.len window t)) (λ h. meets-from case.mask case.value case.len window ((c.at.ensures.meets window).1 h))
