use Rattle.std.proofs.Common.{sym, ap, ◌∙◌, ◌<◌, length, get_or, arith}
use Rattle.token_bits.specs.declared.tokens.ClassId.{ClassId}
use Rattle.sled_model.specs.Shapes.{class_bytes}
use Rattle.pattern_shapes.proofs.CompareLemmas.{past_most}
use Rattle.pattern_shapes.proofs.measure.length_within.Goals as goal

pub returns-then-left-bytes : goal.returns-then-left-bytes
returns-then-left-bytes c =
    let a = c.args in let cs = a.shape.now.classes in let f = class_bytes a.tokens.now in let i = c.loop-class.class-index in
    let d : ClassId = record { 0 = 0 } in
    let same = ap length c.as_slice-class-items.ensures in
    let is = c.class_bytes-bytes.ensures ∙ ap (λ xs. f (get_or xs i d)) c.as_slice-class-items.ensures in
    let within : i < length cs = omega arith in
    let short : c.loop-class.left < f (get_or cs i d) = omega arith in
    sym (past_most f cs i d c.loop-class.left a.most a.least within c.loop-class.invariant short)
