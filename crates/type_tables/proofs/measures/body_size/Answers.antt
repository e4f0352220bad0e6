use Rattle.std.proofs.Common.{[], ◌+◌, ◌≡◌, ℕ, get_or, sum_by, ap, ◌∙◌, arith}
use Rattle.sled_model.specs.Measures.{capped, number_size, size}
use Rattle.type_tables.proofs.measures.body_size.Goals as goal

three_capped : (r s b n m : ℕ) → r ≡ capped (s + b) → s ≡ capped (1 + capped n) → b ≡ capped m → r ≡ capped (1 + n + m)
three_capped r s b n m e f g = omega (arith, e, f, g)

pub returns : goal.returns
returns c =
    three_capped c.capped_sum-2.result c.capped_sum.result c.size_over-body.result (sum_by number_size c.args.kinds.now) _
    c.capped_sum-2.ensures (c.capped_sum.ensures ∙ ap (λ n. capped (1 + n)) c.number_sizes.ensures)
    (c.size_over-body.ensures ∙ ap (λ (ns : _). capped (size [] (λ k. get_or ns k 0) c.args.body.now)) (c.as_slice.ensures ∙ c.in_ok-sizes.ensures))
