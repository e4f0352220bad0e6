use Rattle.std.proofs.Common.{[], get_or, ap, ◌∙◌}
use Rattle.sled_model.specs.Measures.{capped, weight}
use Rattle.type_tables.proofs.measures.measures_over.Goals as goal

pub returns-clause-weight : goal.returns-clause-weight
returns-clause-weight c =
    c.weight_over-weight.ensures ∙ ap (λ ws. capped (weight c.args.tokens.now [] (λ k. get_or ws k 0) c.args.body.now)) (c.as_slice-2.ensures ∙ c.in_ok-weights.ensures)
