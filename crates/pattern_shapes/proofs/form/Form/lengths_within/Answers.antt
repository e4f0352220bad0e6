use Rattle.std.proofs.Common.{ap, ◌∙◌}
use Rattle.sled_model.specs.Shapes.{lengths_within}
use Rattle.pattern_shapes.proofs.FormLemmas.{lengths_of_form}
use Rattle.pattern_shapes.proofs.form.Form.lengths_within.Goals as goal

pub returns-clause-of_pattern : goal.returns-clause-of_pattern
returns-clause-of_pattern c cx p h =
    let a = c.args in
    c.lengths_within.ensures ∙ ap (lengths_within a.least a.most a.tokens.now) c.as_slice.ensures ∙ lengths_of_form a.least a.most a.tokens.now cx p a.self.now h
