use Rattle.std.proofs.Common.{ap, ◌∙◌}
use Rattle.sled_model.specs.Shapes.{are_closed}
use Rattle.pattern_shapes.proofs.FormLemmas.{closed_of_form}
use Rattle.pattern_shapes.proofs.form.Form.is_closed.Goals as goal

pub returns-clause-of_pattern : goal.returns-clause-of_pattern
returns-clause-of_pattern c cx p h = c.is_closed.ensures ∙ ap are_closed c.as_slice.ensures ∙ closed_of_form cx p c.args.self.now h
