use Rattle.std.proofs.Common.{sym, ◌∙◌}
use Rattle.std.proofs.lemmas.Bool.{ne_eqb}
use Rattle.pattern_shapes.proofs.CompareLemmas.{same_from_front, not_same_from_lengths}
use Rattle.pattern_shapes.proofs.compare.are_same_classes.Goals as goal

pub returns-then-a-b : goal.returns-then-a-b
returns-then-a-b c = c.is_front.ensures ∙ same_from_front c.args.a.now c.args.b.now c.if-a-b.true

pub returns-else-a-b : goal.returns-else-a-b
returns-else-a-b c = ne_eqb _ _ c.if-a-b.false ∙ sym (not_same_from_lengths c.args.a.now c.args.b.now c.if-a-b.false)
