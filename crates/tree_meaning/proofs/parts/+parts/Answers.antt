use Rattle.std.proofs.Common.{sym}
use Rattle.tree_meaning.proofs.PartLaws.{parts-Labelled}
use Rattle.tree_meaning.proofs.parts.+parts.Goals as goal

pub push_parts_below-returns-in-Labelled : goal.push_parts_below-returns-in-Labelled
push_parts_below-returns-in-Labelled t c = rw (c.in-Labelled.is, parts-Labelled c.in-Labelled.label c.in-Labelled.pattern, sym c.get.ensures) c.push_one_part.ensures
