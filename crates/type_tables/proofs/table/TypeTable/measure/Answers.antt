use Rattle.type_tables.proofs.Measured.{measured}
use Rattle.type_tables.proofs.table.TypeTable.measure.Goals as goal

pub returns : goal.returns
returns c =
    measured c.args.self.now c.args.tokens.now c.args.kinds.now c.args.body.now c.requires.plain c.as_slice.result.now c.as_slice.ensures.value c.measures_over.result
    c.measures_over.ensures.form c.measures_over.ensures.weight c.measures_over.ensures.size
