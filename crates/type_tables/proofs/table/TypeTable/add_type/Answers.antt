use Rattle.std.proofs.Common.{[], ◌∷◌, ◌++◌, false, ap, ◌∙◌}
use Rattle.type_tables.proofs.Added.{type_added}
use Rattle.type_tables.proofs.table.TypeTable.add_type.Goals as goal

pub returns-clause-added : goal.returns-clause-added
returns-clause-added c = λ spec name.
    let old = c.args.self.now.types.items in
    type_added spec name c.args.self.now (record { types = c.push.new.self })
    (c.in_ok-push.ensures.items ∙ ap (λ shapes. old ++ record { weight = 0; size = 0; shapes = shapes; used = false } ∷ []) c.new.ensures)
