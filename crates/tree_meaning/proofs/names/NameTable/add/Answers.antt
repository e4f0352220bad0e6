use Rattle.std.proofs.Common.{sym, ap, ◌∙◌}
use Rattle.std.specs.Prelude.{not, bytes_eq}
use Rattle.tree_meaning.proofs.NamesLemmas.{list_any-map}
use Rattle.tree_meaning.proofs.names.NameTable.add.Goals as goal

pub returns-clause-new : goal.returns-clause-new
returns-clause-new c = c.in_ok-new.ensures.added ∙ ap not (sym (list_any-map (bytes_eq c.args.name.now) (λ x. x.now) c.args.self.now.names.keys))
