use Rattle.std.proofs.Common.{sym, ◌∙◌}
use Rattle.std.specs.Prelude.{bytes_eq}
use Rattle.tree_meaning.proofs.NamesLemmas.{list_any-map}
use Rattle.tree_meaning.proofs.names.NameTable.contains.Goals as goal

pub returns : goal.returns
returns c = c.contains.ensures ∙ sym (list_any-map (bytes_eq c.args.name.now) (λ x. x.now) c.args.self.now.names.keys)
