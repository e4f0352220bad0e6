use Rattle.std.proofs.Common.{sym, ◌∙◌}
use Rattle.std.specs.Prelude.{bytes_eq}
use Rattle.tree_meaning.proofs.NamesLemmas.{position-map}
use Rattle.tree_meaning.proofs.names.NameTable.find.Goals as goal

pub returns : goal.returns
returns c = c.get_index_of.ensures.index ∙ sym (position-map (bytes_eq c.args.name.now) (λ x. x.now) c.args.self.now.names.keys)
