use Rattle.std.proofs.Common.{sym, ap, ◌∙◌}
use Rattle.std.specs.Prelude.{position, bytes_eq}
use Rattle.sled_model.proofs.NameTables.{position-map}
use Rattle.sled_model.proofs.constructor_names.ConstructorNames.find.Goals as goal

pub returns : goal.returns
returns c =
    c.get_index_of.ensures.index ∙ sym (position-map (bytes_eq c.args.name.now) (λ name. name.items) c.self.inside.names.keys)
    ∙ ap (position (bytes_eq c.args.name.now)) c.self.view_is
