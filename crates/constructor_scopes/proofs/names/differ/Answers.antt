use Rattle.std.proofs.Common.{◌∙◌, ap, map}
use Rattle.std.specs.Prelude.{◌&&◌}
use Rattle.tree_meaning.specs.Names.{are_new, are_distinct}
use Rattle.constructor_scopes.proofs.NewLemmas.{new_to_none}
use Rattle.constructor_scopes.proofs.names.differ.Goals as goal

pub returns : goal.returns
returns c =
    let names = map (λ x. x.now) c.args.names.now in
    c.in_ok-once.ensures ∙ ap (λ ns. are_new ns names && are_distinct names) c.new-none.ensures ∙ ap (λ t. t && are_distinct names) (new_to_none names)
