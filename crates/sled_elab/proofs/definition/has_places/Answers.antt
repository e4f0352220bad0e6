use Rattle.std.proofs.Common.{rules, ◌<◌, ◌^◌, ◌∙◌, ap, length, map, arith}
use Rattle.std.specs.Prelude.{nat_eq}
use Rattle.tree_meaning.specs.Patterns.{choices_among}
use Rattle.sled_elab.proofs.DefinitionLemmas.{listed_count}
use Rattle.sled_elab.proofs.definition.has_places.Goals as goal

-- a slice takes fewer than 2 ^ 63 bytes
pub returns : goal.returns
returns c =
    let short : length c.args.items.now < 2 ^ 63 = search rules in
    ap (nat_eq (length c.args.items.now)) c.choice_count.ensures
    ∙ listed_count (length c.args.items.now) (choices_among (map (λ x. x.now) c.args.parts.now)) (omega (arith, short))
