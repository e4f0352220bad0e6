use Rattle.std.proofs.Common.{ap, ◌∙◌}
use Rattle.std.specs.Prelude.{map, fold}
use Rattle.std.proofs.lemmas.List.{take_all}
use Rattle.tree_meaning.specs.declared.scope.Meaning.TheVariants as meaning
use Rattle.tree_meaning.specs.Scopes.{declared_in}
use Rattle.sled_elab.specs.Declarations.{with_member, with_name}
use Rattle.sled_elab.proofs.DefinitionLemmas.{next_member, group_made}
use Rattle.sled_elab.proofs.definition.add_group.Goals as goal

pub add_member-requires : goal.add_member-requires
add_member-requires c =
    let ms = c.as_slice-member-items.result.now in
    next_member (λ m. (m.0.now, m.1.now)) ms (declared_in c.args.scope.now) (declared_in c.loop-member.scope) c.args.name.now
    (map (λ m. m.1.now) ms) c.args.items.now c.args.patterns.now c.loop-member.member-index c.member-item.result
    c.requires.once c.requires.whole (ap (map (λ m. (m.0.now, m.1.now))) c.as_slice-member-items.ensures.value ∙ c.in_ok-members.ensures) c.loop-member-test.true c.member-item.is c.loop-member.invariant

pub returns : goal.returns
returns c =
    let ms = c.as_slice-member-items.result.now in
    let base = with_name (declared_in c.args.scope.now) c.args.name.now (meaning.Group (map (λ m. m.1.now) ms)) in
    group_made (λ m. (m.0.now, m.1.now)) ms (declared_in c.args.scope.now) (declared_in c.loop-member.scope) c.args.name.now c.args.items.now c.args.patterns.now
    (ap (map (λ m. (m.0.now, m.1.now))) c.as_slice-member-items.ensures.value ∙ c.in_ok-members.ensures)
    (c.loop-member.invariant ∙ ap (λ xs. fold with_member base (map (λ m. (m.0.now, m.1.now)) xs)) (take_all c.loop-member.member-index ms c.loop-member-test.false))
