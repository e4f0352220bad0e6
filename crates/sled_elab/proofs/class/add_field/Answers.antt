use Rattle.std.proofs.Common.{ap, ◌∙◌}
use Rattle.std.proofs.lemmas.Result.{on_ok_weaker}
use Rattle.token_bits.specs.declared.tokens.Field.{Field}
use Rattle.tree_meaning.specs.declared.scope.Meaning.TheVariants as meaning
use Rattle.tree_meaning.specs.Scopes.{declared_in}
use Rattle.sled_elab.specs.Declarations.{with_name}
use Rattle.sled_elab.specs.Descriptions.{described_in}
use Rattle.sled_elab.proofs.DescriptionLemmas.{field_sound}
use Rattle.sled_elab.proofs.class.add_field.Goals as goal

pub returns-clause-sound : goal.returns-clause-sound
returns-clause-sound c =
    let d = described_in c.args.description.now in
    let field : Field = record { class = c.args.class; lo = c.small_number.result; hi = c.small_number-2.result } in
    on_ok_weaker c.declare.result
    (λ named. field_sound d c.requires.sound c.args.tree.now.name c.requires.fresh c.add_field.new.self c.in_ok-id.ensures.sound (declared_in c.declare.new.self)
    field c.in_ok-id.id c.in_ok-id.ensures.number (cc (c.in_ok-id.ensures.added, c.in_ok-name.ensures, c.as_slice-3.ensures))
    (named ∙ ap (λ n. with_name d.declared n (meaning.Field c.in_ok-id.id)) c.as_slice-4.ensures))
    c.declare.ensures
