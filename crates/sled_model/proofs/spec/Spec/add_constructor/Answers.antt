use Rattle.std.proofs.Common.{◌≡◌, ◌++◌, ◌∷◌, [], ap, ◌∙◌, arith}
use Rattle.sled_model.proofs.SpecLemmas.{with_constructor}
use Rattle.sled_model.proofs.spec.Spec.add_constructor.Goals as goal

pub returns-in-Ok-push-clause-sound : goal.returns-in-Ok-push-clause-sound
returns-in-Ok-push-clause-sound c =
    with_constructor c.args.self.now c.args.constructor c.requires.sound c.requires.fresh c.requires.known (omega arith) c.push.new.self c.add.new.self c.in-Ok-push.ensures.ok
    (c.in_ok-add.ensures.added ∙ ap (λ name. c.args.self.now.constructor_names ++ name ∷ []) c.as_slice.ensures)
