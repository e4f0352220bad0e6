use Rattle.std.proofs.Common.{refl}
use Rattle.sled_model.proofs.SpecLemmas.{with_class, popped, still_spec}
use Rattle.sled_model.proofs.spec.Spec.add_class.Goals as goal

pub returns-in-Ok-clause-sound : goal.returns-in-Ok-clause-sound
returns-in-Ok-clause-sound c =
    with_class c.args.self.now c.args.name c.requires.sound c.requires.fresh c.add_class.new.self c.add_class.ensures.sound c.push.new.self c.args.class c.in_ok-push.ensures.ok c.in-Ok.ensures.added

pub returns-in-Err-clause-sound : goal.returns-in-Err-clause-sound
returns-in-Err-clause-sound c =
    still_spec c.args.self.now c.requires.sound c.add_class.new.self c.pop.new.self c.args.self.now.field_names c.in-Err.ensures.err
    (popped c.pop.result c.push.new.self c.pop.new.self c.args.self.now.class_names c.args.name c.pop.ensures c.in_ok-push.ensures.ok) refl
