use Rattle.std.proofs.Common.{refl}
use Rattle.sled_model.proofs.SpecLemmas.{with_field, popped, still_spec}
use Rattle.sled_model.proofs.spec.Spec.add_field.Goals as goal

pub returns-in-Ok-clause-sound : goal.returns-in-Ok-clause-sound
returns-in-Ok-clause-sound c =
    with_field c.args.self.now c.args.name c.requires.sound c.requires.fresh c.add_field.new.self c.add_field.ensures.sound c.push.new.self c.args.field c.in_ok-push.ensures.ok c.in-Ok.ensures.added

pub returns-in-Err-clause-sound : goal.returns-in-Err-clause-sound
returns-in-Err-clause-sound c =
    still_spec c.args.self.now c.requires.sound c.add_field.new.self c.args.self.now.class_names c.pop.new.self c.in-Err.ensures.err
    refl (popped c.pop.result c.push.new.self c.pop.new.self c.args.self.now.field_names c.args.name c.pop.ensures c.in_ok-push.ensures.ok)
