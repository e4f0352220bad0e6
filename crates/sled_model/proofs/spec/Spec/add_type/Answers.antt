use Rattle.sled_model.proofs.SpecLemmas.{with_type}
use Rattle.sled_model.proofs.spec.Spec.add_type.Goals as goal

pub returns-clause-sound : goal.returns-clause-sound
returns-clause-sound c = with_type c.args.self.now c.args.name c.requires.sound c.requires.fresh c.push.new.self c.in_ok-push.ensures.ok
