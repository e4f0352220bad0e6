use Rattle.std.proofs.Common.{◌∙◌}
use Rattle.sled_model.specs.Specs.{constructor_names_of}
use Rattle.sled_model.specs.declared.constructor.ConstructorId.{ConstructorId}
use Rattle.constructor_scopes.proofs.NewLemmas.{known_of}
use Rattle.constructor_scopes.proofs.names.is_known.Goals as goal

pub returns : goal.returns
returns c = c.is_some.ensures ∙ known_of (λ (id : ConstructorId). id.0) c.find.result (constructor_names_of c.args.spec.now) c.args.name.now c.find.ensures
