-- What an accepted declaration of constructors meets, and what holds of a description of such.
use Rattle.std.specs.Prelude.{List, [], ℕ, ◌≡◌, true, All, Some, None}
use Rattle.sled_model.specs.declared.spec.Spec.{Spec}
use Rattle.sled_model.specs.Results.{known_from}
use Rattle.sled_model.proofs.ShapeKnown.{BodiesAgree}
use Rattle.tree_meaning.specs.declared.scope.Meaning.TheVariants as meaning
use Rattle.tree_meaning.specs.Scopes.{Declared, meaning_of}
use Rattle.sled_model.specs.declared.constructor.TypeId.{TypeId}
use Rattle.operand_meaning.specs.Terms.{have_equations_in_range}
use Rattle.constructor_meaning.specs.Conditions.{bodies, conditions, measure_conditions}
use Rattle.constructor_meaning.specs.Constructing.{Constructing}
use Rattle.constructor_meaning.specs.Unmet.{first_unmet}
use Rattle.constructor_building.specs.Building.{constructors_of}
use Rattle.constructor_plans.specs.Plans.{ArePlansUnmet}
use Rattle.match_meaning.specs.Readable.{IsReadable, HasShortBody}

-- no condition is unmet: neither one that is asked before the equations are solved, nor one on the constructors that are made
pub record IsAccepted (spec : Spec) (declared : Declared) (c : Constructing) : Type 0 where
  pub numbers : have_equations_in_range c.equations ≡ true
  pub met : first_unmet (conditions spec declared c) ≡ None
  pub plans : ArePlansUnmet spec.tokens (constructors_of spec declared c) None
  pub measures : first_unmet (measure_conditions spec declared c (bodies declared c)) ≡ None

-- each type has one name
abbrev pub TypesAreNamed : Declared → Type 0
TypesAreNamed declared = (v w : List ℕ) (t : TypeId) → meaning_of declared v ≡ Some (meaning.Type t) → meaning_of declared w ≡ Some (meaning.Type t) → v ≡ w

-- each constructor can be read and has a short body, and over those before it its body's conjunctions agree
pub record HasReadings (spec : Spec) : Type 0 where
  pub constructors : All (IsReadable spec.tokens) spec.constructors
  pub agree : BodiesAgree spec.tokens [] spec.constructors
  pub short : All HasShortBody (known_from spec.tokens [] spec.constructors)
