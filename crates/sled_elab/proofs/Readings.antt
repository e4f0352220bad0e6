-- What is read of the constructors stays exact where a declaration that lacks nothing is added.
use Rattle.std.proofs.Common.{◌≡◌, ℕ, true, List, [], ◌++◌, ◌∷◌, map, length, Some, None, refl, sym, subst}
use Rattle.std.specs.Prelude.{Bool, Option}
use Rattle.std.proofs.lemmas.List.Elements.{All-nil}
use Rattle.sled_parser.specs.declared.tree.Decl.{Decl}
use Rattle.sled_parser.specs.declared.tree.Decl.TheVariants as decl
use Rattle.sled_parser.specs.declared.tree.FieldTree.{FieldTree}
use Rattle.operand_meaning.specs.Terms.{have_equations_in_range}
use Rattle.constructor_meaning.specs.Conditions.{bodies, measure_conditions, conditions}
use Rattle.constructor_meaning.specs.Constructing.{Constructing}
use Rattle.constructor_meaning.specs.Unmet.{first_unmet}
use Rattle.constructor_building.specs.Building.{constructors_of}
use Rattle.constructor_plans.specs.Plans.{ArePlansUnmet}
use Rattle.constructor_readings.specs.Accepted.{IsAccepted}
use Rattle.constructor_readings.proofs.Kept.{tokens_kept, no_constructors}
use Rattle.constructor_readings.proofs.MadeFits.{built_readings}
use Rattle.matchable_arms.specs.Once.{HasOperandsOnce}
use Rattle.matchable_arms.proofs.Accepted.{built_once}
use Rattle.sled_elab.specs.Conditions.{IsLackOf, IsUnmetBehind, IsUnmetOf, unmet_made}
use Rattle.sled_elab.specs.Declarations.{Described, field_name, with_class_alone, with_class, with_built, constructor_tree, nothing}
use Rattle.sled_elab.specs.Descriptions.{HasNumbersInRange, HasPlainNames, IsReadOnce, IsSound}
use Rattle.sled_elab.specs.Elaboration.{after}
use Rattle.sled_elab.proofs.TableLemmas.{spec_with_fields, class_tokens, class_grows}

-- ---- what a declaration of constructors meets

record IsAllMet (d : Described) (c : Constructing) : Type 0 where
  pub plans : ArePlansUnmet d.spec.tokens (constructors_of d.spec d.declared c) None
  pub measures : first_unmet (measure_conditions d.spec d.declared c (bodies d.declared c)) ≡ None

met_made : (d : Described) (c : Constructing) (plans : Option ℕ) → ArePlansUnmet d.spec.tokens (constructors_of d.spec d.declared c) plans → None ≡ unmet_made d c plans → IsAllMet d c
met_made d c None plans h = record { plans = plans; measures = sym h }
met_made d c (Some n) plans h = cc

met_behind : (d : Described) (c : Constructing) (o : Option ℕ) → first_unmet (conditions d.spec d.declared c) ≡ o → IsUnmetBehind d c o None
    → (first_unmet (conditions d.spec d.declared c) ≡ None) × IsAllMet d c
met_behind d c None is h = (is, met_made d c h.0 h.1 h.2)
met_behind d c (Some n) is h = cc

-- a declaration of constructors that lacks nothing is accepted
pub accepted : (d : Described) (c : Constructing) → have_equations_in_range c.equations ≡ true → IsUnmetOf d c None → IsAccepted d.spec d.declared c
accepted d c numbers unmet =
    let met = met_behind d c (first_unmet (conditions d.spec d.declared c)) refl unmet in
    record { numbers = numbers; met = met.0; plans = met.1.plans; measures = met.1.measures }

-- ---- what is read

class_read : (d : Described) → IsSound d → IsReadOnce d.spec → (name width : List ℕ) (little : Bool) (fields : List FieldTree) → IsReadOnce (with_class d name width little fields).spec
class_read d s h name width little fields =
    subst IsReadOnce (sym (spec_with_fields (length d.spec.tokens.classes) (with_class_alone d name width little) fields))
    (record {
      readings = tokens_kept d.spec s.spec (class_tokens d width little fields) (d.spec.class_names ++ name ∷ []) (d.spec.field_names ++ map field_name fields)
          (class_grows d width little fields) h.readings;
      once = h.once;
    })

built_read : (d : Described) → IsSound d → HasPlainNames d.declared → IsReadOnce d.spec → (c : Constructing) → IsAccepted d.spec d.declared c → IsReadOnce (with_built d c).spec
built_read d s plain h c is = record {
  readings = built_readings d.spec d.declared c s is plain.fields plain.patterns plain.types h.readings;
  once = built_once d.spec d.declared c s is.met plain.patterns h.once;
}

-- so it is with one declaration more
pub read_after : (d : Described) (x : Decl) → HasNumbersInRange x → IsSound d → HasPlainNames d.declared → IsReadOnce d.spec → IsLackOf d x None → IsReadOnce (after d x).spec
read_after d (decl.Class name width little fields) numbers s plain h lack = class_read d s h name width little fields
read_after d (decl.Heading section) numbers s plain h lack = h
read_after d (decl.Definition name items tree) numbers s plain h lack = h
read_after d (decl.ConstructorDecl opcode operands makes equations body) numbers s plain h lack =
    let c = constructor_tree opcode operands makes equations body in
    built_read d s plain h c (accepted d c numbers.1 lack)

pub nothing_read : IsReadOnce nothing.spec
nothing_read = record { readings = no_constructors nothing.spec refl; once = All-nil HasOperandsOnce }
