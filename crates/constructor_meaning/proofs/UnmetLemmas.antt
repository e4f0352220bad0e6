-- The first condition that is unmet, of conditions behind others.
use Rattle.std.proofs.Common.{◌≡◌, ℕ, Bool, true, false, cond, List, [], ◌∷◌, ◌++◌, Option, Some, None, refl, sym, ap, ◌∙◌, subst}
use Rattle.std.specs.Prelude.{All, ◌&&◌}
use Rattle.sled_model.specs.declared.pattern.Pattern.{Pattern}
use Rattle.sled_model.specs.declared.spec.Spec.{Spec}
use Rattle.sled_model.specs.Leaves.{AllLeaves, IsNoApplication}
use Rattle.tree_meaning.specs.declared.parts.Site.TheVariants as site
use Rattle.tree_meaning.specs.Parts.{are_known, numbers_fit, generates_nothing, labels}
use Rattle.tree_meaning.specs.Scopes.{Declared}
use Rattle.operand_meaning.specs.Operands.{operands_are_known, equations_are_known}
use Rattle.constructor_scopes.specs.Bodies.{with_operands}
use Rattle.constructor_scopes.proofs.BodySound.{bodies_plain, opcode_fresh, explicit_new}
use Rattle.constructor_meaning.specs.Conditions.{names_are_declared_once, names_are_known, naming_conditions, forming_conditions, standing_conditions, conditions, bodies, body_scope, shape_context}
use Rattle.constructor_meaning.specs.Constructing.{Constructing}
use Rattle.constructor_meaning.specs.Sound.{IsSoundScope}
use Rattle.constructor_meaning.specs.Read.{IsUnmetAt}
use Rattle.constructor_meaning.specs.Unmet.{first_unmet}
use Rattle.constructor_meaning.specs.declared.fault.ReadFault.{ReadFault}
use Rattle.constructor_meaning.specs.declared.fault.ReadFault.TheVariants.{Unmet, NoMemory}
use Rattle.constructor_meaning.proofs.ReadLemmas.{both_of, local_once}

early_case : (t : Bool) (n m : ℕ) (o p : Option ℕ) → (o ≡ Some m → p ≡ Some m) → cond t o (Some n) ≡ Some m → cond t p (Some n) ≡ Some m
early_case true n m o p later h = later h
early_case false n m o p later h = h

-- the first of the front is the first of the whole
pub first_unmet-early : (front rest : List (ℕ × Bool)) (m : ℕ) → first_unmet front ≡ Some m → first_unmet (front ++ rest) ≡ Some m
first_unmet-early [] rest m h = cc
first_unmet-early (c ∷ cs) rest m h = early_case c.1 c.0 m (first_unmet cs) (first_unmet (cs ++ rest)) (first_unmet-early cs rest m) h

late_case : (t : Bool) (n : ℕ) (o p q : Option ℕ) → (o ≡ None → p ≡ q) → cond t o (Some n) ≡ None → cond t p (Some n) ≡ q
late_case true n o p q later h = later h
late_case false n o p q later h = cc

-- where the front is met, the first of the rest is the first of the whole
pub first_unmet-late : (front rest : List (ℕ × Bool)) → first_unmet front ≡ None → first_unmet (front ++ rest) ≡ first_unmet rest
first_unmet-late [] rest h = refl
first_unmet-late (c ∷ cs) rest h = late_case c.1 c.0 (first_unmet cs) (first_unmet (cs ++ rest)) (first_unmet rest) (first_unmet-late cs rest) h

met_case : (t : Bool) (n : ℕ) (o : Option ℕ) → cond t o (Some n) ≡ None → (t ≡ true) × (o ≡ None)
met_case true n o h = (refl, h)
met_case false n o h = cc

-- where none is unmet, the first is met, and so are the others
pub all_met : (n : ℕ) (t : Bool) (cs : List (ℕ × Bool)) → first_unmet ((n, t) ∷ cs) ≡ None → (t ≡ true) × (first_unmet cs ≡ None)
all_met n t cs h = met_case t n (first_unmet cs) h

module _ (spec : Spec) (declared : Declared) (c : Constructing) where
  abbrev naming : List (ℕ × Bool)
  naming = naming_conditions spec declared c

  abbrev forming : List (ℕ × Bool)
  forming = forming_conditions (shape_context spec declared c) declared c (bodies declared c)

  abbrev standing : List (ℕ × Bool)
  standing = standing_conditions declared c

  pub unmet_naming : (n : ℕ) → first_unmet naming ≡ Some n → first_unmet (conditions spec declared c) ≡ Some n
  unmet_naming n h = first_unmet-early naming (forming ++ standing) n h

  -- what is unmet of names is unmet of all
  pub fault_of_naming : (fault : ReadFault) → IsUnmetAt fault (first_unmet naming) → IsUnmetAt fault (first_unmet (conditions spec declared c))
  fault_of_naming (Unmet n) h = unmet_naming n h
  fault_of_naming NoMemory h = tt

  pub unmet_forming : (n : ℕ) → first_unmet naming ≡ None → first_unmet forming ≡ Some n → first_unmet (conditions spec declared c) ≡ Some n
  unmet_forming n named h = first_unmet-late naming (forming ++ standing) named ∙ first_unmet-early forming standing n h

  pub to_standing : first_unmet naming ≡ None → first_unmet forming ≡ None → first_unmet (conditions spec declared c) ≡ first_unmet standing
  to_standing named formed = first_unmet-late naming (forming ++ standing) named ∙ first_unmet-late forming standing formed

  -- ---- what is met

  module _ (named : first_unmet naming ≡ None) where
    abbrev rest_of_4 : List (ℕ × Bool)
    rest_of_4 = (5, generates_nothing c.body) ∷ []

    abbrev rest_of_2 : List (ℕ × Bool)
    rest_of_2 = (4, numbers_fit spec.tokens (body_scope declared c) c.body) ∷ rest_of_4

    once : names_are_declared_once spec declared c ≡ true
    once = (all_met 1 (names_are_declared_once spec declared c) ((2, names_are_known declared c) ∷ rest_of_2) named).0

    known_all : names_are_known declared c ≡ true
    known_all = (all_met 2 (names_are_known declared c) rest_of_2 (all_met 1 (names_are_declared_once spec declared c) ((2, names_are_known declared c) ∷ rest_of_2) named).1).0

    pub fit : numbers_fit spec.tokens (body_scope declared c) c.body ≡ true
    fit =
        (all_met 4 (numbers_fit spec.tokens (body_scope declared c) c.body) rest_of_4
        (all_met 2 (names_are_known declared c) rest_of_2 (all_met 1 (names_are_declared_once spec declared c) ((2, names_are_known declared c) ∷ rest_of_2) named).1).1).0

    pub known : are_known site.Body (body_scope declared c) c.body ≡ true
    known = last (operands_are_known declared c.equations c.operands) (equations_are_known declared (labels c.body) c.operands c.equations) (are_known site.Body (body_scope declared c) c.body) known_all where
      last : (a b d : Bool) → (a && b && d) ≡ true → d ≡ true
      last true true d h = h
      last true false d h = cc
      last false b d h = cc

    -- no body applies a constructor
    pub plain : IsSoundScope spec declared → All (AllLeaves IsNoApplication) (bodies declared c)
    plain s =
        bodies_plain spec.tokens declared s.local_names s.local_meanings s.sound c.opcode c.operands
        (λ ps group. opcode_fresh declared s.local_names c.opcode ps group c.operands (explicit_new declared c.operands c.body (local_once spec declared c once)))
        (labels c.body) c.body known fit
