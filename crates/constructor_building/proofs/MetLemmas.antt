-- What the conditions on a declaration say one by one.
use Rattle.std.proofs.Common.{◌≡◌, ℕ, Bool, true, false, cond, List, [], ◌∷◌, ◌++◌, Some, None, refl, ap, ◌∙◌}
use Rattle.std.specs.Prelude.{◌&&◌}
use Rattle.sled_model.specs.declared.spec.Spec.{Spec}
use Rattle.tree_meaning.specs.declared.parts.Site.TheVariants as site
use Rattle.tree_meaning.specs.Parts.{are_known, numbers_fit, generates_nothing, labels}
use Rattle.tree_meaning.specs.Bindings.{bound}
use Rattle.tree_meaning.specs.Scopes.{Declared}
use Rattle.operand_meaning.specs.Limits.{are_within_limits}
use Rattle.operand_meaning.specs.Operands.{operands_are_known, equations_are_known}
use Rattle.operand_meaning.specs.Standing.{names_stand}
use Rattle.constructor_scopes.specs.Makings.{makings}
use Rattle.constructor_scopes.specs.Names.{made_names, have_new_names, have_local_names}
use Rattle.constructor_meaning.specs.Conditions.{names_are_declared_once, names_are_known, naming_conditions, forming_conditions, standing_conditions, conditions, bodies, body_scope, shape_context}
use Rattle.constructor_meaning.specs.Constructing.{Constructing}
use Rattle.constructor_meaning.specs.Results.{result_is_open}
use Rattle.constructor_meaning.specs.Unmet.{first_unmet}
use Rattle.constructor_meaning.proofs.UnmetLemmas.{all_met}

cons_met : (n : ℕ) (t : Bool) (cs : List (ℕ × Bool)) → t ≡ true → first_unmet cs ≡ None → first_unmet ((n, t) ∷ cs) ≡ None
cons_met n t cs h rest = ap (λ s. cond s (first_unmet cs) (Some n)) h ∙ rest

-- where none of all is unmet, none of either part is
pub split_met : (front rest : List (ℕ × Bool)) → first_unmet (front ++ rest) ≡ None → (first_unmet front ≡ None) × (first_unmet rest ≡ None)
split_met [] rest h = (refl, h)
split_met (c ∷ cs) rest h =
    let here = all_met c.0 c.1 (cs ++ rest) h in
    let later = split_met cs rest here.1 in
    (cons_met c.0 c.1 cs here.0 later.0, later.1)

first_of_three : (a b d : Bool) → (a && b && d) ≡ true → a ≡ true
first_of_three true b d h = refl
first_of_three false b d h = cc

last_of_three : (a b d : Bool) → (a && b && d) ≡ true → d ≡ true
last_of_three true true d h = h
last_of_three true false d h = cc
last_of_three false b d h = cc

module _ (spec : Spec) (declared : Declared) (c : Constructing) (met : first_unmet (conditions spec declared c) ≡ None) where
  abbrev forming : List (ℕ × Bool)
  forming = forming_conditions (shape_context spec declared c) declared c (bodies declared c)

  pub named : first_unmet (naming_conditions spec declared c) ≡ None
  named = (split_met (naming_conditions spec declared c) (forming ++ standing_conditions declared c) met).0

  standing : first_unmet (standing_conditions declared c) ≡ None
  standing = (split_met forming (standing_conditions declared c) (split_met (naming_conditions spec declared c) (forming ++ standing_conditions declared c) met).1).1

  -- condition 11 is met
  pub within_limits : are_within_limits declared c.operands c.equations ≡ true
  within_limits =
      (all_met 11 (are_within_limits declared c.operands c.equations) []
      (all_met 10 (names_stand declared (bound (body_scope declared c) c.body) (labels c.body) c.operands c.equations) ((11, are_within_limits declared c.operands c.equations) ∷ []) standing).1).0

  abbrev rest_of_2 : List (ℕ × Bool)
  rest_of_2 = (4, numbers_fit spec.tokens (body_scope declared c) c.body) ∷ (5, generates_nothing c.body) ∷ []

  pub once : names_are_declared_once spec declared c ≡ true
  once = (all_met 1 (names_are_declared_once spec declared c) ((2, names_are_known declared c) ∷ rest_of_2) named).0

  known_all : names_are_known declared c ≡ true
  known_all = (all_met 2 (names_are_known declared c) rest_of_2 (all_met 1 (names_are_declared_once spec declared c) ((2, names_are_known declared c) ∷ rest_of_2) named).1).0

  -- each operand is something
  pub operands_known : operands_are_known declared c.equations c.operands ≡ true
  operands_known =
      first_of_three (operands_are_known declared c.equations c.operands) (equations_are_known declared (labels c.body) c.operands c.equations)
      (are_known site.Body (body_scope declared c) c.body) known_all

  -- the constructors have new names, which differ
  pub new_names : have_new_names spec (made_names (makings declared c.opcode)) ≡ true
  new_names =
      first_of_three (have_new_names spec (made_names (makings declared c.opcode))) (have_local_names declared c.operands c.body) (result_is_open spec declared c.operands c.result) once

  pub open_result : result_is_open spec declared c.operands c.result ≡ true
  open_result =
      last_of_three (have_new_names spec (made_names (makings declared c.opcode))) (have_local_names declared c.operands c.body) (result_is_open spec declared c.operands c.result) once
