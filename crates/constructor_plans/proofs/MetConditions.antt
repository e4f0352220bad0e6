-- What is met where no condition is unmet.
use Rattle.std.proofs.Common.{◌≡◌, ℕ, Bool, true, false, cond, List, [], ◌∷◌, ◌++◌, Option, Some, None, refl, ap, ◌∙◌}
use Rattle.std.specs.Prelude.{◌&&◌}
use Rattle.std.specs.List.{list_all}
use Rattle.sled_model.specs.declared.spec.Spec.{Spec}
use Rattle.tree_meaning.specs.declared.parts.Site.TheVariants as site
use Rattle.tree_meaning.specs.Bindings.{bound, binds_once, sides_bind_nothing}
use Rattle.tree_meaning.specs.Parts.{are_known, generates_nothing, labels}
use Rattle.tree_meaning.specs.Scopes.{Declared}
use Rattle.sled_model.specs.Shapes.{sides_have_one_shape}
use Rattle.operand_meaning.specs.Limits.{are_within_limits}
use Rattle.operand_meaning.specs.Operands.{operands_are_known, equations_are_known}
use Rattle.operand_meaning.specs.Standing.{names_stand}
use Rattle.operand_meaning.proofs.ListFacts.{both_of}
use Rattle.constructor_meaning.specs.Conditions.{names_are_declared_once, naming_conditions, forming_conditions, standing_conditions, conditions, bodies, body_scope, shape_context}
use Rattle.constructor_meaning.specs.Constructing.{Constructing}
use Rattle.constructor_meaning.specs.Unmet.{first_unmet}
use Rattle.constructor_meaning.proofs.UnmetLemmas.{all_met}

-- the front is met, and so is the rest
split_met : (front rest : List (ℕ × Bool)) → first_unmet (front ++ rest) ≡ None → (first_unmet front ≡ None) × (first_unmet rest ≡ None)
split_met [] rest h = (refl, h)
split_met (c ∷ cs) rest h =
    let met = all_met c.0 c.1 (cs ++ rest) h in
    let later = split_met cs rest met.1 in
    (put c.0 c.1 (first_unmet cs) met.0 later.0, later.1)
  where
    put : (n : ℕ) (t : Bool) (o : Option ℕ) → t ≡ true → o ≡ None → cond t o (Some n) ≡ None
    put n t o e f = ap (λ s. cond s o (Some n)) e ∙ f

met_two : (n m : ℕ) (a b : Bool) → first_unmet ((n, a) ∷ (m, b) ∷ []) ≡ None → (a ≡ true) × (b ≡ true)
met_two n m a b h = let first = all_met n a ((m, b) ∷ []) h in (first.0, (all_met m b [] first.1).0)

met_four : (i j k l : ℕ) (a b c d : Bool) → first_unmet ((i, a) ∷ (j, b) ∷ (k, c) ∷ (l, d) ∷ []) ≡ None → (a ≡ true) × (b ≡ true) × (c ≡ true) × (d ≡ true)
met_four i j k l a b c d h =
    let one = all_met i a ((j, b) ∷ (k, c) ∷ (l, d) ∷ []) h in
    let two = all_met j b ((k, c) ∷ (l, d) ∷ []) one.1 in
    let rest = met_two k l c d two.1 in
    (one.0, two.0, rest.0, rest.1)

first_of_three : (a b d : Bool) → (a && b && d) ≡ true → a ≡ true
first_of_three true b d h = refl
first_of_three false b d h = cc

-- the conditions that the equations rest on
pub record IsMet (spec : Spec) (declared : Declared) (c : Constructing) : Type 0 where
  pub once : names_are_declared_once spec declared c ≡ true
  pub operands : operands_are_known declared c.equations c.operands ≡ true
  pub single : generates_nothing c.body ≡ true
  pub sides : sides_bind_nothing (body_scope declared c) c.body ≡ true
  pub binds : binds_once (body_scope declared c) c.body ≡ true
  pub stand : names_stand declared (bound (body_scope declared c) c.body) (labels c.body) c.operands c.equations ≡ true
  pub within : are_within_limits declared c.operands c.equations ≡ true

module _ (spec : Spec) (declared : Declared) (c : Constructing) where
  pub met_of : first_unmet (conditions spec declared c) ≡ None → IsMet spec declared c
  met_of h =
      let forming = forming_conditions (shape_context spec declared c) declared c (bodies declared c) in
      let outer = split_met (naming_conditions spec declared c) (forming ++ standing_conditions declared c) h in
      let inner = split_met forming (standing_conditions declared c) outer.1 in
      let names = met_four 1 2 4 5 _ _ _ _ outer.0 in
      let forms = met_four 6 7 8 9 _ _ _ _ inner.0 in
      let stands = met_two 10 11 _ _ inner.1 in
      let sides = both_of (sides_bind_nothing (body_scope declared c) c.body) (list_all (sides_have_one_shape (shape_context spec declared c)) (bodies declared c)) forms.2 in
      record {
        once = names.0;
        operands = first_of_three (operands_are_known declared c.equations c.operands) (equations_are_known declared (labels c.body) c.operands c.equations) (are_known site.Body (body_scope declared c) c.body) names.1;
        single = names.3;
        sides = sides.0;
        binds = forms.3;
        stand = stands.0;
        within = stands.1;
      }
