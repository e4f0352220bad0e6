-- What is read of a declaration, condition by condition.
use Rattle.std.proofs.Common.{◌≡◌, ℕ, Bool, true, false, cond, List, [], ◌∷◌, ◌++◌, Option, Some, None, refl, sym, ap, ◌∙◌, subst}
use Rattle.std.specs.Prelude.{not, ◌&&◌, ◌||◌}
use Rattle.sled_model.specs.declared.constructor.OperandKind.{OperandKind}
use Rattle.sled_parser.specs.declared.tree.PatternTree.{PatternTree}
use Rattle.token_bits.specs.declared.tokens.Tokens.{Tokens}
use Rattle.tree_meaning.specs.Names.{is_among, are_distinct}
use Rattle.tree_meaning.specs.Parts.{are_known, numbers_fit, generates_nothing, labels}
use Rattle.tree_meaning.specs.declared.parts.Site.TheVariants as site
use Rattle.tree_meaning.specs.Scopes.{Declared}
use Rattle.tree_meaning.proofs.NamesLemmas.{distinct_front}
use Rattle.sled_model.specs.declared.spec.Spec.{Spec}
use Rattle.operand_meaning.specs.Operands.{operands_are_known, equations_are_known, operand_names}
use Rattle.constructor_scopes.specs.declared.members.Makings.{Makings}
use Rattle.constructor_scopes.specs.declared.members.Makings.TheVariants.{Lone, Members}
use Rattle.constructor_scopes.specs.Bodies.{with_operands}
use Rattle.constructor_scopes.specs.Makings.{makings}
use Rattle.constructor_scopes.specs.Views.{made, IsOfGroup}
use Rattle.constructor_scopes.proofs.BodySound.{members_fresh, explicit_new}
use Rattle.constructor_scopes.specs.Names.{made_names, have_new_names, have_local_names}
use Rattle.constructor_meaning.specs.Conditions.{kinds, names_are_declared_once}
use Rattle.constructor_meaning.specs.Constructing.{Constructing}
use Rattle.constructor_meaning.specs.Read.{IsKnownOutside, are_known_outside}
use Rattle.constructor_meaning.specs.Results.{result_is_open}
use Rattle.constructor_meaning.specs.Unmet.{first_unmet}

pub both_of : (s t : Bool) → (s && t) ≡ true → (s ≡ true) × (t ≡ true)
both_of true t h = (refl, h)
both_of false t h = cc

-- ---- operands and equations

outside_case : (declared : Declared) (c : Constructing) (t : Bool) (o : Option (List OperandKind)) → operands_are_known declared c.equations c.operands ≡ t
    → o ≡ cond t (Some (kinds declared c)) None → equations_are_known declared (labels c.body) c.operands c.equations ≡ true → IsKnownOutside declared c o
outside_case declared c true o known is equations =
    let all : are_known_outside declared c ≡ true = rw (known, equations) refl in
    subst (IsKnownOutside declared c) (sym is) (all, refl)
outside_case declared c false o known is equations =
    let none : are_known_outside declared c ≡ false = rw known refl in
    subst (IsKnownOutside declared c) (sym is) none

-- where the equations are known, the kinds tell whether all is
pub outside_known : (declared : Declared) (c : Constructing) (o : Option (List OperandKind))
    → o ≡ cond (operands_are_known declared c.equations c.operands) (Some (kinds declared c)) None → equations_are_known declared (labels c.body) c.operands c.equations ≡ true → IsKnownOutside declared c o
outside_known declared c o is equations = outside_case declared c (operands_are_known declared c.equations c.operands) o refl is equations

-- ---- the parts of the body

-- the conditions on the parts, in this scope
abbrev pub parts_in : Tokens → Declared → PatternTree → List (ℕ × Bool)
parts_in tokens s body = (2, are_known site.Body s body) ∷ (4, numbers_fit tokens s body) ∷ (5, generates_nothing body) ∷ []

-- in a scope that is the same, the same is unmet
pub same_unmet : (tokens : Tokens) (body : PatternTree) (s e : Declared) (found : Option ℕ) (o : Option ℕ) → e ≡ s → found ≡ first_unmet (parts_in tokens e body) → found ≡ o
    → first_unmet (parts_in tokens s body) ≡ o
same_unmet tokens body s e found o same is at = ap (λ (x : Declared). first_unmet (parts_in tokens x body)) (sym same) ∙ sym is ∙ at

-- ---- names that differ

none_of : (s t : Bool) → (s || t) ≡ false → (s ≡ false) × (t ≡ false)
none_of true t h = cc
none_of false t h = (refl, h)

pub distinct_back : (ns ms : List (List ℕ)) → are_distinct (ns ++ ms) ≡ true → are_distinct ms ≡ true
distinct_back [] ms h = h
distinct_back (n ∷ ns) ms h = distinct_back ns ms (both_of (not (is_among (ns ++ ms) n)) (are_distinct (ns ++ ms)) h).1

module _ (spec : Spec) (declared : Declared) (c : Constructing) (once : names_are_declared_once spec declared c ≡ true) where
  pub local_once : have_local_names declared c.operands c.body ≡ true
  local_once =
      both_ends (have_new_names spec (made_names (makings declared c.opcode))) (have_local_names declared c.operands c.body) (result_is_open spec declared c.operands c.result) once where
        both_ends : (a b d : Bool) → (a && b && d) ≡ true → b ≡ true
        both_ends true true d h = refl
        both_ends true false d h = cc
        both_ends false b d h = cc

  pub operands_differ : are_distinct (operand_names c.operands) ≡ true
  operands_differ = distinct_front (operand_names c.operands) (labels c.body) (both_of (are_distinct (operand_names c.operands ++ labels c.body)) _ local_once).0

  pub labels_differ : are_distinct (labels c.body) ≡ true
  labels_differ = distinct_back (operand_names c.operands) (labels c.body) (both_of (are_distinct (operand_names c.operands ++ labels c.body)) _ local_once).0

  -- no typed operand has the name of the group that is the opcode
  pub opcode_is_fresh : declared.local_names ≡ [] → (ms : Makings) → made ms ≡ makings declared c.opcode → IsOfGroup ms → is_among (with_operands declared c.operands).local_names c.opcode ≡ false
  opcode_is_fresh outside (Lone name) is group = absurd group
  opcode_is_fresh outside (Members ms) is group = members_fresh declared outside c.opcode ms.items is c.operands (explicit_new declared c.operands c.body local_once)
