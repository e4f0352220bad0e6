-- The description with the constructors of a declaration.
use Rattle.std.proofs.Common.{◌≡◌, ℕ, true, cond, List, length, map, Option, Some, None, refl, sym, ap, subst, ◌∙◌}
use Rattle.std.specs.Prelude.{All, not, ◌&&◌, is_some, option_and_then}
use Rattle.std.specs.List.{list_any}
use Rattle.std.proofs.lemmas.List.Elements.{All-same}
use Rattle.token_bits.specs.declared.tokens.Tokens.{Tokens}
use Rattle.sled_parser.specs.declared.tree.OperandTree.{OperandTree}
use Rattle.sled_model.specs.declared.constructor.Constructor.{Constructor}
use Rattle.sled_model.specs.declared.spec.Spec.{Spec}
use Rattle.sled_model.specs.Specs.{IsSpec, IsConstructorOf}
use Rattle.tree_meaning.specs.declared.scope.Meaning.{Meaning}
use Rattle.tree_meaning.specs.declared.scope.Meaning.TheVariants as meaning
use Rattle.tree_meaning.specs.Scopes.{Declared, meaning_of, as_type}
use Rattle.constructor_scopes.specs.Makings.{makings}
use Rattle.constructor_scopes.specs.Names.{have_new_names}
use Rattle.constructor_scopes.proofs.TypedLemmas.{map-map}
use Rattle.constructor_meaning.specs.Conditions.{conditions}
use Rattle.constructor_meaning.specs.Constructing.{Constructing}
use Rattle.constructor_meaning.specs.Results.{may_make, uses_type, result_is_open}
use Rattle.constructor_meaning.specs.Sound.{IsSoundScope}
use Rattle.constructor_meaning.specs.Unmet.{first_unmet}
use Rattle.constructor_building.specs.Building.{new_type, with_new_type, with_type, constructor_of, constructors_of, with_constructors, built_spec}
use Rattle.constructor_building.proofs.MetLemmas.{new_names, open_result}
use Rattle.constructor_building.proofs.KnownLemmas.{constructors_known}
use Rattle.constructor_building.proofs.ScopeLemmas.{constructors_sound}

-- ---- the type

-- where the result may be made, the name of a new type stands for nothing
new_is_free : (spec : Spec) (declared : Declared) (os : List OperandTree) (r : Option (List ℕ)) → result_is_open spec declared os r ≡ true → (n : List ℕ) → new_type declared r ≡ Some n
    → meaning_of declared n ≡ None
new_is_free spec declared os None open_is n is = cc
new_is_free spec declared os (Some t) open_is n is = by_meaning (meaning_of declared t) refl open_is is where
  by_meaning : (o : Option Meaning) → meaning_of declared t ≡ o → (may_make spec o && not (list_any (uses_type declared t) os)) ≡ true
      → cond (is_some (option_and_then as_type o)) None (Some t) ≡ Some n → meaning_of declared n ≡ None
  by_meaning None at may is = let same : t ≡ n = cc in subst (λ (w : List ℕ). meaning_of declared w ≡ None) same at
  by_meaning (Some (meaning.Type u)) at may is = cc
  by_meaning (Some _) at may is = cc

same_names : (spec : Spec) (o : Option (List ℕ)) (ns : List (List ℕ)) → have_new_names (with_new_type spec o) ns ≡ have_new_names spec ns
same_names spec None ns = refl
same_names spec (Some t) ns = refl

same_tokens : (spec : Spec) (o : Option (List ℕ)) → (with_new_type spec o).tokens ≡ spec.tokens
same_tokens spec None = refl
same_tokens spec (Some t) = refl

-- ---- the constructors

module _ (spec : Spec) (declared : Declared) (c : Constructing) (met : first_unmet (conditions spec declared c) ≡ None) where
  pub new_free : (n : List ℕ) → new_type declared c.result ≡ Some n → meaning_of declared n ≡ None
  new_free n is = new_is_free spec declared c.operands c.result (open_result spec declared c met) n is

  module _ (later : Spec) (is : later ≡ with_type spec declared c.result) (cs : List Constructor) (are : cs ≡ constructors_of spec declared c) where
    -- their names are new where the type is there
    pub fresh_later : have_new_names later (map (λ (k : Constructor). k.name) cs) ≡ true
    fresh_later =
        let name = λ (k : Constructor). k.name in
        ap (λ (x : Spec). have_new_names x (map name cs)) is ∙ same_names spec (new_type declared c.result) (map name cs) ∙ ap (λ (ks : List Constructor). have_new_names spec (map name ks)) are
        ∙ ap (have_new_names spec) (map-map name (constructor_of spec declared c) (makings declared c.opcode)) ∙ new_names spec declared c met

    -- and they speak of what is known there
    pub known_later : IsSoundScope spec declared → All (IsConstructorOf later.tokens (length later.type_names)) cs
    known_later s =
        let count = length (with_type spec declared c.result).type_names in
        subst (λ (x : Spec). All (IsConstructorOf x.tokens (length x.type_names)) cs) (sym is)
        (subst (λ (tokens : Tokens). All (IsConstructorOf tokens count) cs) (sym (same_tokens spec (new_type declared c.result)))
        (All-same (IsConstructorOf spec.tokens count) cs (constructors_of spec declared c) are (constructors_known spec declared s c met)))

    -- with them the description is the one that is built
    pub built_is : (whole : Spec) → whole ≡ with_constructors later cs → whole ≡ built_spec spec declared c
    built_is whole with_all =
        with_all ∙ ap (λ (x : Spec). with_constructors x cs) is ∙ ap (with_constructors (with_type spec declared c.result)) are

-- and it is sound
pub sound_later : (spec later : Spec) (declared : Declared) (cs : List Constructor) → IsSoundScope spec declared → later ≡ with_constructors spec cs → IsSpec later → IsSoundScope later declared
sound_later spec later declared cs s is sound = subst (λ (x : Spec). IsSoundScope x declared) (sym is) (constructors_sound spec declared s cs (subst IsSpec is sound))
