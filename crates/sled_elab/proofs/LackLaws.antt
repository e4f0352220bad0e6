-- What a declaration lacks is one answer at most, and so is what the first lacks.
use Rattle.std.proofs.Common.{◌≡◌, ℕ, inl, inr, List, [], ◌∷◌, All, Some, None, refl, sym, ap, ◌∙◌}
use Rattle.std.specs.Prelude.{Option}
use Rattle.sled_parser.specs.declared.tree.Decl.{Decl}
use Rattle.sled_parser.specs.declared.tree.Decl.TheVariants as decl
use Rattle.token_bits.specs.declared.tokens.Tokens.{Tokens}
use Rattle.sled_model.specs.declared.constructor.Constructor.{Constructor}
use Rattle.sled_model.specs.SolvingOrder.{IsDetermined}
use Rattle.sled_model.specs.Solved.{IsSolved}
use Rattle.constructor_meaning.specs.Conditions.{conditions as constructor_conditions}
use Rattle.constructor_meaning.specs.Constructing.{Constructing}
use Rattle.constructor_meaning.specs.Unmet.{first_unmet}
use Rattle.constructor_building.specs.Building.{constructors_of}
use Rattle.constructor_plans.specs.Plans.{ArePlansUnmet}
use Rattle.sled_elab.specs.Conditions.{unmet_made, IsUnmetMade, IsUnmetBehind, IsLackOf, IsFirstOr, IsFirstLackFrom, IsDescriptionLack, next_number}
use Rattle.sled_elab.specs.Declarations.{Described, constructor_tree, nothing}
use Rattle.sled_elab.specs.Elaboration.{after}

-- ---- conditions 12 and 13

module _ (tokens : Tokens) (cs : List Constructor) where
  some_and_none : (n : ℕ) → ArePlansUnmet tokens cs (Some n) → All IsDetermined cs → All (IsSolved tokens) cs → ⊥
  some_and_none n (inl h) determined solved = h.1 determined
  some_and_none n (inr h) determined solved = h.2 solved

  both_some : (n m : ℕ) → ArePlansUnmet tokens cs (Some n) → ArePlansUnmet tokens cs (Some m) → n ≡ m
  both_some n m (inl h) (inl g) = h.0 ∙ sym g.0
  both_some n m (inl h) (inr g) = absurd (h.1 g.1)
  both_some n m (inr h) (inl g) = absurd (g.1 h.1)
  both_some n m (inr h) (inr g) = h.0 ∙ sym g.0

  plans_one : (a b : Option ℕ) → ArePlansUnmet tokens cs a → ArePlansUnmet tokens cs b → a ≡ b
  plans_one None None h g = refl
  plans_one None (Some m) h g = absurd (some_and_none m g h.0 h.1)
  plans_one (Some n) None h g = absurd (some_and_none n h g.0 g.1)
  plans_one (Some n) (Some m) h g = ap Some (both_some n m h g)

-- ---- one declaration

made_one : (d : Described) (c : Constructing) (a b : Option ℕ) → IsUnmetMade d c a → IsUnmetMade d c b → a ≡ b
made_one d c a b h g = h.2 ∙ ap (unmet_made d c) (plans_one d.spec.tokens (constructors_of d.spec d.declared c) h.0 g.0 h.1 g.1) ∙ sym g.2

behind_one : (d : Described) (c : Constructing) (first a b : Option ℕ) → IsUnmetBehind d c first a → IsUnmetBehind d c first b → a ≡ b
behind_one d c None a b h g = made_one d c a b h g
behind_one d c (Some n) a b h g = h ∙ sym g

pub lack_one : (d : Described) (x : Decl) (a b : Option ℕ) → IsLackOf d x a → IsLackOf d x b → a ≡ b
lack_one d (decl.Class name width little fields) a b h g = h ∙ sym g
lack_one d (decl.Heading section) a b h g = h ∙ sym g
lack_one d (decl.Definition name items tree) a b h g = h ∙ sym g
lack_one d (decl.ConstructorDecl opcode operands makes equations body) a b h g =
    let c = constructor_tree opcode operands makes equations body in
    behind_one d c (first_unmet (constructor_conditions d.spec d.declared c)) a b h g

-- ---- all of them

first_case : (n : ℕ) (a b : Option ℕ) (p q : Option (ℕ × ℕ)) (later : Option (ℕ × ℕ) → Type 0) → ((r s : Option (ℕ × ℕ)) → later r → later s → r ≡ s) → a ≡ b
    → IsFirstOr n a p (later p) → IsFirstOr n b q (later q) → p ≡ q
first_case n None None p q later one same h g = one p q h g
first_case n None (Some l) p q later one same h g = cc
first_case n (Some k) None p q later one same h g = cc
first_case n (Some k) (Some l) p q later one same h g =
    let e : k ≡ l = cc in
    h ∙ ap (λ (x : ℕ). Some (n, x)) e ∙ sym g

first_one : (n : ℕ) (d : Described) (xs : List Decl) (p q : Option (ℕ × ℕ)) → IsFirstLackFrom n d xs p → IsFirstLackFrom n d xs q → p ≡ q
first_one n d [] p q h g = h ∙ sym g
first_one n d (x ∷ xs) p q h g =
    first_case n h.0 g.0 p q (IsFirstLackFrom (next_number n x) (after d x) xs) (λ r s. first_one (next_number n x) (after d x) xs r s) (lack_one d x h.0 g.0 h.1 g.1) h.2 g.2

-- declarations have one first that lacks something, or none
pub description_lack_one : (decls : List Decl) (p q : Option (ℕ × ℕ)) → IsDescriptionLack decls p → IsDescriptionLack decls q → p ≡ q
description_lack_one decls p q h g = first_one 1 nothing decls p q h g
