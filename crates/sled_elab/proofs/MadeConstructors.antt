-- The constructors that a declaration makes are such as plans are made of.
use Rattle.std.proofs.Common.{◌≡◌, true, List, [], ◌∷◌, map, None, refl}
use Rattle.std.specs.Prelude.{All}
use Rattle.std.proofs.lemmas.List.Elements.{All-nil, All-cons, All-head, All-tail}
use Rattle.sled_model.specs.declared.constructor.Constructor.{Constructor}
use Rattle.sled_model.specs.declared.pattern.Pattern.{Pattern}
use Rattle.sled_model.specs.Linear.{IsLinear}
use Rattle.operand_meaning.specs.Terms.{have_equations_in_range}
use Rattle.tree_meaning.specs.Parts.{labels}
use Rattle.constructor_scopes.specs.Bodies.{body_of}
use Rattle.constructor_scopes.specs.Makings.{makings}
use Rattle.constructor_meaning.specs.Conditions.{body_scope, conditions}
use Rattle.constructor_meaning.specs.Constructing.{Constructing}
use Rattle.constructor_meaning.specs.Unmet.{first_unmet}
use Rattle.constructor_building.specs.Building.{constructor_of, constructors_of}
use Rattle.constructor_plans.proofs.LinearOf.{IsConstructorOf, linear_of}
use Rattle.sled_elab.specs.Declarations.{Described}
use Rattle.sled_elab.specs.Descriptions.{IsSound, HasPlainNames}

-- what holds of each of one list holds of each of the other, made of the same
mapped_alike : {A B C : Type 0} (P : B → Type 0) (Q : C → Type 0) (f : A → B) (g : A → C) → ((x : A) → P (f x) → Q (g x)) → (xs : List A) → All P (map f xs) → All Q (map g xs)
mapped_alike P Q f g alike [] h = All-nil Q
mapped_alike P Q f g alike (x ∷ xs) h =
    All-cons Q (g x) (map g xs) (alike x (All-head P (f x) (map f xs) h)) (mapped_alike P Q f g alike xs (All-tail P (f x) (map f xs) h))

pub made_linear : (d : Described) → IsSound d → HasPlainNames d.declared → (c : Constructing) → first_unmet (conditions d.spec d.declared c) ≡ None → have_equations_in_range c.equations ≡ true
    → All (IsLinear d.spec.tokens) (constructors_of d.spec d.declared c)
made_linear d s plain c met range =
    mapped_alike (λ (p : Pattern). (k : Constructor) → IsConstructorOf d.declared c p k → IsLinear d.spec.tokens k) (IsLinear d.spec.tokens)
    (body_of (body_scope d.declared c) c.opcode (labels c.body) c.body) (constructor_of d.spec d.declared c)
    (λ m h. h (constructor_of d.spec d.declared c m) (record { operands = refl; equations = refl; body = refl })) (makings d.declared c.opcode)
    (linear_of d.spec d.declared c s met range plain.fields plain.patterns)
