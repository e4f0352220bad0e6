-- The one equation that holds a term of a kind.
use Rattle.std.proofs.Common.{◌≡◌, ◌⊎◌, inl, inr, ⊎_elim, Bool, true, false, List, [], ◌∷◌, length, map, filter, Contains, refl, sym, ap, ◌∙◌, subst, arith}
use Rattle.std.specs.List.{flat_map}
use Rattle.std.proofs.lemmas.Bool.{cases_Bool, cond-true, cond-false}
use Rattle.std.proofs.lemmas.List.{length-append, length-map}
use Rattle.sled_model.specs.declared.constructor.Term.{Term}
use Rattle.sled_model.specs.declared.constructor.Equation.{Equation}
use Rattle.sled_model.proofs.Members.{Contains-nil, Contains-here, Contains-there, Contains-cons_cases, Contains-at, Contains-map, Contains-flat_map, Contains-flat_map_cases, Contains-filter_cases}

pub Contains-filter : {X : Type 0} (p : X → Bool) (xs : List X) (x : X) → Contains xs x → p x ≡ true → Contains (filter p xs) x
Contains-filter p [] x h e = absurd (Contains-nil x h)
Contains-filter p (y ∷ ys) x h e = by_test (cases_Bool (p y)) (λ m. Contains-filter p ys x m e)
  where
    never : (b : Bool) → b ≡ true → b ≡ false → ⊥
    never true a c = cc
    never false a c = cc

    by_test : (p y ≡ true) ⊎ (p y ≡ false) → (Contains ys x → Contains (filter p ys) x) → Contains (filter p (y ∷ ys)) x
    by_test (inl a) rest =
        subst (λ zs. Contains zs x) (sym (cond-true (p y) (y ∷ filter p ys) (filter p ys) a))
        (⊎_elim (λ s. Contains-at (y ∷ filter p ys) y x s (Contains-here y (filter p ys))) (λ m. Contains-there y (filter p ys) x (rest m)) (Contains-cons_cases y ys x h))
    by_test (inr b) rest =
        subst (λ zs. Contains zs x) (sym (cond-false (p y) (y ∷ filter p ys) (filter p ys) b))
        (⊎_elim (λ s. absurd (never (p y) (ap p s ∙ e) b)) rest (Contains-cons_cases y ys x h))

pub contains_one : {X : Type 0} (x y : X) → Contains (x ∷ []) y → x ≡ y
contains_one x y h = ⊎_elim (λ e. e) (λ m. absurd (Contains-nil y m)) (Contains-cons_cases x [] y h)

-- a list of one
one_of : {X : Type 0} (xs : List X) → length xs ≡ 1 → (x : X) × Contains xs x × ((y : X) → Contains xs y → y ≡ x)
one_of [] e = absurd (omega (arith, e))
one_of (x ∷ []) e = (x, Contains-here x [], λ y h. sym (contains_one x y h))
one_of (x ∷ y ∷ xs) e = absurd (omega (arith, e))

same_lengths : {X Y Z : Type 0} (f : X → List Y) (g : X → List Z) → ((x : X) → length (f x) ≡ length (g x)) → (xs : List X) → length (flat_map f xs) ≡ length (flat_map g xs)
same_lengths f g h [] = refl
same_lengths f g h (x ∷ xs) =
    let a = length-append (f x) (flat_map f xs) in let b = length-append (g x) (flat_map g xs) in let c = h x in let d = same_lengths f g h xs in
    omega (arith, a, b, c, d)

module _ (p : Term → Bool) (es : List Equation) where
  -- each equation, as often as such a term stands in it
  abbrev holders : List Equation
  holders = flat_map (λ (e : Equation). map (λ t. e) (filter p e.terms)) es

  -- the only equation with such a term
  pub record IsHolder (e : Equation) (t : Term) : Type 0 where
    pub equation : Contains es e
    pub term : Contains e.terms t
    pub passes : p t ≡ true
    pub only : (f : Equation) (u : Term) → Contains es f → Contains f.terms u → p u ≡ true → f ≡ e

  holds : (f : Equation) (u : Term) → Contains es f → Contains f.terms u → p u ≡ true → Contains holders f
  holds f u m n q =
      Contains-flat_map (λ (e : Equation). map (λ t. e) (filter p e.terms)) es f f m
      (Contains-map (λ (t : Term). f) (filter p f.terms) u (Contains-filter p f.terms u n q))

  pub holder_of : length (flat_map (λ (e : Equation). filter p e.terms) es) ≡ 1 → (e : Equation) × (t : Term) × IsHolder e t
  holder_of h =
      let term = one_of (flat_map (λ (e : Equation). filter p e.terms) es) h in
      let found = Contains-flat_map_cases (λ (e : Equation). filter p e.terms) es term.0 term.1 in
      let there = Contains-filter_cases p found.0.terms term.0 found.2 in
      let one = one_of holders (same_lengths (λ (e : Equation). map (λ t. e) (filter p e.terms)) (λ (e : Equation). filter p e.terms) (λ (e : Equation). length-map {B = Equation} (filter p e.terms) (λ t. e)) es ∙ h) in (
        found.0,
        term.0,
        record {
          equation = found.1;
          term = there.0;
          passes = there.1;
          only = λ f u m n q. one.2 f (holds f u m n q) ∙ sym (one.2 found.0 (holds found.0 term.0 found.1 there.0 there.1));
        },
      )
