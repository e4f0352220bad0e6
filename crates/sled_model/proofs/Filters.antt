-- Items that pass a test.
use Rattle.std.proofs.Common.{◌≡◌, Bool, true, false, cond, ◌⊎◌, inl, inr, List, [], ◌∷◌, ◌++◌, map, filter, All, refl, sym, ap, ◌∙◌}
use Rattle.std.specs.List.{flat_map}
use Rattle.std.proofs.lemmas.Bool.{cases_Bool}
use Rattle.std.proofs.lemmas.List.Elements.{All-head, All-tail, All-nil, All-cons, filter-append}

module _ {A : Type 0} (p : A → Bool) where
  pub keeps : (x : A) (xs : List A) → p x ≡ true → filter p (x ∷ xs) ≡ x ∷ filter p xs
  keeps x xs e = ap (λ b. cond b (x ∷ filter p xs) (filter p xs)) e

  pub drops : (x : A) (xs : List A) → p x ≡ false → filter p (x ∷ xs) ≡ filter p xs
  drops x xs e = ap (λ b. cond b (x ∷ filter p xs) (filter p xs)) e

  -- where all pass, or none does
  pub filter-all : (xs : List A) → All (λ x. p x ≡ true) xs → filter p xs ≡ xs
  filter-all [] h = refl
  filter-all (x ∷ xs) h = keeps x xs (All-head (λ y. p y ≡ true) x xs h) ∙ ap (λ ys. x ∷ ys) (filter-all xs (All-tail (λ y. p y ≡ true) x xs h))

  pub filter-none : (xs : List A) → All (λ x. p x ≡ false) xs → filter p xs ≡ []
  filter-none [] h = refl
  filter-none (x ∷ xs) h = drops x xs (All-head (λ y. p y ≡ false) x xs h) ∙ filter-none xs (All-tail (λ y. p y ≡ false) x xs h)

  -- those that are left pass
  pub filter-passes : (xs : List A) → All (λ x. p x ≡ true) (filter p xs)
  filter-passes [] = All-nil (λ x. p x ≡ true)
  filter-passes (x ∷ xs) = by_test (cases_Bool (p x)) (filter-passes xs)
    where
      by_test : (p x ≡ true) ⊎ (p x ≡ false) → All (λ y. p y ≡ true) (filter p xs) → All (λ y. p y ≡ true) (filter p (x ∷ xs))
      by_test (inl e) rest = rw (keeps x xs e) (All-cons (λ y. p y ≡ true) x (filter p xs) e rest)
      by_test (inr e) rest = rw (drops x xs e) rest

-- the test of an item's image is one of the item
pub filter-map : {A B : Type 0} (p : B → Bool) (q : A → Bool) (f : A → B) → ((x : A) → p (f x) ≡ q x) → (xs : List A) → filter p (map f xs) ≡ map f (filter q xs)
filter-map p q f same [] = refl
filter-map p q f same (x ∷ xs) = by_test (cases_Bool (q x)) (filter-map p q f same xs)
  where
    by_test : (q x ≡ true) ⊎ (q x ≡ false) → filter p (map f xs) ≡ map f (filter q xs) → filter p (map f (x ∷ xs)) ≡ map f (filter q (x ∷ xs))
    by_test (inl e) rest = keeps p (f x) (map f xs) (same x ∙ e) ∙ ap (λ ys. f x ∷ ys) rest ∙ sym (ap (map f) (keeps q x xs e))
    by_test (inr e) rest = drops p (f x) (map f xs) (same x ∙ e) ∙ rest ∙ sym (ap (map f) (drops q x xs e))

-- two tests in either order
pub filter-swap : {A : Type 0} (p q : A → Bool) (xs : List A) → filter p (filter q xs) ≡ filter q (filter p xs)
filter-swap p q [] = refl
filter-swap p q (x ∷ xs) = by_tests (cases_Bool (p x)) (cases_Bool (q x)) (filter-swap p q xs)
  where
    by_tests : (p x ≡ true) ⊎ (p x ≡ false) → (q x ≡ true) ⊎ (q x ≡ false) → filter p (filter q xs) ≡ filter q (filter p xs) → filter p (filter q (x ∷ xs)) ≡ filter q (filter p (x ∷ xs))
    by_tests (inl e) (inl d) rest =
        ap (filter p) (keeps q x xs d) ∙ keeps p x (filter q xs) e ∙ ap (λ ys. x ∷ ys) (rest) ∙ sym (ap (filter q) (keeps p x xs e) ∙ keeps q x (filter p xs) d)
    by_tests (inl e) (inr d) rest = ap (filter p) (drops q x xs d) ∙ rest ∙ sym (ap (filter q) (keeps p x xs e) ∙ drops q x (filter p xs) d)
    by_tests (inr e) (inl d) rest = ap (filter p) (keeps q x xs d) ∙ drops p x (filter q xs) e ∙ rest ∙ sym (ap (filter q) (drops p x xs e))
    by_tests (inr e) (inr d) rest = ap (filter p) (drops q x xs d) ∙ rest ∙ sym (ap (filter q) (drops p x xs e))

-- lists that follow from items: none of what follows from an item that fails passes
pub filter-flat_map : {A B : Type 0} (p : A → Bool) (q : B → Bool) (f g : A → List B) → ((x : A) → p x ≡ true → f x ≡ filter q (g x)) → ((x : A) → p x ≡ false → filter q (g x) ≡ [])
    → (xs : List A) → flat_map f (filter p xs) ≡ filter q (flat_map g xs)
filter-flat_map p q f g passed failed [] = refl
filter-flat_map p q f g passed failed (x ∷ xs) = by_test (cases_Bool (p x)) (filter-flat_map p q f g passed failed xs)
  where
    by_test : (p x ≡ true) ⊎ (p x ≡ false) → flat_map f (filter p xs) ≡ filter q (flat_map g xs) → flat_map f (filter p (x ∷ xs)) ≡ filter q (flat_map g (x ∷ xs))
    by_test (inl e) rest =
        ap (flat_map f) (keeps p x xs e) ∙ ap (λ ys. f x ++ ys) rest ∙ ap (λ ys. ys ++ filter q (flat_map g xs)) (passed x e)
        ∙ sym (filter-append q (g x) (flat_map g xs))
    by_test (inr e) rest =
        ap (flat_map f) (drops p x xs e) ∙ rest ∙ sym (ap (λ ys. ys ++ filter q (flat_map g xs)) (failed x e)) ∙ sym (filter-append q (g x) (flat_map g xs))
