-- Lists by their places.
use Rattle.std.proofs.Common.{◌≡◌, ◌⊎◌, inl, inr, ⊎_elim, ℕ, zero, suc, ◌<◌, Bool, true, false, ◌||◌, List, [], ◌∷◌, ◌++◌, length, set, map, get_or, slice_get, Some, refl, ap, ◌∙◌, arith}
use Rattle.std.specs.List.{list_any}
use Rattle.std.specs.Option.{option_map_or}
use Rattle.std.proofs.lemmas.List.Folds.{list_any-append}
use Rattle.std.proofs.lemmas.List.Elements.{Contains-append_left, Contains-append_right, Contains-append_cases}
use Rattle.sled_model.specs.declared.shape.Shape.{Shape}
use Rattle.pattern_shapes.specs.Forms.{SameMembers}

or_false : (b : Bool) → (b || false) ≡ b
or_false true = refl
or_false false = refl

module _ {A : Type 0} where
  -- what stands at a place of a list with one item more
  pub push_cases : (xs : List A) (x y : A) (k : ℕ) → slice_get (xs ++ x ∷ []) k ≡ Some y → (slice_get xs k ≡ Some y) ⊎ ((k ≡ length xs) × (x ≡ y))
  push_cases [] x y zero e = inr (refl, cc)
  push_cases [] x y (suc k) e = cc
  push_cases (z ∷ zs) x y zero e = inl e
  push_cases (z ∷ zs) x y (suc k) e = ⊎_elim (λ l. inl l) (λ r. inr (let same : k ≡ length zs = r.0 in omega arith, r.1)) (push_cases zs x y k e)

  pub set_here : (xs : List A) (k : ℕ) (x : A) → k < length xs → slice_get (set xs k x) k ≡ Some x
  set_here [] k x l = absurd (omega arith)
  set_here (y ∷ ys) zero x l = refl
  set_here (y ∷ ys) (suc k) x l = set_here ys k x (omega arith)

  pub set_elsewhere : (xs : List A) (k j : ℕ) (x : A) → (k ≡ j → ⊥) → slice_get (set xs k x) j ≡ slice_get xs j
  set_elsewhere [] k j x differ = refl
  set_elsewhere (y ∷ ys) zero zero x differ = absurd (differ refl)
  set_elsewhere (y ∷ ys) zero (suc j) x differ = refl
  set_elsewhere (y ∷ ys) (suc k) zero x differ = refl
  set_elsewhere (y ∷ ys) (suc k) (suc j) x differ = set_elsewhere ys k j x (λ e. differ (ap suc e))

  pub found_below : (xs : List A) (k : ℕ) → k < length xs → (x : A) × (slice_get xs k ≡ Some x)
  found_below [] k l = absurd (omega arith)
  found_below (x ∷ xs) zero l = (x, refl)
  found_below (x ∷ xs) (suc k) l = found_below xs k (omega arith)

  pub any_push : (p : A → Bool) (xs : List A) (x : A) → list_any p (xs ++ x ∷ []) ≡ (list_any p xs || p x)
  any_push p xs x = list_any-append p xs (x ∷ []) ∙ ap (λ b. list_any p xs || b) (or_false (p x))

module _ {A B : Type 0} (f : A → B) where
  pub mapped_at : (xs : List A) (k : ℕ) (d : B) → get_or (map f xs) k d ≡ option_map_or f (slice_get xs k) d
  mapped_at [] k d = refl
  mapped_at (x ∷ xs) zero d = refl
  mapped_at (x ∷ xs) (suc k) d = mapped_at xs k d

pub same_append : (ss ss' ts ts' : List Shape) → SameMembers ss ss' → SameMembers ts ts' → SameMembers (ss ++ ts) (ss' ++ ts')
same_append ss ss' ts ts' first second b = (
  λ m. ⊎_elim (λ l. Contains-append_left ss' ts' b ((first b).0 l)) (λ r. Contains-append_right ss' ts' b ((second b).0 r)) (Contains-append_cases ss ts b m),
  λ m. ⊎_elim (λ l. Contains-append_left ss ts b ((first b).1 l)) (λ r. Contains-append_right ss ts b ((second b).1 r)) (Contains-append_cases ss' ts' b m),
)
