-- Members of lists, and tests that all members pass.
use Rattle.std.proofs.Common.{◌≡◌, ◌⊎◌, inl, inr, ⊎_elim, zero, suc, Bool, true, false, List, [], ◌∷◌, map, filter, Contains, refl, sym, ap, ◌∙◌, subst, arith}
use Rattle.std.specs.List.{flat_map, list_all}
use Rattle.std.proofs.lemmas.Bool.{cases_Bool, cond-true, cond-false}
use Rattle.std.proofs.lemmas.List.Elements.{All-weaker, All-contains, All-contains_itself, Contains-append_left, Contains-append_right, Contains-append_cases}
use Rattle.std.proofs.lemmas.List.Sums.{AllPass-from_list_all, list_all-from_AllPass}

pub Contains-nil : {X : Type 0} (x : X) → Contains [] x → ⊥
Contains-nil x (k, l, e) = omega arith

pub Contains-here : {X : Type 0} (x : X) (xs : List X) → Contains (x ∷ xs) x
Contains-here x xs = (zero, omega arith, refl)

pub Contains-there : {X : Type 0} (x : X) (xs : List X) (y : X) → Contains xs y → Contains (x ∷ xs) y
Contains-there x xs y h = Contains-append_right (x ∷ []) xs y h

pub Contains-cons_cases : {X : Type 0} (x : X) (xs : List X) (y : X) → Contains (x ∷ xs) y → (x ≡ y) ⊎ Contains xs y
Contains-cons_cases x xs y (zero, l, e) = inl e
Contains-cons_cases x xs y (suc k, l, e) = inr (k, omega arith, e)

pub Contains-at : {X : Type 0} (xs : List X) (x y : X) → x ≡ y → Contains xs x → Contains xs y
Contains-at xs x y e h = subst (λ z. Contains xs z) e h

pub Contains-map : {X Y : Type 0} (f : X → Y) (xs : List X) (x : X) → Contains xs x → Contains (map f xs) (f x)
Contains-map f [] x h = absurd (Contains-nil x h)
Contains-map f (y ∷ ys) x h = ⊎_elim
    (λ e. Contains-at (f y ∷ map f ys) (f y) (f x) (ap f e) (Contains-here (f y) (map f ys)))
    (λ m. Contains-there (f y) (map f ys) (f x) (Contains-map f ys x m))
    (Contains-cons_cases y ys x h)

pub Contains-map_cases : {X Y : Type 0} (f : X → Y) (xs : List X) (y : Y) → Contains (map f xs) y → (x : X) × Contains xs x × (f x ≡ y)
Contains-map_cases f [] y h = absurd (Contains-nil y h)
Contains-map_cases f (x ∷ xs) y h = ⊎_elim
    (λ e. (x, Contains-here x xs, e))
    (λ m. let found = Contains-map_cases f xs y m in (found.0, Contains-there x xs found.0 found.1, found.2))
    (Contains-cons_cases (f x) (map f xs) y h)

pub Contains-flat_map : {X Y : Type 0} (f : X → List Y) (xs : List X) (x : X) (y : Y) → Contains xs x → Contains (f x) y → Contains (flat_map f xs) y
Contains-flat_map f [] x y h g = absurd (Contains-nil x h)
Contains-flat_map f (z ∷ zs) x y h g = ⊎_elim
    (λ e. Contains-append_left (f z) (flat_map f zs) y (subst (λ w. Contains (f w) y) (sym e) g))
    (λ m. Contains-append_right (f z) (flat_map f zs) y (Contains-flat_map f zs x y m g))
    (Contains-cons_cases z zs x h)

pub Contains-flat_map_cases : {X Y : Type 0} (f : X → List Y) (xs : List X) (y : Y) → Contains (flat_map f xs) y → (x : X) × Contains xs x × Contains (f x) y
Contains-flat_map_cases f [] y h = absurd (Contains-nil y h)
Contains-flat_map_cases f (x ∷ xs) y h = ⊎_elim
    (λ m. (x, Contains-here x xs, m))
    (λ m. let found = Contains-flat_map_cases f xs y m in (found.0, Contains-there x xs found.0 found.1, found.2))
    (Contains-append_cases (f x) (flat_map f xs) y h)

pub Contains-filter_cases : {X : Type 0} (p : X → Bool) (xs : List X) (y : X) → Contains (filter p xs) y → Contains xs y × (p y ≡ true)
Contains-filter_cases p [] y h = absurd (Contains-nil y h)
Contains-filter_cases p (x ∷ xs) y h = ⊎_elim
    (λ yes. ⊎_elim
    (λ e. (Contains-at (x ∷ xs) x y e (Contains-here x xs), ap p (sym e) ∙ yes))
    (λ m. let rest = Contains-filter_cases p xs y m in (Contains-there x xs y rest.0, rest.1))
    (Contains-cons_cases x (filter p xs) y (subst (λ zs. Contains zs y) (cond-true (p x) (x ∷ filter p xs) (filter p xs) yes) h)))
    (λ no. let rest = Contains-filter_cases p xs y (subst (λ zs. Contains zs y) (cond-false (p x) (x ∷ filter p xs) (filter p xs) no) h) in (Contains-there x xs y rest.0, rest.1))
    (cases_Bool (p x))

pub list_all_at_member : {X : Type 0} (p : X → Bool) (xs : List X) (x : X) → list_all p xs ≡ true → Contains xs x → p x ≡ true
list_all_at_member p xs x all h = All-contains (λ y. p y ≡ true) xs x (AllPass-from_list_all p xs all) h

pub list_all_from_members : {X : Type 0} (p : X → Bool) (xs : List X) → ((x : X) → Contains xs x → p x ≡ true) → list_all p xs ≡ true
list_all_from_members p xs h = list_all-from_AllPass p xs (All-weaker (Contains xs) (λ y. p y ≡ true) h xs (All-contains_itself xs))

pub same_bool : (a b : Bool) → (a ≡ true → b ≡ true) → (b ≡ true → a ≡ true) → a ≡ b
same_bool true b f g = sym (f refl)
same_bool false true f g = g refl
same_bool false false f g = refl
