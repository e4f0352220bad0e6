-- Meanings without results.
use Rattle.std.specs.Prelude.{ℕ, ◌≡◌, ◌⊎◌, List, [], ◌∷◌}
use Rattle.sled_model.specs.Results.{Meaning}

abbrev pub HasNoResults : Meaning → Type 0
HasNoResults m = (window : List ℕ) (i : ℕ) → m window i ≡ []

-- some meaning of the list has none
abbrev pub SomeHasNone : List Meaning → Type 0
SomeHasNone [] = ⊥
SomeHasNone (m ∷ ms) = HasNoResults m ⊎ SomeHasNone ms

-- each meaning of the list has none
abbrev pub AllHaveNone : List Meaning → Type 0
AllHaveNone [] = Unit {0}
AllHaveNone (m ∷ ms) = HasNoResults m × AllHaveNone ms
