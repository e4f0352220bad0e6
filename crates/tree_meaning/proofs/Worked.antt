-- Worked rows of the definitions.
use Rattle.std.proofs.Common.{◌≡◌, ℕ, List, [], ◌∷◌, refl}
use Rattle.tree_meaning.specs.Patterns.{choices}

-- the rightmost choice varies fastest
rightmost_fastest : choices {A = ℕ} ((1 ∷ 2 ∷ []) ∷ (5 ∷ 7 ∷ []) ∷ []) ≡ (1 ∷ 5 ∷ []) ∷ (1 ∷ 7 ∷ []) ∷ (2 ∷ 5 ∷ []) ∷ (2 ∷ 7 ∷ []) ∷ []
rightmost_fastest = refl

-- there is one choice of nothing, and none where there is nothing to choose from
choice_of_nothing : choices {A = ℕ} [] ≡ [] ∷ []
choice_of_nothing = refl

choice_from_nothing : choices {A = ℕ} ((1 ∷ 2 ∷ []) ∷ [] ∷ []) ≡ []
choice_from_nothing = refl
