-- Names and their places in a list.
use Rattle.std.specs.Prelude.{ℕ, Bool, not, true, ◌&&◌, List, [], ◌∷◌, ◌++◌, Option, position, bytes_eq, if◌then◌else◌}
use Rattle.std.specs.List.{list_any, list_all}

-- the name stands in the list
abbrev pub is_among : List (List ℕ) → List ℕ → Bool
is_among names name = list_any (λ n. bytes_eq name n) names

-- the place in the list at which the name stands first, counted from 0
abbrev pub position_of : List (List ℕ) → List ℕ → Option ℕ
position_of names name = position (λ n. bytes_eq name n) names

-- no name stands in the list twice
abbrev pub are_distinct : List (List ℕ) → Bool
are_distinct [] = true
are_distinct (n ∷ ns) = not (is_among ns n) && are_distinct ns

-- the first names, and behind them each of the second that is not there yet
abbrev pub merged : List (List ℕ) → List (List ℕ) → List (List ℕ)
merged names [] = names
merged names (n ∷ ns) = merged (if is_among names n then names else names ++ n ∷ []) ns

-- none of the second names is among the first
abbrev pub are_new : List (List ℕ) → List (List ℕ) → Bool
are_new names new = list_all (λ n. not (is_among names n)) new

-- the same names, in whatever order
abbrev pub are_same_names : List (List ℕ) → List (List ℕ) → Bool
are_same_names ns ms = list_all (is_among ms) ns && list_all (is_among ns) ms
