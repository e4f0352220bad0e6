-- The first condition that is unmet.
use Rattle.std.specs.Prelude.{ℕ, Bool, List, [], ◌∷◌, Option, Some, None, if◌then◌else◌}

-- the number of the first condition that is unmet
abbrev pub first_unmet : List (ℕ × Bool) → Option ℕ
first_unmet [] = None
first_unmet (c ∷ cs) = if c.1 then first_unmet cs else Some c.0
