-- The words of the command line.
use Rattle.std.specs.Prelude.{ℕ, Bool, false, not, ◌&&◌, ◌==◌, List, [], ◌∷◌, Option, None, option_map, bytes_eq, codes, if◌then◌else◌}
use Rattle.sled_lexer.specs.Spelled.{is_number, number_value, within_limit}

-- dis SPEC MATCH BASE
pub record Words : Type 0 where
  pub spec : List ℕ
  pub matching : List ℕ
  pub base : ℕ

-- at least one byte, and the first is no '@'
abbrev pub is_name : List ℕ → Bool
is_name [] = false
is_name (b ∷ bs) = not (b == 64)

-- decimal digits, or 0x and hexadecimal digits, in range
abbrev pub base_of : List ℕ → Option ℕ
base_of text = if is_number text then within_limit (number_value text) else None

-- what the words ask for, if they have the form
abbrev pub words_of : List (List ℕ) → Option Words
words_of (command ∷ spec ∷ matching ∷ base ∷ []) =
    if bytes_eq command (codes "dis") && (is_name spec && is_name matching) then option_map (λ n. record { spec = spec; matching = matching; base = n }) (base_of base) else None
words_of _ = None
