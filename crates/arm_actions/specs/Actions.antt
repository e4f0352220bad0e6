-- The text of an action, in pieces: words, and the names in braces.
use Rattle.std.specs.Prelude.{ℕ, suc, ◌-◌, ◌==◌, Bool, not, ◌&&◌, List, [], ◌∷◌, ◌++◌, length, take, drop, Option, Some, None, option_map, if◌then◌else◌}
use Rattle.sled_model.specs.declared.statement.Piece.{Piece}
use Rattle.sled_model.specs.declared.statement.Piece.TheVariants.{Words, Bound}
use Rattle.tree_meaning.specs.Names.{position_of}

-- the bytes of a Text without its quotation marks
abbrev pub unquoted : List ℕ → List ℕ
unquoted text = take (length text - 2) (drop 1 text)

-- words, if there are any
abbrev pub words_piece : List ℕ → List Piece
words_piece [] = []
words_piece (b ∷ bs) = Words (b ∷ bs) ∷ []

abbrev pub behind : List Piece → Option (List Piece) → Option (List Piece)
behind front rest = option_map (λ ps. front ++ ps) rest

-- the piece of a name in braces, where the name is bound
abbrev pub bound_piece : Option ℕ → Option (List Piece) → Option (List Piece)
bound_piece None rest = None
bound_piece (Some k) rest = behind (Bound k ∷ []) rest

-- The pieces of what is left of the text, behind these words (outside braces) or this part of a name (inside braces): None
-- where a `{` begins no `{name}` with a bound name, or a `}` ends none.
abbrev mutual
  pub outside : List (List ℕ) → List ℕ → List ℕ → Option (List Piece)
  outside names words [] = Some (words_piece words)
  outside names words (b ∷ bs) =
      if b == 123 then behind (words_piece words) (inside names [] bs) else (
      if b == 125 then None else outside names (words ++ b ∷ []) bs)

  pub inside : List (List ℕ) → List ℕ → List ℕ → Option (List Piece)
  inside names name [] = None
  inside names name (b ∷ bs) = if b == 125 then bound_piece (position_of names name) (outside names [] bs) else inside names (name ++ b ∷ []) bs

-- the pieces of a text, where each brace is right
abbrev pub action_pieces : List (List ℕ) → List ℕ → Option (List Piece)
action_pieces names text = outside names [] text

-- how many bytes of the front pass the test
abbrev pub run_len : (ℕ → Bool) → List ℕ → ℕ
run_len p [] = 0
run_len p (b ∷ bs) = if p b then suc (run_len p bs) else 0

abbrev pub is_no_brace : ℕ → Bool
is_no_brace b = not (b == 123) && not (b == 125)

abbrev pub is_no_close : ℕ → Bool
is_no_close b = not (b == 125)
