-- The pieces of an action name what is bound.
use Rattle.std.proofs.Common.{◌≡◌, ℕ, ◌<◌, Bool, true, false, cond, List, [], ◌∷◌, ◌++◌, length, All, Some, None, refl, sym, subst}
use Rattle.std.specs.Prelude.{Option, IfSome, nat_eq}
use Rattle.std.proofs.lemmas.List.Elements.{All-nil, All-cons, All-append}
use Rattle.sled_model.specs.declared.statement.Piece.{Piece}
use Rattle.sled_model.specs.declared.statement.Piece.TheVariants.{Words, Bound}
use Rattle.asm_text.specs.Actions.{NamesBelow}
use Rattle.tree_meaning.specs.Names.{position_of}
use Rattle.tree_meaning.proofs.NamesLemmas.{position_found}
use Rattle.arm_actions.specs.Actions.{outside, inside, behind, words_piece, bound_piece, action_pieces}

module _ (names : List (List ℕ)) where
  abbrev IsNamed : Piece → Type 0
  IsNamed = NamesBelow (length names)

  abbrev AreNamed : Option (List Piece) → Type 0
  AreNamed o = IfSome o (All IsNamed)

  words_named : (w : List ℕ) → All IsNamed (words_piece w)
  words_named [] = All-nil IsNamed
  words_named (b ∷ bs) = All-cons IsNamed (Words (b ∷ bs)) [] tt (All-nil IsNamed)

  behind_named : (front : List Piece) (rest : Option (List Piece)) → All IsNamed front → AreNamed rest → AreNamed (behind front rest)
  behind_named front None first later = tt
  behind_named front (Some ps) first later = All-append IsNamed front ps first later

  bound_named : (name : List ℕ) (o : Option ℕ) (rest : Option (List Piece)) → position_of names name ≡ o → AreNamed rest → AreNamed (bound_piece o rest)
  bound_named name None rest at later = tt
  bound_named name (Some k) rest at later =
      behind_named (Bound k ∷ []) rest (All-cons IsNamed (Bound k) [] (position_found names name k at).0 (All-nil IsNamed)) later

  either_named : (t : Bool) (o p : Option (List Piece)) → AreNamed o → AreNamed p → AreNamed (cond t o p)
  either_named true o p one other = one
  either_named false o p one other = other

  mutual
    outside_named : (w bs : List ℕ) → AreNamed (outside names w bs)
    outside_named w [] = words_named w
    outside_named w (b ∷ bs) =
        either_named (nat_eq b 123) (behind (words_piece w) (inside names [] bs)) (cond (nat_eq b 125) None (outside names (w ++ b ∷ []) bs))
        (behind_named (words_piece w) (inside names [] bs) (words_named w) (inside_named [] bs))
        (either_named (nat_eq b 125) None (outside names (w ++ b ∷ []) bs) tt (outside_named (w ++ b ∷ []) bs))

    inside_named : (name bs : List ℕ) → AreNamed (inside names name bs)
    inside_named name [] = tt
    inside_named name (b ∷ bs) =
        either_named (nat_eq b 125) (bound_piece (position_of names name) (outside names [] bs)) (inside names (name ++ b ∷ []) bs)
        (bound_named name (position_of names name) (outside names [] bs) refl (outside_named [] bs)) (inside_named (name ++ b ∷ []) bs)

  -- each name of an action is one of those that are bound
  pub pieces_named : (text : List ℕ) (o : Option (List Piece)) → o ≡ action_pieces names text → AreNamed o
  pieces_named text o is = subst AreNamed (sym is) (outside_named [] text)
