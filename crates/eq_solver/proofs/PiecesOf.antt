-- The slices of an operand among the values of a plan.
use Rattle.std.proofs.Common.{ℕ, zero, suc, ◌+◌, ◌-◌, ◌/◌, ◌%◌, ◌^◌, ◌≡◌, ◌==◌, ◌<◌, ◌≤◌, ◌⊎◌, inl, inr, Bool, true, false, cond, if◌then◌else◌, List, [], ◌∷◌, length, map, filter, slice_get, Some, None, Option, option_map, ℤ, pos, unsigned_abs, refl, ap, sym, ◌∙◌, arith, subst}
use Rattle.std.proofs.lemmas.Bool.Decides.{nat_tests}
use Rattle.std.proofs.lemmas.Option.{slice_get-map}
use Rattle.std.specs.Option.{option_map_or}
use Rattle.sled_model.specs.declared.constructor.Atom.{Atom}
use Rattle.sled_model.specs.declared.constructor.Atom.TheVariants.{Name, Field, Signed, Slice, Label}
use Rattle.sled_model.specs.Equations.{Setting}
use Rattle.sled_model.specs.Solved.{is_bit_of}
use Rattle.eq_solver.specs.Pieces.{Piece}
use Rattle.eq_solver.specs.declared.plan.Value.{Value}
use Rattle.eq_solver.specs.Pieces as pieces
use Rattle.eq_solver.specs.Ranges.{IsInOrder}
use Rattle.eq_solver.specs.Values.{is_ending, is_slice_of, low_of, IsChain, is_slice_number}
use Rattle.eq_solver.specs.Given.{value_at, piece_of, with_piece, pieces_of}

-- x has the slice of this value
abbrev pub HasPiece : Setting → (ℕ → ℤ) → ℕ → Value → Atom → Type 0
HasPiece w v x g (Slice k lo hi) = x / 2 ^ lo % 2 ^ (hi - lo + 1) ≡ unsigned_abs (value_at w v g)
HasPiece w v x g _ = Unit {0}

module _ (w : Setting) (v : ℕ → ℤ) (gs : List Value) (targets : List Atom) (are : targets ≡ map (λ (g : Value). g.target) gs) (orders : (j : ℕ) (g : Value) → slice_get gs j ≡ Some g → IsInOrder g.target) (k : ℕ) where
  target_at : (n : ℕ) (o : Option Value) → slice_get gs n ≡ o → slice_get targets n ≡ option_map (λ (g : Value). g.target) o
  target_at n o e = ap (λ xs. slice_get xs n) are ∙ slice_get-map (λ (g : Value). g.target) gs n ∙ ap (option_map (λ (g : Value). g.target)) e

  some_same : (o : Option Atom) (a b : Atom) → o ≡ Some a → o ≡ Some b → a ≡ b
  some_same o a b p q = cc

  ending_piece : (top : ℕ) (g : Value) (a : Atom) (ps : List Piece) → IsInOrder a → is_ending k top a ≡ true → pieces.IsChain (low_of a) ps → pieces.IsChain top (piece_of w v g a ∷ ps)
  ending_piece top g (Slice j lo hi) ps o h c = (let l : lo ≤ hi = o.0 in let e : hi + 1 ≡ top = grind (arith, nat_tests) in omega (arith, l, e), c)
  ending_piece top g (Name j) ps o h c = cc
  ending_piece top g (Field j) ps o h c = cc
  ending_piece top g (Signed j) ps o h c = cc
  ending_piece top g (Label j) ps o h c = cc

  chain_if : (n top : ℕ) (ns : List ℕ) (g : Value) (ps : List Piece) (b : Bool) → slice_get gs n ≡ Some g → is_slice_of k g.target ≡ b
      → ((top : ℕ) → IsChain targets k top 0 (filter (is_slice_number targets k) ns) → pieces.IsChain top ps)
      → IsChain targets k top 0 (cond b (n ∷ filter (is_slice_number targets k) ns) (filter (is_slice_number targets k) ns)) → pieces.IsChain top (if b then (piece_of w v g g.target ∷ ps) else ps)
  chain_if n top ns g ps true e h rec c =
      let same = some_same (slice_get targets n) c.0 g.target c.1 (target_at n (Some g) e) in
      ending_piece top g g.target ps (orders n g e) (ap (is_ending k top) (sym same) ∙ c.2) (rec (low_of g.target) (subst (λ a. IsChain targets k (low_of a) 0 (filter (is_slice_number targets k) ns)) same c.3))
  chain_if n top ns g ps false e h rec c = rec top c

  chain_at : (n top : ℕ) (ns : List ℕ) (o : Option Value) (ps : List Piece) → slice_get gs n ≡ o → ((top : ℕ) → IsChain targets k top 0 (filter (is_slice_number targets k) ns) → pieces.IsChain top ps)
      → IsChain targets k top 0 (filter (is_slice_number targets k) (n ∷ ns)) → pieces.IsChain top (with_piece w v k o ps)
  chain_at n top ns None ps e rec c = rec top (subst (λ b. IsChain targets k top 0 (cond b (n ∷ filter (is_slice_number targets k) ns) (filter (is_slice_number targets k) ns))) (ap (λ o. option_map_or (is_slice_of k) o false) (target_at n None e)) c)
  chain_at n top ns (Some g) ps e rec c =
      chain_if n top ns g ps (is_slice_of k g.target) e refl rec
      (subst (λ b. IsChain targets k top 0 (cond b (n ∷ filter (is_slice_number targets k) ns) (filter (is_slice_number targets k) ns))) (ap (λ o. option_map_or (is_slice_of k) o false) (target_at n (Some g) e)) c)

  pub chain_pieces : (ns : List ℕ) (top : ℕ) → IsChain targets k top 0 (filter (is_slice_number targets k) ns) → pieces.IsChain top (pieces_of w v gs k ns)
  chain_pieces [] top c = c
  chain_pieces (n ∷ ns) top c = chain_at n top ns (slice_get gs n) (pieces_of w v gs k ns) refl (chain_pieces ns) c

  none_at : (n : ℕ) (o : Option Value) (ps : List Piece) → slice_get gs n ≡ o → ((j : ℕ) (g : Value) → slice_get gs j ≡ Some g → is_slice_of k g.target ≡ false) → ps ≡ [] → with_piece w v k o ps ≡ []
  none_at n None ps e h p = p
  none_at n (Some g) ps e h p = ap (λ (b : Bool). if b then (piece_of w v g g.target ∷ ps) else ps) (h n g e) ∙ p

  pub no_pieces : (ns : List ℕ) → ((j : ℕ) (g : Value) → slice_get gs j ≡ Some g → is_slice_of k g.target ≡ false) → pieces_of w v gs k ns ≡ []
  no_pieces [] h = refl
  no_pieces (n ∷ ns) h = none_at n (slice_get gs n) (pieces_of w v gs k ns) refl h (no_pieces ns h)

  -- the slice that holds this bit, which x has
  abbrev pub HoldsBit : ℕ → ℕ → Type 0
  HoldsBit x bit = (n : ℕ) × (g : Value) × (slice_get gs n ≡ Some g) × (is_bit_of k bit g.target ≡ true) × HasPiece w v x g g.target

  bit_here : (bit top : ℕ) (a : Atom) → is_ending k top a ≡ true → low_of a ≤ bit → bit < top → is_bit_of k bit a ≡ true
  bit_here bit top (Slice j lo hi) h l m = grind (arith, nat_tests)
  bit_here bit top (Name j) h l m = cc
  bit_here bit top (Field j) h l m = cc
  bit_here bit top (Signed j) h l m = cc
  bit_here bit top (Label j) h l m = cc

  has_first : (x : ℕ) (g : Value) (a : Atom) (ps : List Piece) → pieces.Matches x (piece_of w v g a ∷ ps) → HasPiece w v x g a
  has_first x g (Slice j lo hi) ps m = m.0
  has_first x g (Name j) ps m = tt
  has_first x g (Field j) ps m = tt
  has_first x g (Signed j) ps m = tt
  has_first x g (Label j) ps m = tt

  le_or : (a b : ℕ) → (a ≤ b) ⊎ (b < a)
  le_or a b = grind arith

  holds_if : (x bit n top : ℕ) (ns : List ℕ) (g : Value) (ps : List Piece) (b : Bool) → slice_get gs n ≡ Some g → ((top : ℕ) → bit < top → IsChain targets k top 0 (filter (is_slice_number targets k) ns) → pieces.Matches x ps → HoldsBit x bit) → bit < top
      → IsChain targets k top 0 (cond b (n ∷ filter (is_slice_number targets k) ns) (filter (is_slice_number targets k) ns)) → pieces.Matches x (if b then (piece_of w v g g.target ∷ ps) else ps) → HoldsBit x bit
  holds_if x bit n top ns g ps true e rec l c m =
      let same = some_same (slice_get targets n) c.0 g.target c.1 (target_at n (Some g) e) in
      let ends : is_ending k top g.target ≡ true = ap (is_ending k top) (sym same) ∙ c.2 in
      elim (le_or (low_of g.target) bit) [
        | inl here ↦ (n, g, e, bit_here bit top g.target ends here l, has_first x g g.target ps m)
        | inr below ↦ rec (low_of g.target) below (subst (λ a. IsChain targets k (low_of a) 0 (filter (is_slice_number targets k) ns)) same c.3) m.1
      ]
  holds_if x bit n top ns g ps false e rec l c m = rec top l c m

  holds_at : (x bit n top : ℕ) (ns : List ℕ) (o : Option Value) (ps : List Piece) → slice_get gs n ≡ o → ((top : ℕ) → bit < top → IsChain targets k top 0 (filter (is_slice_number targets k) ns) → pieces.Matches x ps → HoldsBit x bit) → bit < top
      → IsChain targets k top 0 (filter (is_slice_number targets k) (n ∷ ns)) → pieces.Matches x (with_piece w v k o ps) → HoldsBit x bit
  holds_at x bit n top ns None ps e rec l c m =
      rec top l (subst (λ b. IsChain targets k top 0 (cond b (n ∷ filter (is_slice_number targets k) ns) (filter (is_slice_number targets k) ns))) (ap (λ o. option_map_or (is_slice_of k) o false) (target_at n None e)) c) m
  holds_at x bit n top ns (Some g) ps e rec l c m =
      holds_if x bit n top ns g ps (is_slice_of k g.target) e rec l
      (subst (λ b. IsChain targets k top 0 (cond b (n ∷ filter (is_slice_number targets k) ns) (filter (is_slice_number targets k) ns))) (ap (λ o. option_map_or (is_slice_of k) o false) (target_at n (Some g) e)) c) m

  pub holds_bit : (x bit : ℕ) (ns : List ℕ) (top : ℕ) → bit < top → IsChain targets k top 0 (filter (is_slice_number targets k) ns) → pieces.Matches x (pieces_of w v gs k ns) → HoldsBit x bit
  holds_bit x bit [] top l c m = absurd (omega arith)
  holds_bit x bit (n ∷ ns) top l c m = holds_at x bit n top ns (slice_get gs n) (pieces_of w v gs k ns) refl (holds_bit x bit ns) l c m

  matches_piece : (x : ℕ) (g : Value) (a : Atom) (ps : List Piece) → HasPiece w v x g a → pieces.Matches x ps → pieces.Matches x (if is_slice_of k a then (piece_of w v g a ∷ ps) else ps)
  matches_piece x g (Slice j lo hi) ps h m = either (j == k)
    where
      either : (b : Bool) → pieces.Matches x (if b then (piece_of w v g (Slice j lo hi) ∷ ps) else ps)
      either true = (h, m)
      either false = m
  matches_piece x g (Name j) ps h m = m
  matches_piece x g (Field j) ps h m = m
  matches_piece x g (Signed j) ps h m = m
  matches_piece x g (Label j) ps h m = m

  matches_at : (x n : ℕ) (o : Option Value) (ps : List Piece) → slice_get gs n ≡ o → ((j : ℕ) (g : Value) → slice_get gs j ≡ Some g → is_slice_of k g.target ≡ true → HasPiece w v x g g.target) → pieces.Matches x ps → pieces.Matches x (with_piece w v k o ps)
  matches_at x n None ps e h m = m
  matches_at x n (Some g) ps e h m = of_slice (is_slice_of k g.target) refl
    where
      of_slice : (b : Bool) → is_slice_of k g.target ≡ b → pieces.Matches x (if is_slice_of k g.target then (piece_of w v g g.target ∷ ps) else ps)
      of_slice true q = matches_piece x g g.target ps (h n g e q) m
      of_slice false q = subst (λ (b : Bool). pieces.Matches x (if b then (piece_of w v g g.target ∷ ps) else ps)) (sym q) m

  -- what has all slices of the operand matches its pieces
  pub matches_all : (x : ℕ) (ns : List ℕ) → ((j : ℕ) (g : Value) → slice_get gs j ≡ Some g → is_slice_of k g.target ≡ true → HasPiece w v x g g.target) → pieces.Matches x (pieces_of w v gs k ns)
  matches_all x [] h = tt
  matches_all x (n ∷ ns) h = matches_at x n (slice_get gs n) (pieces_of w v gs k ns) refl h (matches_all x ns h)
