-- The known constructors, one by one, and the tables of the results of their bodies.
use Rattle.std.proofs.Common.{◌≡◌, ℕ, zero, suc, ◌+◌, ◌<◌, ◌≤◌, true, List, [], ◌∷◌, ◌++◌, length, map, filter, slice_get, take, All, Option, Some, None, refl, sym, ap, ◌∙◌, subst, arith}
use Rattle.std.specs.Option.{option_map}
use Rattle.std.specs.List.{range_with_len}
use Rattle.std.proofs.lemmas.Bool.{leb-true}
use Rattle.std.proofs.lemmas.List.{append_assoc, append-nil, map-append, length-map}
use Rattle.std.proofs.lemmas.List.Elements.{All-nil, All-weaker}
use Rattle.std.proofs.lemmas.Option.{slice_get-map}
use Rattle.std.proofs.Math.Seq.{take-length}
use Rattle.token_bits.specs.declared.tokens.Tokens.{Tokens}
use Rattle.sled_model.specs.declared.constructor.Constructor.{Constructor}
use Rattle.sled_model.specs.declared.raw.Match.{Match}
use Rattle.sled_model.specs.Results.{Meaning, Known, Context, results, results_from, known_from}
use Rattle.sled_model.specs.PatternContexts.{row_of, table_of}
use Rattle.sled_model.proofs.Filters.{filter-passes}
use Rattle.sled_model.proofs.Local.{ends_within, IsLocal, AreLocal, known-local, results-local}

-- a constructor that is declared after others
abbrev pub known_after : Tokens → List Known → Constructor → Known
known_after tokens known c = record { constructor = c; body = results (record { tokens = tokens; operands = c.operands; known = known }) c.body }

pub known_push : (tokens : Tokens) (known : List Known) (cs : List Constructor) (c : Constructor)
    → known_from tokens known (cs ++ c ∷ []) ≡ known_from tokens known cs ++ known_after tokens (known_from tokens known cs) c ∷ []
known_push tokens known [] c = refl
known_push tokens known (d ∷ cs) c = known_push tokens (known ++ known_after tokens known d ∷ []) cs c

-- the known constructors are those that were declared
pub known_constructors : (tokens : Tokens) (known : List Known) (cs : List Constructor) → map (λ (k : Known). k.constructor) (known_from tokens known cs) ≡ map (λ (k : Known). k.constructor) known ++ cs
known_constructors tokens known [] = sym (append-nil (map (λ (k : Known). k.constructor) known))
known_constructors tokens known (c ∷ cs) =
    let of = λ (k : Known). k.constructor in
    known_constructors tokens (known ++ known_after tokens known c ∷ []) cs
    ∙ ap (λ ks. ks ++ cs) (map-append of known (known_after tokens known c ∷ []))
    ∙ append_assoc (map of known) (c ∷ []) cs

pub known_at : (tokens : Tokens) (cs : List Constructor) (k : ℕ) → option_map (λ (k : Known). k.constructor) (slice_get (known_from tokens [] cs) k) ≡ slice_get cs k
known_at tokens cs k = sym (slice_get-map (λ (k : Known). k.constructor) (known_from tokens [] cs) k) ∙ ap (λ xs. slice_get xs k) (known_constructors tokens [] cs)

-- one row more
pub table_push : (bytes : List ℕ) (tokens : Tokens) (cs : List Constructor) (c : Constructor)
    → table_of bytes (known_from tokens [] (cs ++ c ∷ [])) ≡ table_of bytes (known_from tokens [] cs) ++ row_of bytes (known_after tokens (known_from tokens [] cs) c).body ∷ []
table_push bytes tokens cs c =
    ap (table_of bytes) (known_push tokens [] cs c) ∙ map-append (λ (k : Known). row_of bytes k.body) (known_from tokens [] cs) (known_after tokens (known_from tokens [] cs) c ∷ [])

-- what is a matter of the bytes up to its end ends within the bytes
pub meaning_within : (meaning : Meaning) → IsLocal meaning → (bytes : List ℕ) (i : ℕ) → i ≤ length bytes → All (λ (a : Match). i + a.len ≤ length bytes) (meaning bytes i)
meaning_within meaning local bytes i h =
    let n = length bytes in
    let same : meaning bytes i ≡ filter (ends_within i n) (meaning bytes i) = ap (λ bs. meaning bs i) (sym (take-length bytes)) ∙ local bytes i n h in
    All-weaker (λ a. ends_within i n a ≡ true) (λ (a : Match). i + a.len ≤ n) (λ a e. leb-true (i + a.len) n e) (meaning bytes i)
    (subst (All (λ a. ends_within i n a ≡ true)) (sym same) (filter-passes (ends_within i n) (meaning bytes i)))

pub are_local : (tokens : Tokens) (cs : List Constructor) → AreLocal (known_from tokens [] cs)
are_local tokens cs = known-local tokens [] cs (All-nil (λ (d : Known). IsLocal d.body))

pub slice_get-range : {A : Type 0} (f : ℕ → A) (start n i : ℕ) → i < n → slice_get (map f (range_with_len start n)) i ≡ Some (f (start + i))
slice_get-range f start zero i h = absurd (omega arith)
slice_get-range f start (suc n) zero h = let e : start ≡ start + 0 = omega arith in ap (λ j. Some (f j)) e
slice_get-range f start (suc n) (suc i) h = let e : (start + 1) + i ≡ start + suc i = omega arith in slice_get-range f (start + 1) n i (omega arith) ∙ ap (λ j. Some (f j)) e

-- the row of a constructor, and what stands in it
pub row_at : (bytes : List ℕ) (known : List Known) (k : ℕ) → slice_get (table_of bytes known) k ≡ option_map (λ (c : Known). row_of bytes c.body) (slice_get known k)
row_at bytes known k = slice_get-map (λ (c : Known). row_of bytes c.body) known k

pub cell_at : (bytes : List ℕ) (m : Meaning) (at : ℕ) → at ≤ length bytes → slice_get (row_of bytes m) at ≡ Some (m bytes at)
cell_at bytes m at h = let e : 0 + at ≡ at = omega arith in slice_get-range (m bytes) 0 (length bytes + 1) at (omega arith) ∙ ap (λ j. Some (m bytes j)) e

-- what is found in the table, for the constructor that is known or not
module _ (bytes : List ℕ) (at : ℕ) (within : at ≤ length bytes) where
  pub no_row : (c : Option Known) → option_map (λ (k : Known). row_of bytes k.body) c ≡ None → [] ≡ results_from c (λ k. k.body bytes at)
  no_row None e = refl
  no_row (Some k) e = cc

  pub cell_found : (c : Option Known) (row : List (List Match)) (found : List Match) → option_map (λ (k : Known). row_of bytes k.body) c ≡ Some row → slice_get row at ≡ Some found
      → found ≡ results_from c (λ k. k.body bytes at)
  cell_found None row found e f = cc
  cell_found (Some k) row found e f =
      let same : row_of bytes k.body ≡ row = cc in
      let both : Some (k.body bytes at) ≡ Some found = sym (cell_at bytes k.body at within) ∙ ap (λ r. slice_get r at) same ∙ f in
      cc

  pub no_cell : (c : Option Known) (row : List (List Match)) → option_map (λ (k : Known). row_of bytes k.body) c ≡ Some row → slice_get row at ≡ None → [] ≡ results_from c (λ k. k.body bytes at)
  no_cell None row e f = cc
  no_cell (Some k) row e f =
      let same : row_of bytes k.body ≡ row = cc in
      let both : Some (k.body bytes at) ≡ None = sym (cell_at bytes k.body at within) ∙ ap (λ r. slice_get r at) same ∙ f in
      cc
