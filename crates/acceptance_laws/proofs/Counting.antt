-- Names that differ are no more than the words that they are among.
use Rattle.std.proofs.Common.{◌≡◌, ◌≢◌, ℕ, zero, suc, ◌+◌, ◌≤◌, Bool, true, false, cond, List, [], ◌∷◌, length, refl, sym, ap, ◌∙◌, arith}
use Rattle.std.specs.Prelude.{All, AllPairs, ◌||◌, bytes_eq}
use Rattle.std.proofs.lemmas.List.Elements.{All-nil, All-cons, All-head, All-tail}
use Rattle.std.proofs.lemmas.Slice.Eq.{bytes_eq-Decides}
use Rattle.tree_meaning.specs.Names.{is_among}

abbrev pub IsAmong : List (List ℕ) → List ℕ → Type 0
IsAmong words n = is_among words n ≡ true

abbrev Differ : List ℕ → List ℕ → Type 0
Differ one other = one ≢ other

-- the words without the first that is this one
abbrev without : List (List ℕ) → List ℕ → List (List ℕ)
without [] n = []
without (w ∷ ws) n = cond (bytes_eq n w) ws (w ∷ without ws n)

one_less : (ws : List (List ℕ)) (n : List ℕ) → IsAmong ws n → length ws ≡ length (without ws n) + 1
one_less [] n h = cc
one_less (w ∷ ws) n h = by_test (bytes_eq n w) (one_less ws n) h where
  by_test : (t : Bool) → (IsAmong ws n → length ws ≡ length (without ws n) + 1) → (t || is_among ws n) ≡ true → suc (length ws) ≡ length (cond t ws (w ∷ without ws n)) + 1
  by_test true later h = omega arith
  by_test false later h = let rest = later h in omega (arith, rest)

-- another word is still among them
still_among : (ws : List (List ℕ)) (n m : List ℕ) → n ≢ m → IsAmong ws m → IsAmong (without ws n) m
still_among [] n m differ h = cc
still_among (w ∷ ws) n m differ h = by_test (bytes_eq n w) (bytes_eq m w) refl refl (still_among ws n m differ) h where
  by_test : (s t : Bool) → bytes_eq n w ≡ s → bytes_eq m w ≡ t → (IsAmong ws m → IsAmong (without ws n) m) → (t || is_among ws m) ≡ true → is_among (cond s ws (w ∷ without ws n)) m ≡ true
  by_test true true a b later h = absurd (differ ((bytes_eq-Decides n w).0 a ∙ sym ((bytes_eq-Decides m w).0 b)))
  by_test true false a b later h = h
  by_test false true a b later h = ap (λ t. t || is_among (without ws n) m) b
  by_test false false a b later h = ap (λ t. t || is_among (without ws n) m) b ∙ later h

all_still : (ws : List (List ℕ)) (n : List ℕ) (ns : List (List ℕ)) → All (Differ n) ns → All (IsAmong ws) ns → All (IsAmong (without ws n)) ns
all_still ws n [] differ h = All-nil (IsAmong (without ws n))
all_still ws n (m ∷ ns) differ h =
    All-cons (IsAmong (without ws n)) m ns (still_among ws n m (All-head (Differ n) m ns differ) (All-head (IsAmong ws) m ns h))
    (all_still ws n ns (All-tail (Differ n) m ns differ) (All-tail (IsAmong ws) m ns h))

first_differs : (n : List ℕ) (ns : List (List ℕ)) → AllPairs Differ (n ∷ ns) → All (Differ n) ns
first_differs n ns h k d within = h zero (suc k) d (omega arith) (omega arith)

others_differ : (n : List ℕ) (ns : List (List ℕ)) → AllPairs Differ (n ∷ ns) → AllPairs Differ ns
others_differ n ns h i j d less within = h (suc i) (suc j) d (omega arith) (omega arith)

pub no_more : (ns ws : List (List ℕ)) → AllPairs Differ ns → All (IsAmong ws) ns → length ns ≤ length ws
no_more [] ws differ h = omega arith
no_more (n ∷ ns) ws differ h =
    let less = one_less ws n (All-head (IsAmong ws) n ns h) in
    let rest = no_more ns (without ws n) (others_differ n ns differ) (all_still ws n ns (first_differs n ns differ) (All-tail (IsAmong ws) n ns h)) in
    omega (arith, less, rest)
