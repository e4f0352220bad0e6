-- Scopes whose last local name stands for one pattern after another.
use Rattle.std.proofs.Common.{◌≡◌, ℕ, zero, suc, ◌+◌, ◌<◌, ◌≤◌, List, [], ◌∷◌, ◌++◌, length, map, take, get_or, slice_set, refl, sym, ap, ◌∙◌, add-one, arith}
use Rattle.std.specs.Prelude.{Some}
use Rattle.std.proofs.lemmas.List.{length_push, length-take-le, map-append}
use Rattle.sled_parser.specs.declared.tree.PatternTree.{PatternTree}
use Rattle.sled_model.specs.declared.pattern.Pattern.{Pattern}
use Rattle.tree_meaning.specs.declared.scope.Meaning.{Meaning}
use Rattle.tree_meaning.specs.declared.scope.Meaning.TheVariants as meaning
use Rattle.tree_meaning.specs.Scopes.{Declared}
use Rattle.tree_meaning.specs.Patterns.{patterns_of}
use Rattle.tree_meaning.proofs.ListLemmas.{take-here}
use Rattle.constructor_scopes.specs.declared.members.Member.{Member}
use Rattle.constructor_scopes.specs.Bodies.{with_last, with_member, first_of, bodies_of, body_of}
use Rattle.constructor_scopes.specs.Views.{made_for}

-- the last of a list, set
pub set_last : {A : Type 0} (xs : List A) (n : ℕ) (x : A) → length xs ≡ n + 1 → slice_set xs n x ≡ take n xs ++ x ∷ []
set_last [] n x h = absurd (omega arith)
set_last (y ∷ []) zero x h = refl
set_last (y ∷ z ∷ xs) zero x h = absurd (omega arith)
set_last (y ∷ xs) (suc n) x h = ap (λ rest. y ∷ rest) (set_last xs n x (omega arith))

front_again : {A : Type 0} (n : ℕ) (xs ys : List A) → n ≤ length xs → take n (take n xs ++ ys) ≡ take n xs
front_again zero xs ys h = refl
front_again (suc n) [] ys h = absurd (omega arith)
front_again (suc n) (x ∷ xs) ys h = ap (λ rest. x ∷ rest) (front_again n xs ys (omega arith))

module _ (d : Declared) (at : ℕ) (h : length d.local_meanings ≡ at + 1) where
  -- what the last name stood for before makes no difference
  pub again : (q p : Pattern) → with_last (with_last d at q) at p ≡ with_last d at p
  again q p =
      ap (λ (ms : List Meaning). record d { local_meanings = ms ++ meaning.Pattern p ∷ [] })
      (front_again at d.local_meanings (meaning.Pattern q ∷ []) (omega arith))

  -- there are as many names as before
  pub as_many : (q : Pattern) → length (with_last d at q).local_meanings ≡ at + 1
  as_many q = length_push (take at d.local_meanings) (meaning.Pattern q) ∙ ap (λ n. n + 1) (length-take-le at d.local_meanings (omega arith))

  -- the last name, set
  pub set_is : (q : Pattern) → record d { local_meanings = slice_set d.local_meanings at (meaning.Pattern q) } ≡ with_last d at q
  set_is q = ap (λ (ms : List Meaning). record d { local_meanings = ms }) (set_last d.local_meanings at (meaning.Pattern q) h)

-- one more of a list, mapped
pub mapped_more : {A B : Type 0} (f : A → B) (xs : List A) (i : ℕ) (x : A) → i < length xs → x ≡ get_or xs i x → map f (take (i + 1) xs) ≡ map f (take i xs) ++ f x ∷ []
mapped_more f xs i x h is = ap (map f) (take-here xs i x h is) ∙ map-append f (take i xs) (x ∷ [])

front_of : {A : Type 0} (n : ℕ) (xs ys : List A) → n ≡ length xs → take n (xs ++ ys) ≡ xs
front_of zero [] ys h = refl
front_of (suc n) [] ys h = absurd (omega arith)
front_of zero (x ∷ xs) ys h = absurd (omega arith)
front_of (suc n) (x ∷ xs) ys h = ap (λ rest. x ∷ rest) (front_of n xs ys (omega arith))

module _ (d : Declared) (at : ℕ) (h : at ≡ length d.local_meanings) (opcode : List ℕ) (m : Meaning) where
  -- the scope with one local name more, which stands for something
  abbrev pub entered : Declared
  entered = record d { local_names = d.local_names ++ opcode ∷ []; local_meanings = d.local_meanings ++ m ∷ [] }

  member_is : (p : Pattern) → with_last entered at p ≡ with_member d opcode (Some p)
  member_is p =
      ap (λ (ms : List Meaning). record d { local_names = d.local_names ++ opcode ∷ []; local_meanings = ms ++ meaning.Pattern p ∷ [] })
      (front_of at d.local_meanings (m ∷ []) h)

  -- the bodies, where the last name stands for each member in turn
  pub bodies_are : (labels : List (List ℕ)) (body : PatternTree) (ms : List Member)
      → map (λ (x : Member). first_of (patterns_of (with_last entered at x.pattern) labels body)) ms ≡ bodies_of d opcode labels body (map made_for ms)
  bodies_are labels body [] = refl
  bodies_are labels body (x ∷ ms) =
      ap (λ (s : Declared). first_of (patterns_of s labels body) ∷ map (λ (y : Member). first_of (patterns_of (with_last entered at y.pattern) labels body)) ms) (member_is x.pattern)
      ∙ ap (λ ps. body_of d opcode labels body (made_for x) ∷ ps) (bodies_are labels body ms)
