-- How many patterns a tree stands for: as many as there are choices of a number in each of its relations.
use Rattle.std.proofs.Common.{◌≡◌, ℕ, zero, suc, ◌+◌, ◌*◌, ◌<◌, ◌≤◌, min, ◌⊎◌, inl, inr, nat_lt, Bool, true, false, List, [], ◌∷◌, ◌++◌, map, length, get_or, take, length-append, refl, sym, ap, ◌∙◌, arith}
use Rattle.std.specs.List.{flat_map, fold}
use Rattle.std.proofs.Math.Nat.{mul_assoc, le-mul_of_pos_right}
use Rattle.std.proofs.lemmas.Bool.Decides.{nat_tests}
use Rattle.std.proofs.lemmas.List.{length-map, map-append}
use Rattle.sled_parser.specs.declared.tree.PatternTree.{PatternTree, Row_of-PatternTree, end_of-PatternTree, more_of-PatternTree}
use Rattle.sled_parser.specs.declared.tree.PatternTree.TheVariants.{Either', Chain', Both', Labelled', Loose', Group', Empty, Word, Limit, Apply}
use Rattle.sled_model.specs.declared.pattern.Pattern.TheVariants as pattern
use Rattle.sled_model.specs.Measures.{product}
use Rattle.tree_meaning.specs.Parts.{parts, row_parts}
use Rattle.tree_meaning.specs.Scopes.{Declared}
use Rattle.tree_meaning.specs.Values.{value_numbers}
use Rattle.tree_meaning.specs.Patterns.{patterns_of, row_patterns, choices, boxed, relation_of, field_or_first, label_number, part_choices, choices_among, choice_count}
use Rattle.sled_model.proofs.Lists.{fold_take}
use Rattle.tree_meaning.proofs.ChoiceLemmas.{map-map}

fold_times : (a : ℕ) (ns : List ℕ) → fold (λ m n. m * n) a ns ≡ a * product ns
fold_times a [] = omega arith
fold_times a (n ∷ ns) =
    let one : a * (1 * n * product ns) ≡ a * (n * product ns) = ap (λ k. a * (k * product ns)) (omega arith) in
    fold_times (a * n) ns ∙ mul_assoc a n (product ns) ∙ sym one ∙ ap (λ k. a * k) (sym (fold_times (1 * n) ns))

pub product-cons : (n : ℕ) (ns : List ℕ) → product (n ∷ ns) ≡ n * product ns
product-cons n ns = let same : 1 * n ≡ n = omega arith in fold_times (1 * n) ns ∙ ap (λ k. k * product ns) same

pub product-append : (ms ns : List ℕ) → product (ms ++ ns) ≡ product ms * product ns
product-append [] ns = omega arith
product-append (m ∷ ms) ns =
    product-cons m (ms ++ ns) ∙ ap (λ k. m * k) (product-append ms ns) ∙ sym (mul_assoc m (product ms) (product ns))
    ∙ ap (λ k. k * product ns) (sym (product-cons m ms))

module _ {A : Type 0} where
  length-chosen : (xs : List A) (rest : List (List A)) → length (flat_map (λ x. map (λ chosen. x ∷ chosen) rest) xs) ≡ length xs * length rest
  length-chosen [] rest = omega arith
  length-chosen (x ∷ xs) rest =
      let here = length-append (map (λ chosen. x ∷ chosen) rest) (flat_map (λ y. map (λ chosen. y ∷ chosen) rest) xs) in
      let one = length-map rest (λ chosen. x ∷ chosen) in
      let later = length-chosen xs rest in
      grind (arith, here, one, later)

  pub length-choices : (xss : List (List A)) → length (choices xss) ≡ product (map length xss)
  length-choices [] = refl
  length-choices (xs ∷ xss) = length-chosen xs (choices xss) ∙ ap (λ n. length xs * n) (length-choices xss) ∙ sym (product-cons (length xs) (map length xss))

module _ (declared : Declared) (names : List (List ℕ)) where
  boxed_one : (t : Row_of-PatternTree 1) → length (boxed (row_patterns declared names t)) ≡ product (map length (row_patterns declared names t))
  boxed_one (more_of-PatternTree u end_of-PatternTree) = omega arith

  mutual
    -- there are as many patterns as choices
    pub length-patterns_of : (t : PatternTree) → length (patterns_of declared names t) ≡ choice_count t
    length-patterns_of (Either' s ts) = length-map (choices (row_patterns declared names ts)) pattern.Either ∙ length-choices (row_patterns declared names ts) ∙ lengths ts
    length-patterns_of (Chain' s ts) = length-map (choices (row_patterns declared names ts)) pattern.Chain ∙ length-choices (row_patterns declared names ts) ∙ lengths ts
    length-patterns_of (Both' s ts) = length-map (choices (row_patterns declared names ts)) pattern.Both ∙ length-choices (row_patterns declared names ts) ∙ lengths ts
    length-patterns_of (Labelled' l s t) = length-map (boxed (row_patterns declared names t)) (pattern.Label (label_number names l)) ∙ boxed_one t ∙ lengths t
    length-patterns_of (Loose' s t) = length-map (boxed (row_patterns declared names t)) pattern.Loose ∙ boxed_one t ∙ lengths t
    length-patterns_of (Group' s t) = boxed_one t ∙ lengths t
    length-patterns_of Empty = refl
    length-patterns_of (Word w) = refl
    length-patterns_of (Limit f r v) = length-map (value_numbers v) (λ n. pattern.Limit (field_or_first declared f) (relation_of r) n) ∙ omega arith
    length-patterns_of (Apply k arguments) = refl

    lengths : {n : _} (ts : Row_of-PatternTree n) → product (map length (row_patterns declared names ts)) ≡ product (map part_choices (row_parts ts))
    lengths end_of-PatternTree = refl
    lengths (more_of-PatternTree t ts) =
        product-cons (length (patterns_of declared names t)) (map length (row_patterns declared names ts))
        ∙ ap (λ n. n * product (map length (row_patterns declared names ts))) (length-patterns_of t)
        ∙ ap (λ n. choice_count t * n) (lengths ts)
        ∙ sym (product-append (map part_choices (parts t)) (map part_choices (row_parts ts)))
        ∙ ap product (sym (map-append part_choices (parts t) (row_parts ts)))

-- ---- counts that stop at a limit

capped_cases : (p n k : ℕ) → (p ≤ k) ⊎ (k < p) → min (min p k * n) k ≡ min (p * n) k
capped_cases p n k (inl small) = let same : min p k ≡ p = omega arith in ap (λ m. min (m * n) k) same
capped_cases p zero k (inr large) = let none : min p k * 0 ≡ p * 0 = omega arith in ap (λ m. min m k) none
capped_cases p (suc n) k (inr large) =
    let most : min p k ≡ k = omega arith in
    let above : k ≤ k * suc n = le-mul k n in
    let more : p ≤ p * suc n = le-mul p n in
    ap (λ m. min (m * suc n) k) most ∙ omega arith where
      le-mul : (a b : ℕ) → a ≤ a * suc b
      le-mul a b = le-mul_of_pos_right a (omega arith)

-- a product that stopped at the limit stays there, unless a factor is 0
pub capped_times : (p n k : ℕ) → min (min p k * n) k ≡ min (p * n) k
capped_times p n k = by_test (nat_lt k p) refl where
  by_test : (t : Bool) → nat_lt k p ≡ t → min (min p k * n) k ≡ min (p * n) k
  by_test true e = let large : k < p = grind (arith, nat_tests) in capped_cases p n k (inr large)
  by_test false e = let small : p ≤ k = grind (arith, nat_tests) in capped_cases p n k (inl small)

-- one part more
pub choices_more : {A : Type 0} (now : A → PatternTree) (ts : List A) (i : ℕ) (t : A) → i < length ts → t ≡ get_or ts i t
    → choices_among (map now (take (i + 1) ts)) ≡ choices_among (map now (take i ts)) * part_choices (now t)
choices_more now ts i t h is =
    ap product (map-map part_choices now (take (i + 1) ts))
    ∙ fold_take (λ m n. m * n) (λ u. part_choices (now u)) 1 ts i t h is
    ∙ ap (λ ns. product ns * part_choices (now t)) (sym (map-map part_choices now (take i ts)))
