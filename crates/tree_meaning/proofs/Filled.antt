-- No list in the patterns of a tree is empty, where the tree stands as the grammar has it.
use Rattle.std.proofs.Common.{◌≡◌, ℕ, ◌<◌, true, List, [], ◌∷◌, Some, None, length, map, nat_lt, refl, ap, sym, subst, ◌∙◌, arith}
use Rattle.std.specs.Prelude.{Option, All, ◌&&◌, nat_le}
use Rattle.std.specs.List.{list_all}
use Rattle.std.specs.Option.{option_map_or}
use Rattle.std.proofs.lemmas.List.{length-map}
use Rattle.std.proofs.lemmas.List.Elements.{All-nil, All-cons, All-head, All-tail, All-map, All-weaker}
use Rattle.sled_parser.specs.declared.tree.PatternTree.{PatternTree, roll-PatternTree, map-PatternTree, ind-PatternTree}
use Rattle.sled_parser.specs.declared.tree.PatternTree.TheOpen.{PatternTree-F}
use Rattle.sled_parser.specs.declared.tree.PatternTree.TheOpen as one
use Rattle.sled_parser.specs.declared.tree.PatternTree.TheVariants as tree
use Rattle.sled_parser.specs.Trees.{is_name, grade, members, IsLayered}
use Rattle.sled_parser.proofs.TreeLaws.{grade_Either, grade_Chain, grade_Both, grade_Labelled, grade_Loose, grade_Group}
use Rattle.sled_model.specs.declared.pattern.Pattern.{Pattern}
use Rattle.sled_model.specs.declared.pattern.Pattern.TheVariants as pattern
use Rattle.sled_model.specs.Leaves.{HasFilledLists}
use Rattle.sled_model.proofs.ShapeLengths.{filled-Both, filled-Either, filled-Chain, filled-Loose, filled-Label}
use Rattle.tree_meaning.specs.declared.scope.Meaning.{Meaning}
use Rattle.tree_meaning.specs.declared.scope.Meaning.TheVariants as meaning
use Rattle.tree_meaning.specs.Scopes.{Declared, meaning_of}
use Rattle.tree_meaning.specs.Values.{value_numbers}
use Rattle.tree_meaning.specs.Patterns.{patterns_of, choices, label_number, meaning_pattern, word_pattern, field_or_first, relation_of}
use Rattle.tree_meaning.specs.Sound.{IsFilledMeaning}
use Rattle.tree_meaning.proofs.TreeLaws.{patterns_of-Either, patterns_of-Chain, patterns_of-Both, patterns_of-Labelled, patterns_of-Loose, patterns_of-Group}
use Rattle.tree_meaning.proofs.Soundness.{All-flat_map, All-choices, and_split, found_all}

-- an element, and P of each
abbrev SomeAll : {A : Type 0} → (A → Type 0) → List A → Type 0
SomeAll P xs = (0 < length xs) × All P xs

-- a choice from some lists has an element
choices_filled : {A : Type 0} (P : A → Type 0) (xss : List (List A)) → 0 < length xss → All (All P) xss → All (SomeAll P) (choices xss)
choices_filled P [] some h = absurd (omega arith)
choices_filled P (xs ∷ xss) some h =
    let later = All-choices P xss (All-tail (All P) xs xss h) in
    All-flat_map (SomeAll P) (λ x. map (λ chosen. x ∷ chosen) (choices xss)) xs
    (All-weaker P (λ x. All (SomeAll P) (map (λ chosen. x ∷ chosen) (choices xss)))
    (λ x p. All-map (SomeAll P) (λ chosen. x ∷ chosen) (choices xss) (All-weaker (All P) (λ chosen. SomeAll P (x ∷ chosen)) (λ chosen q. (omega arith, All-cons P x chosen p q)) (choices xss) later))
    xs (All-head (All P) xs xss h))

meaning_filled : (m : Meaning) → IsFilledMeaning m → HasFilledLists (meaning_pattern m)
meaning_filled (meaning.Class c) h = tt
meaning_filled (meaning.Field f) h = tt
meaning_filled (meaning.Pattern p) h = h
meaning_filled (meaning.Group ps) h = filled-Either ps h.0 h.1
meaning_filled (meaning.Type t) h = tt
meaning_filled (meaning.Operand k) h = tt

option_filled : (o : Option Meaning) → ((m : Meaning) → o ≡ Some m → IsFilledMeaning m) → HasFilledLists (option_map_or meaning_pattern o pattern.Empty)
option_filled None h = tt
option_filled (Some m) h = meaning_filled m (h m refl)

limits_filled : (f : ℕ → Pattern) → ((n : ℕ) → HasFilledLists (f n)) → (ns : List ℕ) → All HasFilledLists (map f ns)
limits_filled f each [] = All-nil HasFilledLists
limits_filled f each (n ∷ ns) = All-cons HasFilledLists (f n) (map f ns) (each n) (limits_filled f each ns)

module _ (declared : Declared) (filled : All IsFilledMeaning declared.meanings) (local : All IsFilledMeaning declared.local_meanings) (names : List (List ℕ)) where
  abbrev of : PatternTree → List Pattern
  of = patterns_of declared names

  abbrev IsFilled : PatternTree → Type 0
  IsFilled t = IsLayered t → All HasFilledLists (of t)

  abbrev FilledTree : Type 0
  FilledTree = (t : PatternTree) × IsFilled t

  abbrev trees : List FilledTree → List PatternTree
  trees es = map (λ e. e.0) es

  each_filled : (below : ℕ) (es : List FilledTree) → list_all (λ g. nat_le g.0 below && g.1) (map grade (trees es)) ≡ true → All (All HasFilledLists) (map of (trees es))
  each_filled below [] h = All-nil (All HasFilledLists)
  each_filled below (e ∷ es) h =
      let both = and_split (nat_le (grade e.0).0 below && (grade e.0).1) (list_all (λ g. nat_le g.0 below && g.1) (map grade (trees es))) h in
      All-cons (All HasFilledLists) (of e.0) (map of (trees es)) (e.1 (and_split (nat_le (grade e.0).0 below) (grade e.0).1 both.0).1) (each_filled below es both.1)

  some_mapped : {A B : Type 0} (f : A → B) (xs : List A) → nat_lt 1 (length xs) ≡ true → 0 < length (map f xs)
  some_mapped f [] h = cc
  some_mapped f (x ∷ xs) h = omega arith

  chosen_filled : (below : ℕ) (es : List FilledTree) → members below (map grade (trees es)) ≡ true
      → All (SomeAll HasFilledLists) (choices (map of (trees es)))
  chosen_filled below es h =
      let both = and_split (nat_lt 1 (length (map grade (trees es)))) (list_all (λ g. nat_le g.0 below && g.1) (map grade (trees es))) h in
      let more : nat_lt 1 (length (trees es)) ≡ true = ap (nat_lt 1) (sym (length-map (trees es) grade)) ∙ both.0 in
      choices_filled HasFilledLists (map of (trees es)) (some_mapped of (trees es) more) (each_filled below es both.1)

  made_filled : (make : List Pattern → Pattern) → ((ps : List Pattern) → 0 < length ps → All HasFilledLists ps → HasFilledLists (make ps)) → (below : ℕ) (es : List FilledTree)
      → members below (map grade (trees es)) ≡ true → All HasFilledLists (map make (choices (map of (trees es))))
  made_filled make law below es h =
      let chosen = choices (map of (trees es)) in
      All-map HasFilledLists make chosen
      (All-weaker (SomeAll HasFilledLists) (λ ps. HasFilledLists (make ps)) (λ ps q. law ps q.0 q.1) chosen (chosen_filled below es h))

  either : (es : List FilledTree) → IsFilled (tree.Either (trees es))
  either es h = rw (patterns_of-Either declared names (trees es)) (made_filled pattern.Either filled-Either 4 es (sym (ap (λ g. g.1) (grade_Either (trees es))) ∙ h))

  chain : (es : List FilledTree) → IsFilled (tree.Chain (trees es))
  chain es h = rw (patterns_of-Chain declared names (trees es)) (made_filled pattern.Chain filled-Chain 3 es (sym (ap (λ g. g.1) (grade_Chain (trees es))) ∙ h))

  both : (es : List FilledTree) → IsFilled (tree.Both (trees es))
  both es h = rw (patterns_of-Both declared names (trees es)) (made_filled pattern.Both filled-Both 2 es (sym (ap (λ g. g.1) (grade_Both (trees es))) ∙ h))

  labelled : (l : List ℕ) (e : FilledTree) → IsFilled (tree.Labelled l e.0)
  labelled l e h =
      let named = and_split (is_name l) (nat_le (grade e.0).0 1 && (grade e.0).1) (sym (ap (λ g. g.1) (grade_Labelled l e.0)) ∙ h) in
      let inner = and_split (nat_le (grade e.0).0 1) (grade e.0).1 named.1 in
      rw (patterns_of-Labelled declared names l e.0)
      (All-map HasFilledLists (pattern.Label (label_number names l)) (of e.0)
      (All-weaker HasFilledLists (λ p. HasFilledLists (pattern.Label (label_number names l) p)) (λ p q. filled-Label p q (label_number names l)) (of e.0) (e.1 inner.1)))

  loose : (e : FilledTree) → IsFilled (tree.Loose e.0)
  loose e h =
      let inner = and_split (nat_le (grade e.0).0 0) (grade e.0).1 (sym (ap (λ g. g.1) (grade_Loose e.0)) ∙ h) in
      rw (patterns_of-Loose declared names e.0)
      (All-map HasFilledLists pattern.Loose (of e.0) (All-weaker HasFilledLists (λ p. HasFilledLists (pattern.Loose p)) filled-Loose (of e.0) (e.1 inner.1)))

  group : (e : FilledTree) → IsFilled (tree.Group e.0)
  group e h = rw (patterns_of-Group declared names e.0) (e.1 (sym (ap (λ g. g.1) (grade_Group e.0)) ∙ h))

  alone : (p : Pattern) → HasFilledLists p → All HasFilledLists (p ∷ [])
  alone p h = All-cons HasFilledLists p [] h (All-nil HasFilledLists)

  layer : (y : PatternTree-F FilledTree) → IsFilled (roll-PatternTree (map-PatternTree FilledTree PatternTree (λ e. e.0) y))
  layer (one.Either es) = subst IsFilled (sym (tree.rolls-Either (trees es))) (either es)
  layer (one.Chain es) = subst IsFilled (sym (tree.rolls-Chain (trees es))) (chain es)
  layer (one.Both es) = subst IsFilled (sym (tree.rolls-Both (trees es))) (both es)
  layer (one.Labelled l e) = subst IsFilled (sym (tree.rolls-Labelled l e.0)) (labelled l e)
  layer (one.Loose e) = subst IsFilled (sym (tree.rolls-Loose e.0)) (loose e)
  layer (one.Group e) = subst IsFilled (sym (tree.rolls-Group e.0)) (group e)
  layer one.Empty = subst IsFilled (sym tree.rolls-Empty) (λ h. alone pattern.Empty tt)
  layer (one.Word w) = subst IsFilled (sym (tree.rolls-Word w)) (λ h. alone (word_pattern declared w) (option_filled (meaning_of declared w) (found_all IsFilledMeaning declared filled local w)))
  layer (one.Limit f r v) = subst IsFilled (sym (tree.rolls-Limit f r v)) (λ h. limits_filled (pattern.Limit (field_or_first declared f) (relation_of r)) (λ n. tt) (value_numbers v))
  layer (one.Apply k arguments) = subst IsFilled (sym (tree.rolls-Apply k arguments)) (λ h. alone pattern.Empty tt)

  -- where no meaning has an empty list, no pattern of a tree has one
  pub patterns_filled : (t : PatternTree) → IsLayered t → All HasFilledLists (patterns_of declared names t)
  patterns_filled = ind-PatternTree IsFilled (λ x y is. subst (λ z. IsFilled (roll-PatternTree z)) is (layer y))
