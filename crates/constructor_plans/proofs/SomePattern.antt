-- Where nothing is generated, a tree makes one pattern.
use Rattle.std.proofs.Common.{◌≡◌, ℕ, ◌*◌, ◌<◌, true, List, [], ◌∷◌, length, map, All, refl, ap, ◌∙◌, arith}
use Rattle.std.specs.List.{list_all}
use Rattle.std.proofs.lemmas.List.Elements.{All-head}
use Rattle.sled_parser.specs.declared.tree.PatternTree.{PatternTree}
use Rattle.sled_parser.specs.declared.tree.PatternTree.TheVariants.{Limit}
use Rattle.sled_parser.specs.declared.tree.ValueTree.{ValueTree}
use Rattle.sled_parser.specs.declared.tree.ValueTree.TheVariants.{One, Range, Listed}
use Rattle.sled_model.specs.declared.pattern.Pattern.{Pattern}
use Rattle.sled_model.specs.Measures.{product}
use Rattle.tree_meaning.specs.Scopes.{Declared}
use Rattle.tree_meaning.specs.Parts.{parts, has_one_number, generates_nothing}
use Rattle.tree_meaning.specs.Patterns.{patterns_of, part_choices}
use Rattle.tree_meaning.specs.Values.{value_numbers, is_one_number}
use Rattle.tree_meaning.proofs.CountLemmas.{product-cons, length-patterns_of}
use Rattle.operand_meaning.proofs.ListFacts.{both_of}
use Rattle.constructor_scopes.specs.Bodies.{first_of}

one_value : (v : ValueTree) → is_one_number v ≡ true → length (value_numbers v) ≡ 1
one_value (One n) one = refl
one_value (Range a b) one = cc
one_value (Listed ns) one = cc

one_choice : (t : PatternTree) → has_one_number t ≡ true → part_choices t ≡ 1
one_choice (Limit f r v) one = one_value v one
one_choice _ one = refl

one_product : (ts : List PatternTree) → list_all has_one_number ts ≡ true → product (map part_choices ts) ≡ 1
one_product [] one = refl
one_product (t ∷ ts) one =
    let both = both_of (has_one_number t) (list_all has_one_number ts) one in
    product-cons (part_choices t) (map part_choices ts) ∙ ap (λ n. n * product (map part_choices ts)) (one_choice t both.0) ∙ ap (λ n. 1 * n) (one_product ts both.1)

one_pattern : (d : Declared) (names : List (List ℕ)) (t : PatternTree) → generates_nothing t ≡ true → length (patterns_of d names t) ≡ 1
one_pattern d names t one = length-patterns_of d names t ∙ one_product (parts t) one

first_filled : (P : Pattern → Type 0) (ps : List Pattern) → 0 < length ps → All P ps → P (first_of ps)
first_filled P [] some h = absurd (omega arith)
first_filled P (p ∷ ps) some h = All-head P p ps h

-- what is true of each pattern is true of the first
pub first_is : (P : Pattern → Type 0) (d : Declared) (names : List (List ℕ)) (t : PatternTree) → generates_nothing t ≡ true → All P (patterns_of d names t) → P (first_of (patterns_of d names t))
first_is P d names t one h = let count = one_pattern d names t one in first_filled P (patterns_of d names t) (omega arith) h
