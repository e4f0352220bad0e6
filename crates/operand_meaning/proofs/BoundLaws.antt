-- How large numbers with signs and their sums are.
use Rattle.std.proofs.Common.{◌≡◌, ◌≢◌, ℕ, suc, ◌+◌, ◌*◌, ◌^◌, ◌<◌, ◌≤◌, Bool, true, false, List, [], ◌∷◌, map, length, get_or, take, All, ap, arith, ℤ, pos, ◌+ℤ◌, fold}
use Rattle.std.specs.List.{list_all}
use Rattle.std.proofs.lemmas.Bool.Decides.{nat_tests}
use Rattle.std.proofs.lemmas.Int.{ints}
use Rattle.std.proofs.lemmas.List.{length-map}
use Rattle.std.proofs.lemmas.List.Elements.{All-nil, All-cons, All-head, All-tail}
use Rattle.sled_lexer.specs.Spelled.{number_value}
use Rattle.sled_model.specs.Linear.{IsWithin}
use Rattle.sled_model.proofs.Lists.{fold_take}
use Rattle.sled_parser.specs.declared.tree.TermTree.{TermTree}
use Rattle.sled_parser.specs.declared.tree.TermTree.TheVariants.{Number, Place}
use Rattle.tree_meaning.specs.Values.{is_in_range}
use Rattle.operand_meaning.specs.Equations.{signed, is_negative, rest_of, sum_of}
use Rattle.operand_meaning.specs.Terms.{is_term_in_range}
use Rattle.operand_meaning.proofs.ListFacts.{both_of}

pub signed_within : (negative : Bool) (k n : ℕ) → k ≤ n → IsWithin n (signed negative k)
signed_within true k n h = record { low = omega (arith, ints); high = omega (arith, ints) }
signed_within false k n h = record { low = omega (arith, ints); high = omega (arith, ints) }

pub signed_nonzero : (negative : Bool) (k : ℕ) → 1 ≤ k → signed negative k ≢ pos 0
signed_nonzero true k h = λ e. omega (arith, ints, e)
signed_nonzero false k h = λ e. omega (arith, ints, e)

pub plus_within : (m n : ℕ) (x y : ℤ) → IsWithin m x → IsWithin n y → IsWithin (m + n) (x +ℤ y)
plus_within m n x y h k = record { low = omega (arith, ints); high = omega (arith, ints) }

pub wider : (m n : ℕ) (x : ℤ) → m ≤ n → IsWithin m x → IsWithin n x
wider m n x le h = record { low = omega (arith, ints); high = omega (arith, ints) }

-- a sum of numbers that are no larger than m
pub sum_within : (m n : ℕ) (x : ℤ) (xs : List ℤ) → IsWithin n x → All (IsWithin m) xs → IsWithin (n + length xs * m) (fold ◌+ℤ◌ x xs)
sum_within m n x [] h all = wider n (n + 0 * m) x (omega arith) h
sum_within m n x (y ∷ ys) h all =
    let one = plus_within m n y x (All-head (IsWithin m) y ys all) h in
    let more : n + m + length ys * m ≡ n + suc (length ys) * m = omega arith in
    let here : IsWithin (n + m) (x +ℤ y) = plus_within n m x y h (All-head (IsWithin m) y ys all) in
    wider (n + m + length ys * m) (n + suc (length ys) * m) (fold ◌+ℤ◌ (x +ℤ y) ys) (omega (arith, more)) (sum_within m (n + m) (x +ℤ y) ys here (All-tail (IsWithin m) y ys all))

in_range : (number : List ℕ) → is_in_range number ≡ true → number_value number ≤ 2 ^ 32
in_range number h = grind (arith, nat_tests)

-- what a term adds is a Number with a sign, or nothing
pub rest_within : (turned : Bool) (t : TermTree) → is_term_in_range t ≡ true → IsWithin (2 ^ 32) (rest_of turned t)
rest_within turned (Number minus n) h = signed_within (is_negative turned minus) (number_value n) (2 ^ 32) (in_range n h)
rest_within turned (Place minus c p) h = record { low = omega (arith, ints); high = omega (arith, ints) }

rests_within : (turned : Bool) (ts : List TermTree) → list_all is_term_in_range ts ≡ true → All (IsWithin (2 ^ 32)) (map (rest_of turned) ts)
rests_within turned [] h = All-nil (IsWithin (2 ^ 32))
rests_within turned (t ∷ ts) h =
    let parts = both_of (is_term_in_range t) (list_all is_term_in_range ts) h in
    All-cons (IsWithin (2 ^ 32)) (rest_of turned t) (map (rest_of turned) ts) (rest_within turned t parts.0) (rests_within turned ts parts.1)

pub sums_within : (turned : Bool) (ts : List TermTree) → list_all is_term_in_range ts ≡ true → IsWithin (length ts * 2 ^ 32) (sum_of turned ts)
sums_within turned ts h =
    let none : IsWithin 0 (pos 0) = record { low = omega (arith, ints); high = omega (arith, ints) } in
    let count = length-map ts (rest_of turned) in
    wider (0 + length (map (rest_of turned) ts) * 2 ^ 32) (length ts * 2 ^ 32) (sum_of turned ts) (omega (arith, ap (λ n. n * 2 ^ 32) count))
    (sum_within (2 ^ 32) 0 (pos 0) (map (rest_of turned) ts) none (rests_within turned ts h))

-- one number more
pub sum_more : (turned : Bool) (ts : List TermTree) (i : ℕ) (t : TermTree) → i < length ts → t ≡ get_or ts i t
    → sum_of turned (take (i + 1) ts) ≡ sum_of turned (take i ts) +ℤ rest_of turned t
sum_more turned ts i t lt is = fold_take ◌+ℤ◌ (rest_of turned) (pos 0) ts i t lt is
