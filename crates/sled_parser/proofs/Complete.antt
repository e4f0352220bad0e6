-- What a layered tree unparses to is read as that tree, whatever stands behind it that does not go on with it.
use Rattle.std.proofs.Common.{◌≡◌, ℕ, zero, suc, ◌<◌, ◌≤◌, Bool, true, false, List, [], ◌∷◌, ◌++◌, length, refl, ap, sym, ◌∙◌, subst, arith, append_assoc, append-nil, Ok, Some, None}
use Rattle.std.specs.Prelude.{◌&&◌, map, nat_le, nat_lt}
use Rattle.std.specs.List.{list_all}
use Rattle.std.proofs.lemmas.Bool.Decides.{nat_tests}
use Rattle.sled_parser.specs.declared.class.Class.{Class}
use Rattle.sled_parser.specs.declared.class.Class.TheVariants as class
use Rattle.sled_parser.specs.declared.pattern.Level.{Level}
use Rattle.sled_parser.specs.declared.pattern.Level.TheVariants as level
use Rattle.sled_parser.specs.declared.tree.PatternTree.{PatternTree}
use Rattle.sled_parser.specs.declared.tree.PatternTree.TheVariants as p
use Rattle.sled_parser.specs.declared.tree.ArgumentTree.{ArgumentTree}
use Rattle.sled_parser.specs.declared.tree.ArgumentTree.TheVariants as argument
use Rattle.sled_parser.specs.declared.tree.RelationTree.{RelationTree}
use Rattle.sled_parser.specs.declared.tree.RelationTree.TheVariants as relation
use Rattle.sled_parser.specs.declared.tree.ValueTree.{ValueTree}
use Rattle.sled_parser.specs.declared.tree.ValueTree.TheVariants as value
use Rattle.sled_parser.specs.Classes.{same_class}
use Rattle.sled_parser.specs.Pieces.{Piece, Input, Outcome, Parser, pass, sees, ahead, second, next, text_of, sees_label}
use Rattle.sled_parser.specs.Grammar.{chain_from, numbers_from, range_from, listed_from, braced, value_by, value_of, relation_of, arguments, inner, argument_by, argument_of, arguments_at, limited, unapplied, named, grouped, atom_by, atom, loose, labelled, post, separator, node, joined, level_of, member, at_level, pattern_at}
use Rattle.sled_parser.specs.Grammar as grammar
use Rattle.sled_parser.specs.Trees.{piece_for, word, number, is_name, followed, join, relation_piece, value_spelling, value_layered, argument_spelling, argument_layered, spelling, grade, members}
use Rattle.sled_parser.proofs.ClassLaws.{is_fixed, same_self, sees_for, ahead_for, class_for, sees_ahead, ahead_name, same_true}
use Rattle.sled_parser.proofs.TreeLaws.{spelling_roll, grade_roll, nesting_roll, argument_roll, layered_roll, argument_nesting_roll}
use Rattle.sled_parser.proofs.Sound.{and_both, both_true, fits, height, below, length_map, all_map}
use Rattle.sled_parser.specs.Trees.{deepest, nesting, argument_nesting}
use Rattle.sled_parser.specs.declared.tree.PatternTree.{roll-PatternTree, out-PatternTree, roll-out-PatternTree}
use Rattle.sled_parser.specs.declared.tree.PatternTree.TheOpen.{PatternTree-F}
use Rattle.sled_parser.specs.declared.tree.PatternTree.TheOpen as one
use Rattle.sled_parser.specs.declared.tree.ArgumentTree.{roll-ArgumentTree, out-ArgumentTree, roll-out-ArgumentTree}
use Rattle.sled_parser.specs.declared.tree.ArgumentTree.TheOpen.{ArgumentTree-F}
use Rattle.sled_parser.specs.declared.tree.ArgumentTree.TheOpen as arg
use Rattle.std.proofs.Common.{length-append}

-- ---- steps

-- two classes are not the same
abbrev pub Other : Class → Input → Type 0
Other k i = sees k i ≡ false

pub pass_for : (k : Class) → is_fixed k ≡ true → (i : Input) → pass k (piece_for k ∷ i) ≡ Ok (tt, i)
unfolding pass next
pass_for k f i = rw (sees_for k i f) refl

pub not_same : (a b : Class) (t : Bool) → same_class a b ≡ t → (a ≡ b → ⊥) → t ≡ false
not_same a b true e no_ = absurd (no_ (same_true a b e))
not_same a b false e no_ = refl

-- ---- chains

abbrev pub Each : {A : Type 0} → (A → Type 0) → List A → Type 0
Each P [] = Unit {0}
Each P (x ∷ xs) = P x × Each P xs

module _ {A : Type 0} (item : Parser A) (ok : A → Type 0) (s : A → List Piece) (k : Class) (f : is_fixed k ≡ true) (Stop : Input → Type 0)
    (stops : (i : Input) → Stop (piece_for k ∷ i)) (reads : (x : A) (r : Input) → ok x → Stop r → item (s x ++ r) ≡ Ok (x, r)) where
  chain_one : (n : ℕ) (found : List A) (x : A) (r : Input) → ok x → Stop r → Other k r → chain_from item k (suc n) found (s x ++ r) ≡ Ok (found ++ x ∷ [], r)
  unfolding chain_from
  chain_one n found x r o st other = rw (reads x r o st, other) refl

  chain_more : (n : ℕ) (found : List A) (x : A) (i : Input) → ok x → chain_from item k (suc n) found (s x ++ piece_for k ∷ i) ≡ chain_from item k n (found ++ x ∷ []) i
  unfolding chain_from next
  chain_more n found x i o = rw (reads x (piece_for k ∷ i) o (stops i), sees_for k i f) refl

  pub chain_complete : (n : ℕ) (found xs : List A) (r : Input) → Each ok xs → 0 < length xs → length xs ≤ n → Stop r → Other k r → chain_from item k n found (join (piece_for k) (map s xs) ++ r) ≡ Ok (found ++ xs, r)
  chain_complete n found [] r all some turns st other = absurd (omega arith)
  chain_complete zero found (x ∷ xs) r all some turns st other = absurd (omega arith)
  chain_complete (suc n) found (x ∷ []) r all some turns st other =
      ap (chain_from item k (suc n) found) (ap (λ z. z ++ r) (append-nil (s x))) ∙ chain_one n found x r all.0 st other
  chain_complete (suc n) found (x ∷ z ∷ xs) r all some turns st other =
      ap (chain_from item k (suc n) found) (append_assoc (s x) (followed (piece_for k) (map s (z ∷ xs))) r)
      ∙ chain_more n found x (join (piece_for k) (map s (z ∷ xs)) ++ r) all.0
      ∙ chain_complete n (found ++ x ∷ []) (z ∷ xs) r all.1 (omega arith) (omega arith) st other
      ∙ ap (λ l. let y : Outcome (List A) = Ok (l, r) in y) (append_assoc found (x ∷ []) (z ∷ xs))

  -- a list is no longer than what it unparses to
  pub join_long : (xs : List A) → ((x : A) → ok x → 0 < length (s x)) → Each ok xs → length xs ≤ length (join (piece_for k) (map s xs))
  join_long [] long all = omega arith
  join_long (x ∷ []) long all = omega (arith, long x all.0, length-append (s x) [])
  join_long (x ∷ z ∷ xs) long all = omega (arith, long x all.0, join_long (z ∷ xs) long all.1, length-append (s x) (followed (piece_for k) (map s (z ∷ xs))))

-- ---- values

pub number_for : (n : List ℕ) (i : Input) → grammar.number (number n ∷ i) ≡ Ok (n, i)
unfolding grammar.number sees ahead text_of next
number_for n i = rw (same_self class.Number) refl

numbers_more : (n : ℕ) (found : List (List ℕ)) (x : List ℕ) (i : Input) → numbers_from (suc n) found (number x ∷ i) ≡ numbers_from n (found ++ x ∷ []) i
unfolding numbers_from sees ahead text_of next
numbers_more n found x i = rw (same_self class.Number) refl

numbers_none : (n : ℕ) (found : List (List ℕ)) (i : Input) → Other class.Number i → numbers_from (suc n) found i ≡ Ok (found, i)
unfolding numbers_from
numbers_none n found i other = rw other refl

numbers_complete : (n : ℕ) (found xs : List (List ℕ)) (i : Input) → length xs < n → Other class.Number i → numbers_from n found (map number xs ++ i) ≡ Ok (found ++ xs, i)
numbers_complete zero found xs i turns other = absurd (omega arith)
numbers_complete (suc n) found [] i turns other = numbers_none n found i other ∙ ap (λ l. let y : Outcome (List (List ℕ)) = Ok (l, i) in y) (sym (append-nil found))
numbers_complete (suc n) found (x ∷ xs) i turns other =
    numbers_more n found x (map number xs ++ i) ∙ numbers_complete n (found ++ x ∷ []) xs i (omega arith) other
    ∙ ap (λ l. let y : Outcome (List (List ℕ)) = Ok (l, i) in y) (append_assoc found (x ∷ []) xs)

not_number : (k : Class) (i : Input) → is_fixed k ≡ true → (k ≡ class.Number → ⊥) → Other class.Number (piece_for k ∷ i)
unfolding sees ahead
not_number k i f no_ = rw (class_for k f) (not_same k class.Number _ refl no_)

pub other_for : (j k : Class) (i : Input) → is_fixed k ≡ true → (k ≡ j → ⊥) → Other j (piece_for k ∷ i)
unfolding sees ahead
other_for j k i f no_ = rw (class_for k f) (not_same k j _ refl no_)

pub number_other : (k : Class) (n : List ℕ) (r : Input) → (class.Number ≡ k → ⊥) → Other k (number n ∷ r)
unfolding sees ahead
number_other k n r no_ = not_same class.Number k _ refl no_

numbers_other : (k : Class) (ns : List (List ℕ)) (r : Input) → (class.Number ≡ k → ⊥) → Other k r → Other k (map number ns ++ r)
numbers_other k [] r no_ other = other
numbers_other k (n ∷ ns) r no_ other = number_other k n (map number ns ++ r) no_

listed_complete : (n : List ℕ) (ns : List (List ℕ)) (r : Input) → listed_from n (map number ns ++ piece_for class.CloseBrace ∷ r) ≡ Ok (value.Listed (n ∷ ns), r)
unfolding listed_from
listed_complete n ns r =
    let i : Input = map number ns ++ piece_for class.CloseBrace ∷ r in
    let turns : length ns < length i = omega (arith, length-append (map number ns) (piece_for class.CloseBrace ∷ r), length_map number ns) in
    rw (numbers_complete (length i) (n ∷ []) ns (piece_for class.CloseBrace ∷ r) turns (other_for class.Number class.CloseBrace r refl (λ e. cc)), pass_for class.CloseBrace refl r) refl

pub value_complete : (v : ValueTree) (r : Input) → value_layered v ≡ true → value_of (value_spelling v ++ r) ≡ Ok (v, r)
unfolding value_of value_by braced range_from next
value_complete (value.One n) r h = rw (number_other class.OpenBrace n r (λ e. cc), number_for n r) refl
value_complete (value.Range a b) r h =
    rw (
      sees_for class.OpenBrace (number a ∷ piece_for class.To ∷ number b ∷ piece_for class.CloseBrace ∷ r) refl,
      number_for a (piece_for class.To ∷ number b ∷ piece_for class.CloseBrace ∷ r),
      sees_for class.To (number b ∷ piece_for class.CloseBrace ∷ r) refl,
      number_for b (piece_for class.CloseBrace ∷ r),
      pass_for class.CloseBrace refl r,
    ) refl
value_complete (value.Listed []) r h = absurd cc
value_complete (value.Listed (n ∷ ns)) r h =
    let i : Input = map number ns ++ piece_for class.CloseBrace ∷ r in
    let same : (map number ns ++ piece_for class.CloseBrace ∷ []) ++ r ≡ i = append_assoc (map number ns) (piece_for class.CloseBrace ∷ []) r in
    rw (
      same,
      sees_for class.OpenBrace (number n ∷ i) refl,
      number_for n i,
      numbers_other class.To ns (piece_for class.CloseBrace ∷ r) (λ e. cc) (other_for class.To class.CloseBrace r refl (λ e. cc)),
    )
    (listed_complete n ns r)

-- ---- arguments

abbrev ArgumentOk : ℕ → ArgumentTree → Type 0
ArgumentOk n x = (argument_layered x ≡ true) × (argument_nesting x ≤ n)

abbrev Ends : Input → Type 0
Ends r = Other class.Open r

abbrev CompleteList : ℕ → Parser (List ArgumentTree) → Type 0
CompleteList n q = (xs : List ArgumentTree) (r : Input) → list_all argument_layered xs ≡ true → deepest (map argument_nesting xs) ≤ n
    → q (join (piece_for class.Comma) (map argument_spelling xs) ++ piece_for class.Close ∷ r) ≡ Ok (xs, r)

name_first : (w : List ℕ) (i : Input) → is_name w ≡ true → ahead (word w ∷ i) ≡ class.Name
name_first = ahead_name

argument_by_layer : (rest : Parser (List ArgumentTree)) (n : ℕ) → ((m : ℕ) → suc m ≤ n → CompleteList m rest) → (x : ArgumentTree-F ArgumentTree) (r : Input) → ArgumentOk n (roll-ArgumentTree x) → Ends r
    → argument_of rest (argument_spelling (roll-ArgumentTree x) ++ r) ≡ Ok (roll-ArgumentTree x, r)
unfolding argument_of inner text_of next
argument_by_layer rest n lists arg.Any r o st =
    rw (argument_roll arg.Any, ahead_for class.Underscore r refl) (ap (λ t. let y : Outcome ArgumentTree = Ok (t, r) in y) (sym argument.rolls-Any))
argument_by_layer rest n lists (arg.Name w) r o st =
    let named : is_name w ≡ true = sym (layered_roll (arg.Name w)) ∙ o.0 in
    rw (argument_roll (arg.Name w), ahead_name w r named, st) (ap (λ t. let y : Outcome ArgumentTree = Ok (t, r) in y) (sym (argument.rolls-Name w)))
argument_by_layer rest n lists (arg.Inner w xs) r o st =
    let both = both_true _ _ (sym (layered_roll (arg.Inner w xs)) ∙ o.0) in
    let e = argument_nesting_roll (arg.Inner w xs) in
    let i : Input = join (piece_for class.Comma) (map argument_spelling xs) ++ piece_for class.Close ∷ r in
    let same : (join (piece_for class.Comma) (map argument_spelling xs) ++ piece_for class.Close ∷ []) ++ r ≡ i = append_assoc _ (piece_for class.Close ∷ []) r in
    let deep : suc (deepest (map argument_nesting xs)) ≤ n = omega (arith, e, o.1) in
    rw (
      argument_roll (arg.Inner w xs),
      same,
      ahead_name w (piece_for class.Open ∷ i) both.0,
      sees_for class.Open i refl,
      lists (deepest (map argument_nesting xs)) deep xs r (sym (all_map argument_layered (λ b. b) xs) ∙ both.1) (omega arith),
    )
    (ap (λ t. let y : Outcome ArgumentTree = Ok (t, r) in y) (sym (argument.rolls-Inner w xs)))

argument_complete : (rest : Parser (List ArgumentTree)) (n : ℕ) → ((m : ℕ) → suc m ≤ n → CompleteList m rest) → (x : ArgumentTree) (r : Input) → ArgumentOk n x → Ends r
    → argument_of rest (argument_spelling x ++ r) ≡ Ok (x, r)
argument_complete rest n lists x r =
    subst (λ t. ArgumentOk n t → Ends r → argument_of rest (argument_spelling t ++ r) ≡ Ok (t, r)) (roll-out-ArgumentTree x) (argument_by_layer rest n lists (out-ArgumentTree x) r)

-- an argument begins with a name or with the mark that passes a place over
begins_by_layer : (x : ArgumentTree-F ArgumentTree) (r : Input) → argument_layered (roll-ArgumentTree x) ≡ true → Other class.Close (argument_spelling (roll-ArgumentTree x) ++ r)
unfolding sees
begins_by_layer arg.Any r o = rw (argument_roll arg.Any, ahead_for class.Underscore r refl) (not_same class.Underscore class.Close _ refl (λ e. cc))
begins_by_layer (arg.Name w) r o =
    let named : is_name w ≡ true = sym (layered_roll (arg.Name w)) ∙ o in
    rw (argument_roll (arg.Name w), ahead_name w r named) (not_same class.Name class.Close _ refl (λ e. cc))
begins_by_layer (arg.Inner w xs) r o =
    let both : (is_name w ≡ true) × (list_all (λ b. b) (map argument_layered xs) ≡ true) = both_true _ _ (sym (layered_roll (arg.Inner w xs)) ∙ o) in
    rw (argument_roll (arg.Inner w xs), ahead_name w (piece_for class.Open ∷ ((join (piece_for class.Comma) (map argument_spelling xs) ++ piece_for class.Close ∷ []) ++ r)) both.0) (not_same class.Name class.Close _ refl (λ e. cc))

begins_argument : (x : ArgumentTree) (r : Input) → argument_layered x ≡ true → Other class.Close (argument_spelling x ++ r)
begins_argument x r =
    subst (λ t. argument_layered t ≡ true → Other class.Close (argument_spelling t ++ r)) (roll-out-ArgumentTree x) (begins_by_layer (out-ArgumentTree x) r)

long_by_layer : (x : ArgumentTree-F ArgumentTree) → 0 < length (argument_spelling (roll-ArgumentTree x))
long_by_layer arg.Any = rw (argument_roll arg.Any) (omega arith)
long_by_layer (arg.Name w) = rw (argument_roll (arg.Name w)) (omega arith)
long_by_layer (arg.Inner w xs) = rw (argument_roll (arg.Inner w xs)) (omega arith)

long_argument : (x : ArgumentTree) → 0 < length (argument_spelling x)
long_argument x = subst (λ t. 0 < length (argument_spelling t)) (roll-out-ArgumentTree x) (long_by_layer (out-ArgumentTree x))

each_argument : (n : ℕ) (xs : List ArgumentTree) → list_all argument_layered xs ≡ true → deepest (map argument_nesting xs) ≤ n → Each (ArgumentOk n) xs
each_argument n [] all deep = tt
each_argument n (x ∷ xs) all deep =
    let both : (argument_layered x ≡ true) × (list_all argument_layered xs ≡ true) = both_true _ _ all in
    ((both.0, omega arith), each_argument n xs both.1 (omega arith))

list_none : (item : Parser ArgumentTree) (r : Input) → arguments item (piece_for class.Close ∷ r) ≡ Ok ([], r)
unfolding arguments next
list_none item r = rw (sees_for class.Close r refl) refl

list_some : (rest : Parser (List ArgumentTree)) (n : ℕ) → ((m : ℕ) → suc m ≤ n → CompleteList m rest) → (x : ArgumentTree) (xs : List ArgumentTree) (r : Input)
    → list_all argument_layered (x ∷ xs) ≡ true → deepest (map argument_nesting (x ∷ xs)) ≤ n
    → arguments (argument_of rest) (join (piece_for class.Comma) (map argument_spelling (x ∷ xs)) ++ piece_for class.Close ∷ r) ≡ Ok (x ∷ xs, r)
unfolding arguments
list_some rest n lists x xs r all deep =
    let parts : List Piece = join (piece_for class.Comma) (map argument_spelling (x ∷ xs)) in
    let i : Input = parts ++ piece_for class.Close ∷ r in
    let both : (argument_layered x ≡ true) × (list_all argument_layered xs ≡ true) = both_true _ _ all in
    let begins : Other class.Close i =
    subst (λ z. Other class.Close z) (sym (append_assoc (argument_spelling x) (followed (piece_for class.Comma) (map argument_spelling xs)) (piece_for class.Close ∷ r)))
    (begins_argument x (followed (piece_for class.Comma) (map argument_spelling xs) ++ piece_for class.Close ∷ r) both.0) in
    let each = each_argument n (x ∷ xs) all deep in
    let stops : (j : Input) → Ends (piece_for class.Comma ∷ j) = λ j. other_for class.Open class.Comma j refl (λ e. cc) in
    let reads : (y : ArgumentTree) (j : Input) → ArgumentOk n y → Ends j → argument_of rest (argument_spelling y ++ j) ≡ Ok (y, j) = argument_complete rest n lists in
    let long : suc (length xs) ≤ length parts = join_long (argument_of rest) (ArgumentOk n) argument_spelling class.Comma refl Ends stops reads (x ∷ xs) (λ y _. long_argument y) each in
    let turns : suc (length xs) ≤ length i = omega (arith, length-append parts (piece_for class.Close ∷ r)) in
    let chained = chain_complete (argument_of rest) (ArgumentOk n) argument_spelling class.Comma refl Ends stops reads (length i) [] (x ∷ xs) (piece_for class.Close ∷ r) each (omega arith) turns
    (other_for class.Open class.Close r refl (λ e. cc)) (other_for class.Comma class.Close r refl (λ e. cc)) in
    rw (begins, chained, pass_for class.Close refl r) refl

list_complete : (rest : Parser (List ArgumentTree)) (n : ℕ) → ((m : ℕ) → suc m ≤ n → CompleteList m rest) → CompleteList n (arguments (argument_of rest))
list_complete rest n lists [] r all deep = list_none (argument_of rest) r
list_complete rest n lists (x ∷ xs) r all deep = list_some rest n lists x xs r all deep

pub arguments_complete : (n m : ℕ) → suc m ≤ n → CompleteList m (arguments_at n)
unfolding arguments_at
arguments_complete zero m h xs r all deep = absurd (omega arith)
arguments_complete (suc n) m h xs r all deep = list_complete (arguments_at n) n (arguments_complete n) xs r all (omega arith)

-- ---- patterns

-- the greatest layer with which a lexeme goes on
abbrev pub tight : Class → ℕ
tight class.Bar = 5
tight class.Semicolon = 4
tight class.And = 3
tight class.Ellipsis = 1
tight class.Equal = 0
tight class.Differs = 0
tight class.Below = 0
tight class.AtMost = 0
tight class.Above = 0
tight class.AtLeast = 0
tight class.Open = 0
tight class.Colon = 0
tight _ = 9

-- what stands behind goes on with no tree of this layer or below
abbrev pub Stops : ℕ → Input → Type 0
Stops k r = k < tight (ahead r)

stops_other : (k : Class) (j : ℕ) (r : Input) → tight k ≤ j → Stops j r → Other k r
stops_other k j r low st = by_test (sees k r) refl
  where
    by_test : (b : Bool) → sees k r ≡ b → b ≡ false
    by_test true e = absurd (let a = ap tight (sees_ahead k r e) in omega (arith, a))
    by_test false e = refl

stops_for : (k : ℕ) (c : Class) (i : Input) → is_fixed c ≡ true → k < tight c → Stops k (piece_for c ∷ i)
stops_for k c i f h = rw (ahead_for c i f) h

no_relation : (c : Class) → 0 < tight c → relation_of c ≡ None
no_relation class.Equal h = absurd (omega arith)
no_relation class.Differs h = absurd (omega arith)
no_relation class.Below h = absurd (omega arith)
no_relation class.AtMost h = absurd (omega arith)
no_relation class.Above h = absurd (omega arith)
no_relation class.AtLeast h = absurd (omega arith)
no_relation _ h = refl

abbrev class_of_relation : RelationTree → Class
class_of_relation relation.Equal = class.Equal
class_of_relation relation.Differs = class.Differs
class_of_relation relation.Below = class.Below
class_of_relation relation.AtMost = class.AtMost
class_of_relation relation.Above = class.Above
class_of_relation relation.AtLeast = class.AtLeast

relation_ahead : (q : RelationTree) (i : Input) → ahead (relation_piece q ∷ i) ≡ class_of_relation q
relation_ahead relation.Equal i = ahead_for class.Equal i refl
relation_ahead relation.Differs i = ahead_for class.Differs i refl
relation_ahead relation.Below i = ahead_for class.Below i refl
relation_ahead relation.AtMost i = ahead_for class.AtMost i refl
relation_ahead relation.Above i = ahead_for class.Above i refl
relation_ahead relation.AtLeast i = ahead_for class.AtLeast i refl

relation_back : (q : RelationTree) → relation_of (class_of_relation q) ≡ Some q
relation_back relation.Equal = refl
relation_back relation.Differs = refl
relation_back relation.Below = refl
relation_back relation.AtMost = refl
relation_back relation.Above = refl
relation_back relation.AtLeast = refl

relation_other : (q : RelationTree) (k : Class) (i : Input) → (class_of_relation q ≡ k → ⊥) → Other k (relation_piece q ∷ i)
unfolding sees
relation_other q k i no_ = rw (relation_ahead q i) (not_same (class_of_relation q) k _ refl no_)

relation_not_open : (q : RelationTree) → class_of_relation q ≡ class.Open → ⊥
relation_not_open relation.Equal e = cc
relation_not_open relation.Differs e = cc
relation_not_open relation.Below e = cc
relation_not_open relation.AtMost e = cc
relation_not_open relation.Above e = cc
relation_not_open relation.AtLeast e = cc

relation_not_colon : (q : RelationTree) → class_of_relation q ≡ class.Colon → ⊥
relation_not_colon relation.Equal e = cc
relation_not_colon relation.Differs e = cc
relation_not_colon relation.Below e = cc
relation_not_colon relation.AtMost e = cc
relation_not_colon relation.Above e = cc
relation_not_colon relation.AtLeast e = cc

rank_within : (k r : ℕ) (ok : Bool) (t : PatternTree) → grade t ≡ (r, ok) → fits k t ≡ true → nat_le r k ≡ true
rank_within k r ok t e f =
    let both : (nat_le (grade t).0 k ≡ true) × ((grade t).1 ≡ true) = both_true _ _ f in
    rw (ap (λ g. g.0) e) at both.0

layered_within : (k r : ℕ) (ok : Bool) (t : PatternTree) → grade t ≡ (r, ok) → fits k t ≡ true → ok ≡ true
layered_within k r ok t e f =
    let both : (nat_le (grade t).0 k ≡ true) × ((grade t).1 ≡ true) = both_true _ _ f in
    sym (ap (λ g. g.1) e) ∙ both.1

lower : (h b r : ℕ) (ok : Bool) (t : PatternTree) → grade t ≡ (r, ok) → nat_le r b ≡ true → fits h t ≡ true → fits b t ≡ true
lower h b r ok t e le f = rw e (and_both _ _ le (layered_within h r ok t e f))

rank_by_layer : (x : PatternTree-F PatternTree) → nat_le (grade (roll-PatternTree x)).0 5 ≡ true
rank_by_layer (one.Either xs) = rw (grade_roll (one.Either xs)) refl
rank_by_layer (one.Chain xs) = rw (grade_roll (one.Chain xs)) refl
rank_by_layer (one.Both xs) = rw (grade_roll (one.Both xs)) refl
rank_by_layer (one.Labelled w x) = rw (grade_roll (one.Labelled w x)) refl
rank_by_layer (one.Loose x) = rw (grade_roll (one.Loose x)) refl
rank_by_layer (one.Group y) = rw (grade_roll (one.Group y)) refl
rank_by_layer one.Empty = rw (grade_roll one.Empty) refl
rank_by_layer (one.Word w) = rw (grade_roll (one.Word w)) refl
rank_by_layer (one.Limit w q v) = rw (grade_roll (one.Limit w q v)) refl
rank_by_layer (one.Apply w xs) = rw (grade_roll (one.Apply w xs)) refl

pub rank_five : (t : PatternTree) → nat_le (grade t).0 5 ≡ true
rank_five t = subst (λ u. nat_le (grade u).0 5 ≡ true) (roll-out-PatternTree t) (rank_by_layer (out-PatternTree t))

join_some : (m : Piece) (ys : List (List Piece)) → 1 < length ys → 0 < length (join m ys)
join_some m [] h = absurd (omega arith)
join_some m (y ∷ []) h = absurd (omega arith)
join_some m (y ∷ z ∷ ys) h = omega (arith, length-append y (followed m (z ∷ ys)))

several : (b : ℕ) (xs : List PatternTree) → members b (map grade xs) ≡ true → (1 < length xs) × (list_all (fits b) xs ≡ true)
several b xs h =
    let both : (nat_lt 1 (length (map grade xs)) ≡ true) × (list_all (λ g. nat_le g.0 b && g.1) (map grade xs) ≡ true) = both_true _ _ h in
    let some : 1 < length (map grade xs) = grind (arith, nat_tests) in
    (omega (arith, length_map grade xs, some), sym (all_map grade (λ g. nat_le g.0 b && g.1) xs) ∙ both.1)

long_by_layer' : (x : PatternTree-F PatternTree) → (grade (roll-PatternTree x)).1 ≡ true → 0 < length (spelling (roll-PatternTree x))
long_by_layer' (one.Either xs) h =
    let some = several 4 xs (sym (ap (λ g. g.1) (grade_roll (one.Either xs))) ∙ h) in
    rw (spelling_roll (one.Either xs)) (join_some (piece_for class.Bar) (map spelling xs) (omega (arith, length_map spelling xs, some.0)))
long_by_layer' (one.Chain xs) h =
    let some = several 3 xs (sym (ap (λ g. g.1) (grade_roll (one.Chain xs))) ∙ h) in
    rw (spelling_roll (one.Chain xs)) (join_some (piece_for class.Semicolon) (map spelling xs) (omega (arith, length_map spelling xs, some.0)))
long_by_layer' (one.Both xs) h =
    let some = several 2 xs (sym (ap (λ g. g.1) (grade_roll (one.Both xs))) ∙ h) in
    rw (spelling_roll (one.Both xs)) (join_some (piece_for class.And) (map spelling xs) (omega (arith, length_map spelling xs, some.0)))
long_by_layer' (one.Loose x) h = rw (spelling_roll (one.Loose x)) (omega (arith, length-append (spelling x) (piece_for class.Ellipsis ∷ [])))
long_by_layer' (one.Labelled w x) h = rw (spelling_roll (one.Labelled w x)) (omega arith)
long_by_layer' (one.Group y) h = rw (spelling_roll (one.Group y)) (omega arith)
long_by_layer' one.Empty h = rw (spelling_roll one.Empty) (omega arith)
long_by_layer' (one.Word w) h = rw (spelling_roll (one.Word w)) (omega arith)
long_by_layer' (one.Limit w q v) h = rw (spelling_roll (one.Limit w q v)) (omega arith)
long_by_layer' (one.Apply w xs) h = rw (spelling_roll (one.Apply w xs)) (omega arith)

long_tree : (t : PatternTree) → (grade t).1 ≡ true → 0 < length (spelling t)
long_tree t = subst (λ u. (grade u).1 ≡ true → 0 < length (spelling u)) (roll-out-PatternTree t) (long_by_layer' (out-PatternTree t))

-- ---- no label comes first

and_no : (x y : Bool) → y ≡ false → (x && y) ≡ false
and_no true y h = h
and_no false y h = refl

no_label_first : (k : Class) (i : Input) → is_fixed k ≡ true → (k ≡ class.Name → ⊥) → sees_label (piece_for k ∷ i) ≡ false
unfolding sees_label
no_label_first k i f no_ = rw (ahead_for k i f, not_same k class.Name _ refl no_) refl

no_label_second : (w : List ℕ) (i : Input) → Other class.Colon i → sees_label (word w ∷ i) ≡ false
unfolding sees_label second sees
no_label_second w i other = and_no _ _ other

label_first : (w : List ℕ) (i : Input) → is_name w ≡ true → sees_label (word w ∷ piece_for class.Colon ∷ i) ≡ true
unfolding sees_label second
label_first w i named = rw (ahead_name w (piece_for class.Colon ∷ i) named, ahead_for class.Colon i refl) (and_both _ _ (same_self class.Name) (same_self class.Colon))

no_label_by_layer : (x : PatternTree-F PatternTree) (r : Input) → fits 0 (roll-PatternTree x) ≡ true → Other class.Colon r → sees_label (spelling (roll-PatternTree x) ++ r) ≡ false
no_label_by_layer (one.Either xs) r f other = absurd (let bad = rank_within 0 5 _ _ (grade_roll (one.Either xs)) f in cc)
no_label_by_layer (one.Chain xs) r f other = absurd (let bad = rank_within 0 4 _ _ (grade_roll (one.Chain xs)) f in cc)
no_label_by_layer (one.Both xs) r f other = absurd (let bad = rank_within 0 3 _ _ (grade_roll (one.Both xs)) f in cc)
no_label_by_layer (one.Labelled w x) r f other = absurd (let bad = rank_within 0 2 _ _ (grade_roll (one.Labelled w x)) f in cc)
no_label_by_layer (one.Loose x) r f other = absurd (let bad = rank_within 0 1 _ _ (grade_roll (one.Loose x)) f in cc)
no_label_by_layer (one.Group y) r f other = rw (spelling_roll (one.Group y)) (no_label_first class.Open ((spelling y ++ piece_for class.Close ∷ []) ++ r) refl (λ e. cc))
no_label_by_layer one.Empty r f other = rw (spelling_roll one.Empty) (no_label_first class.Epsilon r refl (λ e. cc))
no_label_by_layer (one.Word w) r f other = rw (spelling_roll (one.Word w)) (no_label_second w r other)
no_label_by_layer (one.Limit w q v) r f other = rw (spelling_roll (one.Limit w q v)) (no_label_second w (relation_piece q ∷ (value_spelling v ++ r)) (relation_other q class.Colon (value_spelling v ++ r) (relation_not_colon q)))
no_label_by_layer (one.Apply w xs) r f other =
    rw (spelling_roll (one.Apply w xs)) (no_label_second w (piece_for class.Open ∷ ((join (piece_for class.Comma) (map argument_spelling xs) ++ piece_for class.Close ∷ []) ++ r)) (other_for class.Colon class.Open ((join (piece_for class.Comma) (map argument_spelling xs) ++ piece_for class.Close ∷ []) ++ r) refl (λ e. cc)))

no_label_atom : (t : PatternTree) (r : Input) → fits 0 t ≡ true → Other class.Colon r → sees_label (spelling t ++ r) ≡ false
no_label_atom t r = subst (λ u. fits 0 u ≡ true → Other class.Colon r → sees_label (spelling u ++ r) ≡ false) (roll-out-PatternTree t) (no_label_by_layer (out-PatternTree t) r)

no_label_loose : (x : PatternTree-F PatternTree) (r : Input) → fits 1 (roll-PatternTree x) ≡ true → Other class.Colon r → sees_label (spelling (roll-PatternTree x) ++ r) ≡ false
no_label_loose (one.Either xs) r f other = absurd (let bad = rank_within 1 5 _ _ (grade_roll (one.Either xs)) f in cc)
no_label_loose (one.Chain xs) r f other = absurd (let bad = rank_within 1 4 _ _ (grade_roll (one.Chain xs)) f in cc)
no_label_loose (one.Both xs) r f other = absurd (let bad = rank_within 1 3 _ _ (grade_roll (one.Both xs)) f in cc)
no_label_loose (one.Labelled w x) r f other = absurd (let bad = rank_within 1 2 _ _ (grade_roll (one.Labelled w x)) f in cc)
no_label_loose (one.Loose x) r f other =
    let same : (spelling x ++ piece_for class.Ellipsis ∷ []) ++ r ≡ spelling x ++ piece_for class.Ellipsis ∷ r = append_assoc (spelling x) (piece_for class.Ellipsis ∷ []) r in
    rw (spelling_roll (one.Loose x), same) (no_label_atom x (piece_for class.Ellipsis ∷ r) (layered_within 1 1 _ _ (grade_roll (one.Loose x)) f) (other_for class.Colon class.Ellipsis r refl (λ e. cc)))
no_label_loose (one.Group y) r f other = no_label_atom (roll-PatternTree (one.Group y)) r (lower 1 0 0 _ _ (grade_roll (one.Group y)) refl f) other
no_label_loose one.Empty r f other = no_label_atom (roll-PatternTree one.Empty) r (lower 1 0 0 _ _ (grade_roll one.Empty) refl f) other
no_label_loose (one.Word w) r f other = no_label_atom (roll-PatternTree (one.Word w)) r (lower 1 0 0 _ _ (grade_roll (one.Word w)) refl f) other
no_label_loose (one.Limit w q v) r f other = no_label_atom (roll-PatternTree (one.Limit w q v)) r (lower 1 0 0 _ _ (grade_roll (one.Limit w q v)) refl f) other
no_label_loose (one.Apply w xs) r f other = no_label_atom (roll-PatternTree (one.Apply w xs)) r (lower 1 0 0 _ _ (grade_roll (one.Apply w xs)) refl f) other

no_label : (t : PatternTree) (r : Input) → fits 1 t ≡ true → Other class.Colon r → sees_label (spelling t ++ r) ≡ false
no_label t r = subst (λ u. fits 1 u ≡ true → Other class.Colon r → sees_label (spelling u ++ r) ≡ false) (roll-out-PatternTree t) (no_label_loose (out-PatternTree t) r)

separator_is_fixed : (l : Level) → is_fixed (separator l) ≡ true
separator_is_fixed level.Either = refl
separator_is_fixed level.Chain = refl
separator_is_fixed level.Both = refl

separator_tight : (l : Level) → (below l < tight (separator l)) × (tight (separator l) ≤ height l)
separator_tight level.Either = (omega arith, omega arith)
separator_tight level.Chain = (omega arith, omega arith)
separator_tight level.Both = (omega arith, omega arith)

below_the_height : (l : Level) → below l ≤ height l
below_the_height level.Either = omega arith
below_the_height level.Chain = omega arith
below_the_height level.Both = omega arith

joined_node : (l : Level) (xs : List PatternTree) → 1 < length xs → joined l xs ≡ node l xs
unfolding joined
joined_node l [] h = absurd (omega arith)
joined_node l (x ∷ []) h = absurd (omega arith)
joined_node l (x ∷ z ∷ xs) h = refl

joined_one : (l : Level) (x : PatternTree) → joined l (x ∷ []) ≡ x
unfolding joined
joined_one l x = refl

abbrev PatternOk : ℕ → ℕ → PatternTree → Type 0
PatternOk k n t = (fits k t ≡ true) × (nesting t ≤ n)

each_pattern : (k n : ℕ) (xs : List PatternTree) → list_all (fits k) xs ≡ true → deepest (map nesting xs) ≤ n → Each (PatternOk k n) xs
each_pattern k n [] all deep = tt
each_pattern k n (x ∷ xs) all deep =
    let both : (fits k x ≡ true) × (list_all (fits k) xs ≡ true) = both_true _ _ all in
    ((both.0, omega arith), each_pattern k n xs both.1 (omega arith))

abbrev pub CompleteAt : ℕ → ℕ → Parser PatternTree → Type 0
CompleteAt k n q = (t : PatternTree) (r : Input) → fits k t ≡ true → nesting t ≤ n → Stops k r → q (spelling t ++ r) ≡ Ok (t, r)

module _ (whole : Parser PatternTree) (rest : Parser (List ArgumentTree)) (n : ℕ) (wholes : (m : ℕ) → suc m ≤ n → CompleteAt 5 m whole) (lists : (m : ℕ) → suc m ≤ n → CompleteList m rest) where
  abbrev AtLayer : ℕ → Parser PatternTree → PatternTree-F PatternTree → Type 0
  AtLayer k q x = (r : Input) → fits k (roll-PatternTree x) ≡ true → nesting (roll-PatternTree x) ≤ n → Stops k r → q (spelling (roll-PatternTree x) ++ r) ≡ Ok (roll-PatternTree x, r)

  same_tree : (t u : PatternTree) (r : Input) → t ≡ u → (let y : Outcome PatternTree = Ok (u, r) in y) ≡ Ok (t, r)
  same_tree t u r e = ap (λ z. let y : Outcome PatternTree = Ok (z, r) in y) (sym e)

  group_layer : (y : PatternTree) → AtLayer 0 (atom whole rest) (one.Group y)
  unfolding atom grouped next
  group_layer y r f d st =
      let x = one.Group y in
      let e = nesting_roll (one.Group y) in
      let deep : suc (nesting y) ≤ n = omega (arith, e, d) in
      let i : Input = spelling y ++ piece_for class.Close ∷ r in
      let same : (spelling y ++ piece_for class.Close ∷ []) ++ r ≡ i = append_assoc (spelling y) (piece_for class.Close ∷ []) r in
      let ok : (grade y).1 ≡ true = layered_within 0 0 _ _ (grade_roll (one.Group y)) f in
      let inside : whole i ≡ Ok (y, piece_for class.Close ∷ r) = wholes (nesting y) deep y (piece_for class.Close ∷ r) (and_both _ _ (rank_five y) ok) (omega arith) (stops_for 5 class.Close r refl (omega arith)) in
      rw (spelling_roll (one.Group y), same, ahead_for class.Open i refl, inside, pass_for class.Close refl r) (same_tree (roll-PatternTree (one.Group y)) (p.Group y) r (p.rolls-Group y))

  word_layer : (w : List ℕ) → AtLayer 0 (atom whole rest) (one.Word w)
  unfolding atom named unapplied limited text_of next
  word_layer w r f d st =
      let ok : is_name w ≡ true = layered_within 0 0 _ _ (grade_roll (one.Word w)) f in
      rw (spelling_roll (one.Word w), ahead_name w r ok, stops_other class.Open 0 r (omega arith) st, no_relation (ahead r) st) (same_tree (roll-PatternTree (one.Word w)) (p.Word w) r (p.rolls-Word w))

  limit_layer : (w : List ℕ) (q : RelationTree) (v : ValueTree) → AtLayer 0 (atom whole rest) (one.Limit w q v)
  unfolding atom named unapplied limited text_of next
  limit_layer w q v r f d st =
      let ok : (is_name w ≡ true) × (value_layered v ≡ true) = both_true _ _ (layered_within 0 0 _ _ (grade_roll (one.Limit w q v)) f) in
      let i : Input = value_spelling v ++ r in
      rw (spelling_roll (one.Limit w q v), ahead_name w (relation_piece q ∷ i) ok.0, relation_other q class.Open i (relation_not_open q), relation_ahead q i, relation_back q, value_complete v r ok.1)
      (same_tree (roll-PatternTree (one.Limit w q v)) (p.Limit w q v) r (p.rolls-Limit w q v))

  apply_layer : (w : List ℕ) (xs : List ArgumentTree) → AtLayer 0 (atom whole rest) (one.Apply w xs)
  unfolding atom named text_of next
  apply_layer w xs r f d st =
      let ok : (is_name w ≡ true) × (list_all argument_layered xs ≡ true) = both_true _ _ (layered_within 0 0 _ _ (grade_roll (one.Apply w xs)) f) in
      let e = nesting_roll (one.Apply w xs) in
      let deep : suc (deepest (map argument_nesting xs)) ≤ n = omega (arith, e, d) in
      let i : Input = join (piece_for class.Comma) (map argument_spelling xs) ++ piece_for class.Close ∷ r in
      let same : (join (piece_for class.Comma) (map argument_spelling xs) ++ piece_for class.Close ∷ []) ++ r ≡ i = append_assoc _ (piece_for class.Close ∷ []) r in
      rw (spelling_roll (one.Apply w xs), same, ahead_name w (piece_for class.Open ∷ i) ok.0, sees_for class.Open i refl, lists (deepest (map argument_nesting xs)) deep xs r ok.1 (omega arith))
      (same_tree (roll-PatternTree (one.Apply w xs)) (p.Apply w xs) r (p.rolls-Apply w xs))

  empty_layer : AtLayer 0 (atom whole rest) one.Empty
  unfolding atom next
  empty_layer r f d st = rw (spelling_roll one.Empty, ahead_for class.Epsilon r refl) (same_tree (roll-PatternTree one.Empty) p.Empty r p.rolls-Empty)

  atom_by_layer : (x : PatternTree-F PatternTree) → AtLayer 0 (atom whole rest) x
  atom_by_layer (one.Either xs) r f d st = absurd (let bad = rank_within 0 5 _ _ (grade_roll (one.Either xs)) f in cc)
  atom_by_layer (one.Chain xs) r f d st = absurd (let bad = rank_within 0 4 _ _ (grade_roll (one.Chain xs)) f in cc)
  atom_by_layer (one.Both xs) r f d st = absurd (let bad = rank_within 0 3 _ _ (grade_roll (one.Both xs)) f in cc)
  atom_by_layer (one.Labelled w x) r f d st = absurd (let bad = rank_within 0 2 _ _ (grade_roll (one.Labelled w x)) f in cc)
  atom_by_layer (one.Loose x) r f d st = absurd (let bad = rank_within 0 1 _ _ (grade_roll (one.Loose x)) f in cc)
  atom_by_layer (one.Group y) r f d st = group_layer y r f d st
  atom_by_layer one.Empty r f d st = empty_layer r f d st
  atom_by_layer (one.Word w) r f d st = word_layer w r f d st
  atom_by_layer (one.Limit w q v) r f d st = limit_layer w q v r f d st
  atom_by_layer (one.Apply w xs) r f d st = apply_layer w xs r f d st

  from_layers : (k : ℕ) (q : Parser PatternTree) → ((x : PatternTree-F PatternTree) → AtLayer k q x) → CompleteAt k n q
  from_layers k q h t r =
      subst (λ u. fits k u ≡ true → nesting u ≤ n → Stops k r → q (spelling u ++ r) ≡ Ok (u, r)) (roll-out-PatternTree t) (h (out-PatternTree t) r)

  atom_complete : CompleteAt 0 n (atom whole rest)
  atom_complete = from_layers 0 (atom whole rest) atom_by_layer

  -- a tree of the lower layer, read by the rule of the layer above it
  loose_same : (t : PatternTree) (r : Input) → fits 0 t ≡ true → nesting t ≤ n → Stops 1 r → loose whole rest (spelling t ++ r) ≡ Ok (t, r)
  unfolding loose
  loose_same t r f d st = rw (atom_complete t r f d (omega arith), stops_other class.Ellipsis 1 r (omega arith) st) refl

  loose_layer : (y : PatternTree) → AtLayer 1 (loose whole rest) (one.Loose y)
  unfolding loose next
  loose_layer y r f d st =
      let ok : fits 0 y ≡ true = layered_within 1 1 _ _ (grade_roll (one.Loose y)) f in
      let e = nesting_roll (one.Loose y) in
      let same : (spelling y ++ piece_for class.Ellipsis ∷ []) ++ r ≡ spelling y ++ piece_for class.Ellipsis ∷ r = append_assoc (spelling y) (piece_for class.Ellipsis ∷ []) r in
      rw (spelling_roll (one.Loose y), same, atom_complete y (piece_for class.Ellipsis ∷ r) ok (omega (arith, e, d)) (stops_for 0 class.Ellipsis r refl (omega arith)), sees_for class.Ellipsis r refl)
      (same_tree (roll-PatternTree (one.Loose y)) (p.Loose y) r (p.rolls-Loose y))

  loose_by_layer : (x : PatternTree-F PatternTree) → AtLayer 1 (loose whole rest) x
  loose_by_layer (one.Either xs) r f d st = absurd (let bad = rank_within 1 5 _ _ (grade_roll (one.Either xs)) f in cc)
  loose_by_layer (one.Chain xs) r f d st = absurd (let bad = rank_within 1 4 _ _ (grade_roll (one.Chain xs)) f in cc)
  loose_by_layer (one.Both xs) r f d st = absurd (let bad = rank_within 1 3 _ _ (grade_roll (one.Both xs)) f in cc)
  loose_by_layer (one.Labelled w x) r f d st = absurd (let bad = rank_within 1 2 _ _ (grade_roll (one.Labelled w x)) f in cc)
  loose_by_layer (one.Loose x) r f d st = loose_layer x r f d st
  loose_by_layer (one.Group y) r f d st = loose_same (roll-PatternTree (one.Group y)) r (lower 1 0 0 _ _ (grade_roll (one.Group y)) refl f) d st
  loose_by_layer one.Empty r f d st = loose_same (roll-PatternTree one.Empty) r (lower 1 0 0 _ _ (grade_roll one.Empty) refl f) d st
  loose_by_layer (one.Word w) r f d st = loose_same (roll-PatternTree (one.Word w)) r (lower 1 0 0 _ _ (grade_roll (one.Word w)) refl f) d st
  loose_by_layer (one.Limit w q v) r f d st = loose_same (roll-PatternTree (one.Limit w q v)) r (lower 1 0 0 _ _ (grade_roll (one.Limit w q v)) refl f) d st
  loose_by_layer (one.Apply w xs) r f d st = loose_same (roll-PatternTree (one.Apply w xs)) r (lower 1 0 0 _ _ (grade_roll (one.Apply w xs)) refl f) d st

  loose_complete : CompleteAt 1 n (loose whole rest)
  loose_complete = from_layers 1 (loose whole rest) loose_by_layer

  post_same : (t : PatternTree) (r : Input) → fits 1 t ≡ true → nesting t ≤ n → Stops 2 r → post whole rest (spelling t ++ r) ≡ Ok (t, r)
  unfolding post
  post_same t r f d st = rw (no_label t r f (stops_other class.Colon 2 r (omega arith) st)) (loose_complete t r f d (omega arith))

  label_layer : (w : List ℕ) (y : PatternTree) → AtLayer 2 (post whole rest) (one.Labelled w y)
  unfolding post labelled text_of next
  label_layer w y r f d st =
      let ok : (is_name w ≡ true) × (fits 1 y ≡ true) = both_true _ _ (layered_within 2 2 _ _ (grade_roll (one.Labelled w y)) f) in
      let e = nesting_roll (one.Labelled w y) in
      rw (spelling_roll (one.Labelled w y), label_first w (spelling y ++ r) ok.0, loose_complete y r ok.1 (omega (arith, e, d)) (omega arith))
      (same_tree (roll-PatternTree (one.Labelled w y)) (p.Labelled w y) r (p.rolls-Labelled w y))

  post_by_layer : (x : PatternTree-F PatternTree) → AtLayer 2 (post whole rest) x
  post_by_layer (one.Either xs) r f d st = absurd (let bad = rank_within 2 5 _ _ (grade_roll (one.Either xs)) f in cc)
  post_by_layer (one.Chain xs) r f d st = absurd (let bad = rank_within 2 4 _ _ (grade_roll (one.Chain xs)) f in cc)
  post_by_layer (one.Both xs) r f d st = absurd (let bad = rank_within 2 3 _ _ (grade_roll (one.Both xs)) f in cc)
  post_by_layer (one.Labelled w x) r f d st = label_layer w x r f d st
  post_by_layer (one.Loose x) r f d st = post_same (roll-PatternTree (one.Loose x)) r (lower 2 1 1 _ _ (grade_roll (one.Loose x)) refl f) d st
  post_by_layer (one.Group y) r f d st = post_same (roll-PatternTree (one.Group y)) r (lower 2 1 0 _ _ (grade_roll (one.Group y)) refl f) d st
  post_by_layer one.Empty r f d st = post_same (roll-PatternTree one.Empty) r (lower 2 1 0 _ _ (grade_roll one.Empty) refl f) d st
  post_by_layer (one.Word w) r f d st = post_same (roll-PatternTree (one.Word w)) r (lower 2 1 0 _ _ (grade_roll (one.Word w)) refl f) d st
  post_by_layer (one.Limit w q v) r f d st = post_same (roll-PatternTree (one.Limit w q v)) r (lower 2 1 0 _ _ (grade_roll (one.Limit w q v)) refl f) d st
  post_by_layer (one.Apply w xs) r f d st = post_same (roll-PatternTree (one.Apply w xs)) r (lower 2 1 0 _ _ (grade_roll (one.Apply w xs)) refl f) d st

  post_complete : CompleteAt 2 n (post whole rest)
  post_complete = from_layers 2 (post whole rest) post_by_layer

-- ---- levels

module _ (l : Level) (item : Parser PatternTree) (n : ℕ) (reads : CompleteAt (below l) n item) where
  item_reads : (x : PatternTree) (r : Input) → PatternOk (below l) n x → Stops (below l) r → item (spelling x ++ r) ≡ Ok (x, r)
  item_reads x r o st = reads x r o.0 o.1 st

  item_stops : (i : Input) → Stops (below l) (piece_for (separator l) ∷ i)
  item_stops i = stops_for (below l) (separator l) i (separator_is_fixed l) (separator_tight l).0

  level_list : (xs : List PatternTree) (r : Input) → list_all (fits (below l)) xs ≡ true → deepest (map nesting xs) ≤ n → 0 < length xs → Stops (height l) r
      → level_of l item (join (piece_for (separator l)) (map spelling xs) ++ r) ≡ Ok (joined l xs, r)
  unfolding level_of
  level_list xs r all deep some st =
      let parts : List Piece = join (piece_for (separator l)) (map spelling xs) in
      let each = each_pattern (below l) n xs all deep in
      let long : length xs ≤ length parts = join_long item (PatternOk (below l) n) spelling (separator l) (separator_is_fixed l) (Stops (below l)) item_stops item_reads xs (λ y o. long_tree y (both_true _ _ o.0).1) each in
      let turns : length xs ≤ length (parts ++ r) = omega (arith, length-append parts r) in
      let low = separator_tight l in
      let under = below_the_height l in
      let chained = chain_complete item (PatternOk (below l) n) spelling (separator l) (separator_is_fixed l) (Stops (below l)) item_stops item_reads (length (parts ++ r)) [] xs r each some turns
      (omega arith) (stops_other (separator l) (height l) r low.1 st) in
      rw chained refl

  level_one : (t : PatternTree) (r : Input) → fits (below l) t ≡ true → nesting t ≤ n → Stops (height l) r → level_of l item (spelling t ++ r) ≡ Ok (t, r)
  level_one t r f d st =
      ap (level_of l item) (ap (λ z. z ++ r) (sym (append-nil (spelling t))))
      ∙ level_list (t ∷ []) r (and_both _ _ f refl) (omega arith) (omega arith) st
      ∙ ap (λ z. let y : Outcome PatternTree = Ok (z, r) in y) (joined_one l t)

  level_node : (xs : List PatternTree) (t : PatternTree) (r : Input) → spelling t ≡ join (piece_for (separator l)) (map spelling xs) → t ≡ node l xs
      → (1 < length xs) × (list_all (fits (below l)) xs ≡ true) → deepest (map nesting xs) ≤ n → Stops (height l) r → level_of l item (spelling t ++ r) ≡ Ok (t, r)
  level_node xs t r spells is ok deep st =
      ap (λ z. level_of l item (z ++ r)) spells
      ∙ level_list xs r ok.1 deep (let some = ok.0 in omega arith) st
      ∙ ap (λ z. let y : Outcome PatternTree = Ok (z, r) in y) (joined_node l xs ok.0 ∙ sym is)

abbrev LevelLayer : Level → ℕ → Parser PatternTree → PatternTree-F PatternTree → Type 0
LevelLayer l n item x = CompleteAt (below l) n item → (r : Input) → fits (height l) (roll-PatternTree x) ≡ true → nesting (roll-PatternTree x) ≤ n → Stops (height l) r → level_of l item (spelling (roll-PatternTree x) ++ r) ≡ Ok (roll-PatternTree x, r)

both_by_layer : (n : ℕ) (item : Parser PatternTree) (x : PatternTree-F PatternTree) → LevelLayer level.Both n item x
both_by_layer n item (one.Either xs) reads r f d st = absurd (let bad = rank_within 3 5 _ _ (grade_roll (one.Either xs)) f in cc)
both_by_layer n item (one.Chain xs) reads r f d st = absurd (let bad = rank_within 3 4 _ _ (grade_roll (one.Chain xs)) f in cc)
both_by_layer n item (one.Both xs) reads r f d st =
    let e = nesting_roll (one.Both xs) in
    let deep : deepest (map nesting xs) ≤ n = omega (arith, e, d) in
    level_node level.Both item n reads xs (roll-PatternTree (one.Both xs)) r (spelling_roll (one.Both xs)) (p.rolls-Both xs) (several 2 xs (layered_within 3 3 _ _ (grade_roll (one.Both xs)) f)) deep st
both_by_layer n item (one.Labelled w x) reads r f d st = level_one level.Both item n reads (roll-PatternTree (one.Labelled w x)) r (lower 3 2 2 _ _ (grade_roll (one.Labelled w x)) refl f) d st
both_by_layer n item (one.Loose x) reads r f d st = level_one level.Both item n reads (roll-PatternTree (one.Loose x)) r (lower 3 2 1 _ _ (grade_roll (one.Loose x)) refl f) d st
both_by_layer n item (one.Group y) reads r f d st = level_one level.Both item n reads (roll-PatternTree (one.Group y)) r (lower 3 2 0 _ _ (grade_roll (one.Group y)) refl f) d st
both_by_layer n item one.Empty reads r f d st = level_one level.Both item n reads (roll-PatternTree one.Empty) r (lower 3 2 0 _ _ (grade_roll one.Empty) refl f) d st
both_by_layer n item (one.Word w) reads r f d st = level_one level.Both item n reads (roll-PatternTree (one.Word w)) r (lower 3 2 0 _ _ (grade_roll (one.Word w)) refl f) d st
both_by_layer n item (one.Limit w q v) reads r f d st = level_one level.Both item n reads (roll-PatternTree (one.Limit w q v)) r (lower 3 2 0 _ _ (grade_roll (one.Limit w q v)) refl f) d st
both_by_layer n item (one.Apply w xs) reads r f d st = level_one level.Both item n reads (roll-PatternTree (one.Apply w xs)) r (lower 3 2 0 _ _ (grade_roll (one.Apply w xs)) refl f) d st

chain_by_layer : (n : ℕ) (item : Parser PatternTree) (x : PatternTree-F PatternTree) → LevelLayer level.Chain n item x
chain_by_layer n item (one.Either xs) reads r f d st = absurd (let bad = rank_within 4 5 _ _ (grade_roll (one.Either xs)) f in cc)
chain_by_layer n item (one.Chain xs) reads r f d st =
    let e = nesting_roll (one.Chain xs) in
    let deep : deepest (map nesting xs) ≤ n = omega (arith, e, d) in
    level_node level.Chain item n reads xs (roll-PatternTree (one.Chain xs)) r (spelling_roll (one.Chain xs)) (p.rolls-Chain xs) (several 3 xs (layered_within 4 4 _ _ (grade_roll (one.Chain xs)) f)) deep st
chain_by_layer n item (one.Both xs) reads r f d st = level_one level.Chain item n reads (roll-PatternTree (one.Both xs)) r (lower 4 3 3 _ _ (grade_roll (one.Both xs)) refl f) d st
chain_by_layer n item (one.Labelled w x) reads r f d st = level_one level.Chain item n reads (roll-PatternTree (one.Labelled w x)) r (lower 4 3 2 _ _ (grade_roll (one.Labelled w x)) refl f) d st
chain_by_layer n item (one.Loose x) reads r f d st = level_one level.Chain item n reads (roll-PatternTree (one.Loose x)) r (lower 4 3 1 _ _ (grade_roll (one.Loose x)) refl f) d st
chain_by_layer n item (one.Group y) reads r f d st = level_one level.Chain item n reads (roll-PatternTree (one.Group y)) r (lower 4 3 0 _ _ (grade_roll (one.Group y)) refl f) d st
chain_by_layer n item one.Empty reads r f d st = level_one level.Chain item n reads (roll-PatternTree one.Empty) r (lower 4 3 0 _ _ (grade_roll one.Empty) refl f) d st
chain_by_layer n item (one.Word w) reads r f d st = level_one level.Chain item n reads (roll-PatternTree (one.Word w)) r (lower 4 3 0 _ _ (grade_roll (one.Word w)) refl f) d st
chain_by_layer n item (one.Limit w q v) reads r f d st = level_one level.Chain item n reads (roll-PatternTree (one.Limit w q v)) r (lower 4 3 0 _ _ (grade_roll (one.Limit w q v)) refl f) d st
chain_by_layer n item (one.Apply w xs) reads r f d st = level_one level.Chain item n reads (roll-PatternTree (one.Apply w xs)) r (lower 4 3 0 _ _ (grade_roll (one.Apply w xs)) refl f) d st

either_by_layer : (n : ℕ) (item : Parser PatternTree) (x : PatternTree-F PatternTree) → LevelLayer level.Either n item x
either_by_layer n item (one.Either xs) reads r f d st =
    let e = nesting_roll (one.Either xs) in
    let deep : deepest (map nesting xs) ≤ n = omega (arith, e, d) in
    level_node level.Either item n reads xs (roll-PatternTree (one.Either xs)) r (spelling_roll (one.Either xs)) (p.rolls-Either xs) (several 4 xs (layered_within 5 5 _ _ (grade_roll (one.Either xs)) f)) deep st
either_by_layer n item (one.Chain xs) reads r f d st = level_one level.Either item n reads (roll-PatternTree (one.Chain xs)) r (lower 5 4 4 _ _ (grade_roll (one.Chain xs)) refl f) d st
either_by_layer n item (one.Both xs) reads r f d st = level_one level.Either item n reads (roll-PatternTree (one.Both xs)) r (lower 5 4 3 _ _ (grade_roll (one.Both xs)) refl f) d st
either_by_layer n item (one.Labelled w x) reads r f d st = level_one level.Either item n reads (roll-PatternTree (one.Labelled w x)) r (lower 5 4 2 _ _ (grade_roll (one.Labelled w x)) refl f) d st
either_by_layer n item (one.Loose x) reads r f d st = level_one level.Either item n reads (roll-PatternTree (one.Loose x)) r (lower 5 4 1 _ _ (grade_roll (one.Loose x)) refl f) d st
either_by_layer n item (one.Group y) reads r f d st = level_one level.Either item n reads (roll-PatternTree (one.Group y)) r (lower 5 4 0 _ _ (grade_roll (one.Group y)) refl f) d st
either_by_layer n item one.Empty reads r f d st = level_one level.Either item n reads (roll-PatternTree one.Empty) r (lower 5 4 0 _ _ (grade_roll one.Empty) refl f) d st
either_by_layer n item (one.Word w) reads r f d st = level_one level.Either item n reads (roll-PatternTree (one.Word w)) r (lower 5 4 0 _ _ (grade_roll (one.Word w)) refl f) d st
either_by_layer n item (one.Limit w q v) reads r f d st = level_one level.Either item n reads (roll-PatternTree (one.Limit w q v)) r (lower 5 4 0 _ _ (grade_roll (one.Limit w q v)) refl f) d st
either_by_layer n item (one.Apply w xs) reads r f d st = level_one level.Either item n reads (roll-PatternTree (one.Apply w xs)) r (lower 5 4 0 _ _ (grade_roll (one.Apply w xs)) refl f) d st

level_by_layer : (l : Level) (n : ℕ) (item : Parser PatternTree) (x : PatternTree-F PatternTree) → LevelLayer l n item x
level_by_layer level.Both = both_by_layer
level_by_layer level.Chain = chain_by_layer
level_by_layer level.Either = either_by_layer

level_complete : (l : Level) (n : ℕ) (item : Parser PatternTree) → CompleteAt (below l) n item → CompleteAt (height l) n (level_of l item)
level_complete l n item reads t r =
    subst (λ u. fits (height l) u ≡ true → nesting u ≤ n → Stops (height l) r → level_of l item (spelling u ++ r) ≡ Ok (u, r)) (roll-out-PatternTree t) (level_by_layer l n item (out-PatternTree t) reads r)

-- A layered tree is read back from what it unparses to, whatever stops it.
pub pattern_complete : (n m : ℕ) → suc m ≤ n → CompleteAt 5 m (pattern_at n)
unfolding pattern_at at_level
pattern_complete zero m h t r f d st = absurd (omega arith)
pattern_complete (suc n) m h t r f d st =
    let posts = post_complete (pattern_at n) (arguments_at n) n (pattern_complete n) (arguments_complete n) in
    let boths = level_complete level.Both n (post (pattern_at n) (arguments_at n)) posts in
    let chains = level_complete level.Chain n (level_of level.Both (post (pattern_at n) (arguments_at n))) boths in
    level_complete level.Either n (level_of level.Chain (level_of level.Both (post (pattern_at n) (arguments_at n)))) chains t r f (omega arith) st

pub stops_at_end : Stops 5 []
unfolding ahead
stops_at_end = omega arith
