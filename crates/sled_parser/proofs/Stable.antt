-- A rule decides by what it reads and by the class of the lexeme behind it, and what it read begins a tree.
use Rattle.std.proofs.Common.{◌≡◌, ℕ, zero, suc, ◌+◌, ◌<◌, ◌≤◌, Bool, true, false, List, [], ◌∷◌, ◌++◌, length, refl, ap, sym, ◌∙◌, arith, append_assoc, Ok, Err}
use Rattle.std.specs.Prelude.{if◌then◌else◌, ◌&&◌}
use Rattle.sled_parser.specs.declared.pattern.Level.{Level}
use Rattle.sled_parser.specs.declared.pattern.Level.TheVariants as level
use Rattle.sled_parser.proofs.Sound.{both_true}
use Rattle.sled_parser.specs.declared.class.Class.{Class}
use Rattle.sled_parser.specs.declared.class.Class.TheVariants as class
use Rattle.sled_parser.specs.Classes.{same_class}
use Rattle.sled_parser.specs.Pieces.{Input, Outcome, Parser, and_then, pure, refuse, pass, sees, ahead, next, text_of, class_of, second, sees_label}
use Rattle.std.proofs.Common.{Option, Some, None}
use Rattle.sled_parser.specs.declared.tree.PatternTree.{PatternTree}
use Rattle.sled_parser.specs.declared.tree.PatternTree.TheVariants as p
use Rattle.sled_parser.specs.declared.tree.ArgumentTree.{ArgumentTree}
use Rattle.sled_parser.specs.declared.tree.ArgumentTree.TheVariants as argument
use Rattle.sled_parser.specs.declared.tree.RelationTree.{RelationTree}
use Rattle.sled_parser.specs.declared.tree.ValueTree.{ValueTree}
use Rattle.sled_parser.specs.declared.tree.ValueTree.TheVariants as value
use Rattle.sled_parser.proofs.ClassLaws.{number_ahead, sees_ahead}
use Rattle.sled_parser.specs.Grammar.{chain_from, numbers_from, range_from, listed_from, braced, value_by, value_of, relation_of, arguments, inner, argument_by, argument_of, arguments_at, limited, unapplied, named, grouped, atom_by, atom, loose, labelled, post, separator, joined, level_of, member, at_level, pattern_at}
use Rattle.sled_parser.specs.Grammar as grammar
use Rattle.std.proofs.Common.{length-append}
use Rattle.std.proofs.lemmas.List.{append_cancel_right}
use Rattle.sled_parser.proofs.ClassLaws.{same_true, ahead_end, is_fixed, sees_fixed}

-- the same outcome, with another rest
abbrev pub with_rest : {A : Type 0} → Outcome A → Input → Outcome A
with_rest (Ok x) r = Ok (x.0, r)
with_rest (Err e) r = Err r

abbrev pub rest_of : {A : Type 0} → Outcome A → Input
rest_of (Ok x) = x.1
rest_of (Err e) = e

-- What was read, up to the rest; with any other rest whose next lexeme has the same class the rule answers the same.
abbrev pub Stable : {A : Type 0} → Parser A → Type 0
Stable {A} q = (i : Input) → (read : Input) × (i ≡ read ++ rest_of (q i)) × ((r : Input) → ahead r ≡ ahead (rest_of (q i)) → q (read ++ r) ≡ with_rest (q i) r)

pub stable_pure : {A : Type 0} (x : A) → Stable (pure x)
stable_pure x i = ([], refl, λ r e. refl)

pub stable_refuse : {A : Type 0} → Stable {A = A} refuse
stable_refuse i = ([], refl, λ r e. refl)

-- two rests whose next lexemes have one class, behind the same lexemes
same_ahead : (u r s : Input) → ahead r ≡ ahead s → ahead (u ++ r) ≡ ahead (u ++ s)
unfolding ahead
same_ahead [] r s e = e
same_ahead (q ∷ u) r s e = refl

bind_case : {A B : Type 0} (q : Parser A) (f : A → Parser B) → ((x : A) → Stable (f x)) → (i : Input) (o : Outcome A) → q i ≡ o
    → (u : Input) → i ≡ u ++ rest_of o → ((r : Input) → ahead r ≡ ahead (rest_of o) → q (u ++ r) ≡ with_rest o r)
    → (read : Input) × (i ≡ read ++ rest_of (and_then o f)) × ((r : Input) → ahead r ≡ ahead (rest_of (and_then o f)) → and_then (q (read ++ r)) f ≡ with_rest (and_then o f) r)
bind_case q f stable i (Err e) is u parts again = (u, parts, λ r same. ap (λ o. and_then o f) (again r same))
bind_case q f stable i (Ok x) is u parts again =
    let t = stable x.0 x.1 in (
      u ++ t.0,
      parts ∙ ap (λ z. u ++ z) t.1 ∙ sym (append_assoc u t.0 (rest_of (f x.0 x.1))),
      λ r same.
          let front : ahead (t.0 ++ r) ≡ ahead x.1 = same_ahead t.0 r (rest_of (f x.0 x.1)) same ∙ ap ahead (sym t.1) in
          ap (λ z. and_then (q z) f) (append_assoc u t.0 r) ∙ ap (λ o. and_then o f) (again (t.0 ++ r) front) ∙ t.2 r same,
    )

pub stable_bind : {A B : Type 0} (q : Parser A) (f : A → Parser B) → Stable q → ((x : A) → Stable (f x)) → Stable (λ i. and_then (q i) f)
stable_bind q f first second i =
    let t = first i in
    bind_case q f second i (q i) refl t.0 t.1 t.2

pub stable_same : {A : Type 0} (p q : Parser A) → ((i : Input) → p i ≡ q i) → Stable p → Stable q
stable_same p q same stable i =
    let t = stable i in (
      t.0,
      t.1 ∙ ap (λ o. t.0 ++ rest_of o) (same i),
      λ r e. sym (same (t.0 ++ r)) ∙ t.2 r (e ∙ sym (ap (λ o. ahead (rest_of o)) (same i))) ∙ ap (λ o. with_rest o r) (same i),
    )

-- a rule that goes by the class of the next lexeme
pub stable_peek : {A : Type 0} (f : Class → Parser A) → ((c : Class) → Stable (f c)) → Stable (λ i. f (ahead i) i)
stable_peek f each i =
    let t = each (ahead i) i in (
      t.0,
      t.1,
      λ r e.
          let front : ahead (t.0 ++ r) ≡ ahead i = same_ahead t.0 r (rest_of (f (ahead i) i)) e ∙ ap ahead (sym t.1) in
          ap (λ c. f c (t.0 ++ r)) front ∙ t.2 r e,
    )

-- a step over the next lexeme
abbrev over : Parser (Unit {0})
over i = Ok (tt, next i)

pub stable_step : Stable over
unfolding next ahead
stable_step [] = ([], refl, λ r e. ap (λ z. let y : Outcome (Unit {0}) = Ok (tt, z) in y) (next_end r e))
  where
    next_end : (r : Input) → ahead r ≡ ahead [] → next r ≡ r
    next_end r e = let z = ahead_end r e in rw z refl
stable_step (q ∷ i) = (q ∷ [], refl, λ r e. refl)

pub stable_take : Stable (λ i. let y : Outcome (List ℕ) = Ok (text_of i, next i) in y)
unfolding next text_of ahead
stable_take [] = ([], refl, λ r e. let z = ahead_end r e in rw z refl)
stable_take (q ∷ i) = (q ∷ [], refl, λ r e. refl)

stable_if : {A : Type 0} (b : Bool) (p q : Parser A) → Stable p → Stable q → Stable (if b then p else q)
stable_if true p q sp sq = sp
stable_if false p q sp sq = sq

-- takes a lexeme of the class, if it comes next, and goes on by whether it did
pub stable_eat : {A : Type 0} (k : Class) (p q : Parser A) → Stable p → Stable q → Stable (λ i. (if sees k i then p else q) (if sees k i then next i else i))
unfolding sees
stable_eat {A} k p q sp sq =
    let f : Class → Parser A = λ c. if same_class c k then (λ i. and_then (over i) (λ _. p)) else q in
    stable_same (λ i. f (ahead i) i) (λ i. (if sees k i then p else q) (if sees k i then next i else i)) (λ i. by_test (same_class (ahead i) k) i)
    (stable_peek f (λ c. stable_if (same_class c k) (λ i. and_then (over i) (λ _. p)) q (stable_bind over (λ _. p) stable_step (λ _. sp)) sq))
  where
    by_test : (b : Bool) (i : Input) → (if b then (λ j. and_then (over j) (λ _. p)) else q) i ≡ (if b then p else q) (if b then next i else i)
    by_test true i = refl
    by_test false i = refl

pub stable_pass : (k : Class) → Stable (pass k)
unfolding pass sees
stable_pass k =
    let yes : Parser (Unit {0}) = λ i. Ok (tt, next i) in
    let f : Class → Parser (Unit {0}) = λ c. if same_class c k then yes else refuse in
    stable_same (λ i. f (ahead i) i) (pass k) (λ i. by_test (same_class (ahead i) k) i) (stable_peek f (λ c. stable_if (same_class c k) yes refuse stable_step stable_refuse))
  where
    by_test : (b : Bool) (i : Input) → (let q : Parser (Unit {0}) = if b then (λ j. Ok (tt, next j)) else refuse in q) i ≡ (if b then Ok (tt, next i) else Err i)
    by_test true i = refl
    by_test false i = refl

-- ---- turns

-- a rule with turns enough
pub stable_turns : {A : Type 0} (f : ℕ → Parser A) → ((n : ℕ) → Stable (f n)) → ((n m : ℕ) (i : Input) → length i ≤ n → length i ≤ m → f n i ≡ f m i) → Stable (λ i. f (length i) i)
stable_turns f each enough i =
    let t = each (length i) i in (
      t.0,
      t.1,
      λ r e.
          let n : ℕ = length i + length (t.0 ++ r) in
          let v = each n i in
          let same : f n i ≡ f (length i) i = enough n (length i) i (omega arith) (omega arith) in
          let reads : t.0 ≡ v.0 = append_cancel_right t.0 v.0 (rest_of (f (length i) i)) (sym t.1 ∙ v.1 ∙ ap (λ o. v.0 ++ rest_of o) same) in
          enough (length (t.0 ++ r)) n (t.0 ++ r) (omega arith) (omega arith)
          ∙ ap (λ u. f n (u ++ r)) reads
          ∙ v.2 r (e ∙ sym (ap (λ o. ahead (rest_of o)) same))
          ∙ ap (λ o. with_rest o r) same,
    )

-- ---- rules

stable_chain_from : {A : Type 0} (item : Parser A) (k : Class) → Stable item → (n : ℕ) (found : List A) → Stable (chain_from item k n found)
unfolding chain_from
stable_chain_from item k stable zero found = stable_refuse
stable_chain_from item k stable (suc n) found =
    stable_bind item _ stable (λ x. stable_eat k (chain_from item k n (found ++ x ∷ [])) (pure (found ++ x ∷ [])) (stable_chain_from item k stable n (found ++ x ∷ [])) (stable_pure (found ++ x ∷ [])))

stable_number : Stable grammar.number
unfolding grammar.number sees
stable_number =
    let take : Parser (List ℕ) = λ i. Ok (text_of i, next i) in
    stable_peek (λ c. if same_class c class.Number then take else refuse) (λ c. stable_if (same_class c class.Number) take refuse stable_take stable_refuse)

stable_numbers_from : (n : ℕ) (found : List (List ℕ)) → Stable (numbers_from n found)
unfolding numbers_from sees
stable_numbers_from zero found = stable_pure found
stable_numbers_from (suc n) found =
    let take : Parser (List ℕ) = λ i. Ok (text_of i, next i) in
    let more : Parser (List (List ℕ)) = λ i. and_then (take i) (λ x. numbers_from n (found ++ x ∷ [])) in
    stable_peek (λ c. if same_class c class.Number then more else pure found)
    (λ c. stable_if (same_class c class.Number) more (pure found) (stable_bind take _ stable_take (λ x. stable_numbers_from n (found ++ x ∷ []))) (stable_pure found))

-- the rest is no longer than the input
no_longer : {A : Type 0} (q : Parser A) → Stable q → (i : Input) (x : A × Input) → q i ≡ Ok x → length x.1 ≤ length i
no_longer q stable i x e =
    let t = stable i in
    let parts : i ≡ t.0 ++ x.1 = t.1 ∙ ap (λ o. t.0 ++ rest_of o) e in
    omega (arith, ap length parts, length-append t.0 x.1)

-- more turns than lexemes change nothing
chain_step : {A : Type 0} (item : Parser A) (k : Class) (n m : ℕ) (x : A) (found : List A) (j : Input) (b : Bool) → sees k j ≡ b → is_fixed k ≡ true
    → ((j : Input) → length j ≤ n → length j ≤ m → chain_from item k n (found ++ x ∷ []) j ≡ chain_from item k m (found ++ x ∷ []) j) → length j ≤ suc n → length j ≤ suc m
    → (if b then chain_from item k n (found ++ x ∷ []) else pure (found ++ x ∷ [])) (if b then next j else j) ≡ (if b then chain_from item k m (found ++ x ∷ []) else pure (found ++ x ∷ [])) (if b then next j else j)
chain_step item k n m x found j true s f again ln lm = let e = ap length (sees_fixed k j f s) in again (next j) (omega (arith, e)) (omega (arith, e))
chain_step item k n m x found j false s f again ln lm = refl

chain_then : {A : Type 0} (item : Parser A) (k : Class) (n m : ℕ) (found : List A) (i : Input) (o : Outcome A) → item i ≡ o → Stable item → is_fixed k ≡ true
    → ((x : A) (j : Input) → length j ≤ n → length j ≤ m → chain_from item k n (found ++ x ∷ []) j ≡ chain_from item k m (found ++ x ∷ []) j) → length i ≤ suc n → length i ≤ suc m
    → and_then o (λ x j. (if sees k j then chain_from item k n (found ++ x ∷ []) else pure (found ++ x ∷ [])) (if sees k j then next j else j))
    ≡ and_then o (λ x j. (if sees k j then chain_from item k m (found ++ x ∷ []) else pure (found ++ x ∷ [])) (if sees k j then next j else j))
chain_then item k n m found i (Err e) is stable f again ln lm = refl
chain_then item k n m found i (Ok x) is stable f again ln lm =
    let short = no_longer item stable i x is in
    chain_step item k n m x.0 found x.1 (sees k x.1) refl f (again x.0) (omega arith) (omega arith)

chain_turns : {A : Type 0} (item : Parser A) (k : Class) → Stable item → is_fixed k ≡ true → item [] ≡ Err [] → (n m : ℕ) (found : List A) (i : Input) → length i ≤ n → length i ≤ m → chain_from item k n found i ≡ chain_from item k m found i
unfolding chain_from
chain_turns item k stable f none zero zero found i ln lm = refl
chain_turns item k stable f none zero (suc m) found [] ln lm = rw none refl
chain_turns item k stable f none zero (suc m) found (q ∷ i) ln lm = absurd (omega arith)
chain_turns item k stable f none (suc n) zero found [] ln lm = rw none refl
chain_turns item k stable f none (suc n) zero found (q ∷ i) ln lm = absurd (omega arith)
chain_turns item k stable f none (suc n) (suc m) found i ln lm =
    chain_then item k n m found i (item i) refl stable f (λ x j a b. chain_turns item k stable f none n m (found ++ x ∷ []) j a b) ln lm

pub stable_chain : {A : Type 0} (item : Parser A) (k : Class) → Stable item → is_fixed k ≡ true → item [] ≡ Err [] → Stable (λ i. chain_from item k (length i) [] i)
stable_chain item k stable f none =
    stable_turns (λ n. chain_from item k n []) (λ n. stable_chain_from item k stable n []) (λ n m i. chain_turns item k stable f none n m [] i)

-- ---- arguments

stable_inner : (rest : Parser (List ArgumentTree)) (w : List ℕ) → Stable rest → Stable (inner rest w)
unfolding inner
stable_inner rest w stable =
    stable_eat class.Open (λ j. and_then (rest j) (λ all. pure (argument.Inner w all))) (pure (argument.Name w)) (stable_bind rest _ stable (λ all. stable_pure (argument.Inner w all))) (stable_pure (argument.Name w))

stable_argument_by : (rest : Parser (List ArgumentTree)) → Stable rest → (c : Class) → Stable (argument_by rest c)
stable_argument_by rest stable class.Underscore = stable_bind over (λ _. pure argument.Any) stable_step (λ _. stable_pure argument.Any)
stable_argument_by rest stable class.Name = stable_bind (λ i. Ok (text_of i, next i)) (inner rest) stable_take (λ w. stable_inner rest w stable)
stable_argument_by rest stable _ = stable_refuse

stable_argument : (rest : Parser (List ArgumentTree)) → Stable rest → Stable (argument_of rest)
unfolding argument_of
stable_argument rest stable = stable_peek (argument_by rest) (stable_argument_by rest stable)

argument_none : (rest : Parser (List ArgumentTree)) → argument_of rest [] ≡ Err []
unfolding argument_of ahead
argument_none rest = refl

stable_list : (rest : Parser (List ArgumentTree)) → Stable rest → Stable (arguments (argument_of rest))
unfolding arguments
stable_list rest stable =
    let item = argument_of rest in
    let some : Parser (List ArgumentTree) = λ j. and_then (chain_from item class.Comma (length j) [] j) (λ all. λ j. and_then (pass class.Close j) (λ _. pure all)) in
    stable_eat class.Close (pure []) some (stable_pure [])
    (stable_bind (λ j. chain_from item class.Comma (length j) [] j) (λ all. λ j. and_then (pass class.Close j) (λ _. pure all)) (stable_chain item class.Comma (stable_argument rest stable) refl (argument_none rest))
    (λ all. stable_bind (pass class.Close) (λ _. pure all) (stable_pass class.Close) (λ _. stable_pure all)))

stable_arguments : (n : ℕ) → Stable (arguments_at n)
unfolding arguments_at
stable_arguments zero = stable_refuse
stable_arguments (suc n) = stable_list (arguments_at n) (stable_arguments n)

-- ---- values

number_step : (n m : ℕ) (found : List (List ℕ)) (i : Input) (b : Bool) → sees class.Number i ≡ b
    → ((found : List (List ℕ)) (j : Input) → length j ≤ n → length j ≤ m → numbers_from n found j ≡ numbers_from m found j) → length i ≤ suc n → length i ≤ suc m
    → (let q : Parser (List (List ℕ)) = (if b then (λ j. numbers_from n (found ++ text_of j ∷ []) (next j)) else pure found) in q) i ≡ (let q : Parser (List (List ℕ)) = (if b then (λ j. numbers_from m (found ++ text_of j ∷ []) (next j)) else pure found) in q) i
number_step n m found i true s again ln lm =
    let one = ap length (number_ahead i (sees_ahead class.Number i s)) in
    again (found ++ text_of i ∷ []) (next i) (omega (arith, one)) (omega (arith, one))
number_step n m found i false s again ln lm = refl

numbers_end : (m : ℕ) (found : List (List ℕ)) → numbers_from m found [] ≡ Ok (found, [])
unfolding numbers_from sees ahead same_class
numbers_end zero found = refl
numbers_end (suc m) found = refl

numbers_turns : (n m : ℕ) (found : List (List ℕ)) (i : Input) → length i ≤ n → length i ≤ m → numbers_from n found i ≡ numbers_from m found i
unfolding numbers_from
numbers_turns n m found [] ln lm = numbers_end n found ∙ sym (numbers_end m found)
numbers_turns zero m found (q ∷ i) ln lm = absurd (omega arith)
numbers_turns (suc n) zero found (q ∷ i) ln lm = absurd (omega arith)
numbers_turns (suc n) (suc m) found (q ∷ i) ln lm = number_step n m found (q ∷ i) (sees class.Number (q ∷ i)) refl (numbers_turns n m) ln lm

stable_numbers : (first : List ℕ) → Stable (λ i. numbers_from (length i) (first ∷ []) i)
stable_numbers first = stable_turns (λ n. numbers_from n (first ∷ [])) (λ n. stable_numbers_from n (first ∷ [])) (λ n m i. numbers_turns n m (first ∷ []) i)

stable_closed : {A : Type 0} (x : A) → Stable (λ j. and_then (pass class.CloseBrace j) (λ _. pure x))
stable_closed x = stable_bind (pass class.CloseBrace) (λ _. pure x) (stable_pass class.CloseBrace) (λ _. stable_pure x)

stable_range : (first : List ℕ) → Stable (range_from first)
unfolding range_from
stable_range first = stable_bind grammar.number (λ last. λ j. and_then (pass class.CloseBrace j) (λ _. pure (value.Range first last))) stable_number (λ last. stable_closed (value.Range first last))

stable_listed : (first : List ℕ) → Stable (listed_from first)
unfolding listed_from
stable_listed first = stable_bind (λ i. numbers_from (length i) (first ∷ []) i) (λ all. λ j. and_then (pass class.CloseBrace j) (λ _. pure (value.Listed all))) (stable_numbers first) (λ all. stable_closed (value.Listed all))

pub stable_value : Stable value_of
unfolding value_of value_by braced
stable_value =
    let inside : Parser ValueTree = λ j. and_then (grammar.number j) (λ first. λ j. (if sees class.To j then range_from first else listed_from first) (if sees class.To j then next j else j)) in
    let alone : Parser ValueTree = λ j. and_then (grammar.number j) (λ n. pure (value.One n)) in
    stable_eat class.OpenBrace inside alone
    (stable_bind grammar.number (λ first. λ j. (if sees class.To j then range_from first else listed_from first) (if sees class.To j then next j else j)) stable_number (λ first. stable_eat class.To (range_from first) (listed_from first) (stable_range first) (stable_listed first)))
    (stable_bind grammar.number (λ n. pure (value.One n)) stable_number (λ n. stable_pure (value.One n)))

-- ---- patterns, over values that are stable

loose_test : (x : PatternTree) (b : Bool) (i : Input) → (if b then pure (p.Loose x) else pure x) (if b then next i else i) ≡ (let y : Outcome PatternTree = Ok ((if b then p.Loose x else x), (if b then next i else i)) in y)
loose_test x true i = refl
loose_test x false i = refl

split_bool : (P : Bool → Type 0) (b : Bool) → P true → P false → P b
split_bool P true x y = x
split_bool P false x y = y

separator_is_fixed : (l : Level) → is_fixed (separator l) ≡ true
separator_is_fixed level.Either = refl
separator_is_fixed level.Chain = refl
separator_is_fixed level.Both = refl

rest_no_longer : {A : Type 0} (q : Parser A) → Stable q → (i : Input) → length (rest_of (q i)) ≤ length i
rest_no_longer q stable i = let t = stable i in omega (arith, ap length t.1, length-append t.0 (rest_of (q i)))

then_no_longer : {A B : Type 0} (o : Outcome A) (f : A → Parser B) → ((x : A) → Stable (f x)) → length (rest_of (and_then o f)) ≤ length (rest_of o)
then_no_longer (Ok x) f stable = rest_no_longer (f x.0) (stable x.0) x.1
then_no_longer (Err e) f stable = omega arith

named_nonempty : (i : Input) → ahead i ≡ class.Name → suc (length (next i)) ≡ length i
unfolding ahead next
named_nonempty [] e = absurd cc
named_nonempty (q ∷ i) e = refl

-- whether a label comes first is told by what was read and the class behind it, once a name is read
label_told : (u r s : Input) → ahead r ≡ ahead s → (u ≡ [] → ahead s ≡ class.Name → ⊥) → sees_label (u ++ s) ≡ false → sees_label (u ++ r) ≡ false
unfolding sees_label second ahead
label_told [] r s e some h = by_test (same_class (ahead r) class.Name) refl
  where
    by_test : (b : Bool) → same_class (ahead r) class.Name ≡ b → (same_class (ahead r) class.Name && same_class (second r) class.Colon) ≡ false
    by_test true t = absurd (some refl (sym e ∙ same_true (ahead r) class.Name t))
    by_test false t = rw t refl
label_told (a ∷ []) r s e some h = rw e h
label_told (a ∷ b ∷ u) r s e some h = h

post_none : (whole : Parser PatternTree) (rest : Parser (List ArgumentTree)) → post whole rest [] ≡ Err []
unfolding post loose atom sees_label second ahead same_class
post_none whole rest = refl

level_none : (l : Level) (item : Parser PatternTree) → level_of l item [] ≡ Err []
unfolding level_of chain_from
level_none l item = refl

module _ (values : Stable value_of) where
  stable_limited : (w : List ℕ) (o : Option RelationTree) → Stable (limited w o)
  unfolding limited
  stable_limited w None = stable_pure (p.Word w)
  stable_limited w (Some r) = stable_bind over (λ _. λ j. and_then (value_of j) (λ v. pure (p.Limit w r v))) stable_step (λ _. stable_bind value_of (λ v. pure (p.Limit w r v)) values (λ v. stable_pure (p.Limit w r v)))

  stable_unapplied : (w : List ℕ) → Stable (unapplied w)
  unfolding unapplied
  stable_unapplied w = stable_peek (λ c. limited w (relation_of c)) (λ c. stable_limited w (relation_of c))

  stable_named : (rest : Parser (List ArgumentTree)) (w : List ℕ) → Stable rest → Stable (named rest w)
  unfolding named
  stable_named rest w stable =
      stable_eat class.Open (λ j. and_then (rest j) (λ all. pure (p.Apply w all))) (unapplied w) (stable_bind rest _ stable (λ all. stable_pure (p.Apply w all))) (stable_unapplied w)

  stable_grouped : (whole : Parser PatternTree) → Stable whole → Stable (grouped whole)
  unfolding grouped
  stable_grouped whole stable =
      stable_bind whole (λ x. λ j. and_then (pass class.Close j) (λ _. pure (p.Group x))) stable (λ x. stable_bind (pass class.Close) (λ _. pure (p.Group x)) (stable_pass class.Close) (λ _. stable_pure (p.Group x)))

  stable_atom_by : (whole : Parser PatternTree) (rest : Parser (List ArgumentTree)) → Stable whole → Stable rest → (c : Class) → Stable (atom_by whole rest c)
  stable_atom_by whole rest sw sr class.Epsilon = stable_bind over (λ _. pure p.Empty) stable_step (λ _. stable_pure p.Empty)
  stable_atom_by whole rest sw sr class.Open = stable_bind over (λ _. grouped whole) stable_step (λ _. stable_grouped whole sw)
  stable_atom_by whole rest sw sr class.Name = stable_bind (λ i. Ok (text_of i, next i)) (named rest) stable_take (λ w. stable_named rest w sr)
  stable_atom_by whole rest sw sr _ = stable_refuse

  stable_atom : (whole : Parser PatternTree) (rest : Parser (List ArgumentTree)) → Stable whole → Stable rest → Stable (atom whole rest)
  unfolding atom
  stable_atom whole rest sw sr = stable_peek (atom_by whole rest) (stable_atom_by whole rest sw sr)

  stable_loose : (whole : Parser PatternTree) (rest : Parser (List ArgumentTree)) → Stable whole → Stable rest → Stable (loose whole rest)
  unfolding loose
  stable_loose whole rest sw sr =
      stable_bind (atom whole rest) _ (stable_atom whole rest sw sr) (λ x. stable_same
      (λ i. (if sees class.Ellipsis i then pure (p.Loose x) else pure x) (if sees class.Ellipsis i then next i else i)) _ (λ i. loose_test x (sees class.Ellipsis i) i)
      (stable_eat class.Ellipsis (pure (p.Loose x)) (pure x) (stable_pure (p.Loose x)) (stable_pure x)))

  loose_takes : (whole : Parser PatternTree) (rest : Parser (List ArgumentTree)) → Stable whole → Stable rest → (i : Input) → ahead i ≡ class.Name → length (rest_of (loose whole rest i)) < length i
  unfolding loose atom
  loose_takes whole rest sw sr i e =
      let f : PatternTree → Parser PatternTree = λ x. λ j. let y : Outcome PatternTree = Ok ((if sees class.Ellipsis j then p.Loose x else x), (if sees class.Ellipsis j then next j else j)) in y in
      let stable : (x : PatternTree) → Stable (f x) = λ x. stable_same
      (λ i. (if sees class.Ellipsis i then pure (p.Loose x) else pure x) (if sees class.Ellipsis i then next i else i)) (f x) (λ i. loose_test x (sees class.Ellipsis i) i)
      (stable_eat class.Ellipsis (pure (p.Loose x)) (pure x) (stable_pure (p.Loose x)) (stable_pure x)) in
      let short = then_no_longer (atom_by whole rest (ahead i) i) f stable in
      let name : atom_by whole rest (ahead i) i ≡ named rest (text_of i) (next i) = rw e refl in
      let less = rest_no_longer (named rest (text_of i)) (stable_named rest (text_of i) sr) (next i) in
      let one = named_nonempty i e in
      omega (arith, short, ap (λ o. length (rest_of o)) name, less, one)

  post_plain : (whole : Parser PatternTree) (rest : Parser (List ArgumentTree)) → Stable whole → Stable rest → (i : Input) → sees_label i ≡ false
      → (read : Input) × (i ≡ read ++ rest_of (post whole rest i)) × ((r : Input) → ahead r ≡ ahead (rest_of (post whole rest i)) → post whole rest (read ++ r) ≡ with_rest (post whole rest i) r)
  unfolding post
  post_plain whole rest sw sr i plain =
      let t = stable_loose whole rest sw sr i in
      let same : post whole rest i ≡ loose whole rest i = rw plain refl in
      let behind : Input = rest_of (loose whole rest i) in
      let told : (r : Input) → ahead r ≡ ahead behind → sees_label (t.0 ++ r) ≡ false = λ r e.
      label_told t.0 r behind e
      (λ none name. let at : i ≡ behind = t.1 ∙ ap (λ u. u ++ behind) none in
      let takes = loose_takes whole rest sw sr i (ap ahead at ∙ name) in absurd (omega (arith, ap length at, takes)))
      (ap sees_label (sym t.1) ∙ plain) in (
        t.0,
        t.1 ∙ ap (λ o. t.0 ++ rest_of o) (sym same),
        λ r e. let e' : ahead r ≡ ahead behind = e ∙ ap (λ o. ahead (rest_of o)) same in
            rw (told r e', plain) (t.2 r e'),
      )

  post_label : (whole : Parser PatternTree) (rest : Parser (List ArgumentTree)) → Stable whole → Stable rest → (i : Input) → sees_label i ≡ true
      → (read : Input) × (i ≡ read ++ rest_of (post whole rest i)) × ((r : Input) → ahead r ≡ ahead (rest_of (post whole rest i)) → post whole rest (read ++ r) ≡ with_rest (post whole rest i) r)
  unfolding post labelled sees_label second ahead next text_of
  post_label whole rest sw sr [] h = absurd (let bad : class.End ≡ class.Name = same_true _ _ (both_true _ _ h).0 in cc)
  post_label whole rest sw sr (a ∷ []) h = absurd (let bad : class.End ≡ class.Colon = same_true _ _ (both_true _ _ h).1 in cc)
  post_label whole rest sw sr (a ∷ b ∷ j) h =
      let f : PatternTree → Parser PatternTree = λ x. pure (p.Labelled a.text x) in
      let q : Parser PatternTree = λ i. and_then (loose whole rest i) f in
      let t = stable_bind (loose whole rest) f (stable_loose whole rest sw sr) (λ x. stable_pure (p.Labelled a.text x)) j in
      let same : (z : Input) → (if same_class (class_of a.kind a.text) class.Name && same_class (class_of b.kind b.text) class.Colon then q z else loose whole rest (a ∷ b ∷ z)) ≡ q z = λ z. rw h refl in (
        a ∷ b ∷ t.0,
        ap (λ z. a ∷ b ∷ z) (t.1 ∙ ap (λ o. t.0 ++ rest_of o) (sym (same j))),
        λ r e. same (t.0 ++ r) ∙ t.2 r (e ∙ ap (λ o. ahead (rest_of o)) (same j)) ∙ ap (λ o. with_rest o r) (sym (same j)),
      )

  stable_post : (whole : Parser PatternTree) (rest : Parser (List ArgumentTree)) → Stable whole → Stable rest → Stable (post whole rest)
  stable_post whole rest sw sr i = split_bool (λ b. sees_label i ≡ b → (read : Input) × (i ≡ read ++ rest_of (post whole rest i)) × ((r : Input) → ahead r ≡ ahead (rest_of (post whole rest i)) → post whole rest (read ++ r) ≡ with_rest (post whole rest i) r))
      (sees_label i) (post_label whole rest sw sr i) (post_plain whole rest sw sr i) refl

  stable_level : (l : Level) (item : Parser PatternTree) → Stable item → item [] ≡ Err [] → Stable (level_of l item)
  unfolding level_of
  stable_level l item stable none =
      stable_bind (λ i. chain_from item (separator l) (length i) [] i) (λ all. pure (joined l all)) (stable_chain item (separator l) stable (separator_is_fixed l) none) (λ all. stable_pure (joined l all))

  -- A pattern is told by what was read and the class of the lexeme behind it.
  pub stable_pattern : (n : ℕ) → Stable (pattern_at n)
  unfolding pattern_at at_level
  stable_pattern zero = stable_refuse
  stable_pattern (suc n) =
      let posts : Parser PatternTree = post (pattern_at n) (arguments_at n) in
      let boths : Parser PatternTree = level_of level.Both posts in
      let s0 = stable_post (pattern_at n) (arguments_at n) (stable_pattern n) (stable_arguments n) in
      let s1 = stable_level level.Both posts s0 (post_none (pattern_at n) (arguments_at n)) in
      let s2 = stable_level level.Chain boths s1 (level_none level.Both posts) in
      stable_level level.Either (level_of level.Chain boths) s2 (level_none level.Chain boths)
