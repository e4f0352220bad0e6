-- How deep brackets stand in what a tree unparses to. What other files cite:
--
--   depth_after d s         how many brackets are open behind the lexemes s, where d are open before them
--   is_shallow d s          no bracket of s opens inside 64 others, where d are open before it
--   Nests n s               s leaves as many brackets open as there were, and where d ≤ 64 are open before s and s is shallow, d + n ≤ 64
--
--   shallow_pieces          nest_fault text ls ≡ None → is_shallow 0 (pieces text ls) ≡ true
--   shallow_front           is_shallow d (u ++ v) ≡ true → is_shallow d u ≡ true
--   shallow_behind          is_shallow d (u ++ v) ≡ true → is_shallow (depth_after d u) v ≡ true
--   depth_append            depth_after d (u ++ v) ≡ depth_after (depth_after d u) v
--   depth_small             d ≤ 64 → is_shallow d u ≡ true → depth_after d u ≤ 64
--
--   nests_nil, nests_flat, nests_append, nests_bracket, nests_join, nests_fewer      Nests of a whole from Nests of its parts
--   flat_word, flat_number, flat_text, flat_for                                      lexemes that are no brackets
--   pattern_nests           Nests (nesting t) (spelling t)
--   value_nests, argument_nests
--
--   nests_within            Nests n s → is_shallow 0 (u ++ (s ++ r)) ≡ true → depth_after 0 u + n ≤ 64
--   pattern_within          is_shallow 0 (u ++ (spelling t ++ r)) ≡ true → depth_after 0 u + nesting t ≤ 64
--   pattern_level           depth_after d (spelling t) ≡ d
use Rattle.std.proofs.Common.{◌≡◌, ℕ, suc, ◌+◌, ◌-◌, ◌≤◌, Bool, true, false, List, [], ◌∷◌, ◌++◌, refl, ap, ◌∙◌, subst, arith, Some, None}
use Rattle.std.specs.Prelude.{◌&&◌, not, if◌then◌else◌, map, nat_le, max}
use Rattle.std.proofs.lemmas.Bool.Decides.{nat_tests}
use Rattle.sled_lexer.specs.declared.Kind.TheVariants as kind
use Rattle.sled_lexer.specs.declared.Lexeme.{Lexeme}
use Rattle.sled_parser.specs.declared.class.Class.{Class}
use Rattle.sled_parser.specs.declared.class.Class.TheVariants as class
use Rattle.sled_parser.specs.declared.tree.PatternTree.{PatternTree, roll-PatternTree, map-PatternTree, ind-PatternTree}
use Rattle.sled_parser.specs.declared.tree.PatternTree.TheOpen.{PatternTree-F}
use Rattle.sled_parser.specs.declared.tree.PatternTree.TheOpen as one
use Rattle.sled_parser.specs.declared.tree.ArgumentTree.{ArgumentTree, roll-ArgumentTree, map-ArgumentTree, ind-ArgumentTree}
use Rattle.sled_parser.specs.declared.tree.ArgumentTree.TheOpen.{ArgumentTree-F}
use Rattle.sled_parser.specs.declared.tree.ArgumentTree.TheOpen as arg
use Rattle.sled_parser.specs.declared.tree.RelationTree.{RelationTree}
use Rattle.sled_parser.specs.declared.tree.RelationTree.TheVariants as relation
use Rattle.sled_parser.specs.declared.tree.ValueTree.{ValueTree}
use Rattle.sled_parser.specs.declared.tree.ValueTree.TheVariants as value
use Rattle.sled_parser.specs.Pieces.{Piece, Input, piece, pieces, word_class}
use Rattle.sled_parser.specs.Trees.{piece_for, word, number, followed, join, relation_piece, value_spelling, argument_spelling, spelling, deepest, nesting, argument_nesting}
use Rattle.sled_parser.specs.Nesting.{opens, closes, depth_behind, too_deep, class_at, nest_fault, nest_fault_from}
use Rattle.sled_parser.proofs.ClassLaws.{is_fixed, class_for, is_word_class, word_class_is}
use Rattle.sled_parser.proofs.Sound.{both_true, and_both}
use Rattle.sled_parser.proofs.TreeLaws.{spelling_roll, nesting_roll, argument_roll, argument_nesting_roll}

unfoldable pub depth_after : ℕ → Input → ℕ
depth_after d [] = d
depth_after d (q ∷ i) = depth_after (depth_behind d (class_at q)) i

unfoldable pub is_shallow : ℕ → Input → Bool
is_shallow d [] = true
is_shallow d (q ∷ i) = not (too_deep d (class_at q)) && is_shallow (depth_behind d (class_at q)) i

pub record Nests (n : ℕ) (s : Input) : Type 0 where
  pub level : (d : ℕ) → depth_after d s ≡ d
  pub within : (d : ℕ) → d ≤ 64 → is_shallow d s ≡ true → d + n ≤ 64

-- ---- lists of lexemes

fault_case : (text : List ℕ) (d : ℕ) (l : Lexeme) (ls : List Lexeme) (b : Bool)
    → (if b then Some l.span.start else nest_fault_from text (depth_behind d (class_at (piece text l))) ls) ≡ None
    → (b ≡ false) × (nest_fault_from text (depth_behind d (class_at (piece text l))) ls ≡ None)
fault_case text d l ls true e = absurd cc
fault_case text d l ls false e = (refl, e)

pub shallow_from : (text : List ℕ) (d : ℕ) (ls : List Lexeme) → nest_fault_from text d ls ≡ None → is_shallow d (pieces text ls) ≡ true
unfolding nest_fault_from is_shallow
shallow_from text d [] e = refl
shallow_from text d (l ∷ ls) e =
    let r = fault_case text d l ls (too_deep d (class_at (piece text l))) e in
    and_both _ _ (ap not r.0) (shallow_from text (depth_behind d (class_at (piece text l))) ls r.1)

pub shallow_pieces : (text : List ℕ) (ls : List Lexeme) → nest_fault text ls ≡ None → is_shallow 0 (pieces text ls) ≡ true
shallow_pieces text ls e = shallow_from text 0 ls e

pub depth_append : (d : ℕ) (u v : Input) → depth_after d (u ++ v) ≡ depth_after (depth_after d u) v
unfolding depth_after
depth_append d [] v = refl
depth_append d (q ∷ u) v = depth_append (depth_behind d (class_at q)) u v

pub shallow_front : (d : ℕ) (u v : Input) → is_shallow d (u ++ v) ≡ true → is_shallow d u ≡ true
unfolding is_shallow
shallow_front d [] v h = refl
shallow_front d (q ∷ u) v h =
    let r = both_true _ _ h in
    and_both _ _ r.0 (shallow_front (depth_behind d (class_at q)) u v r.1)

pub shallow_behind : (d : ℕ) (u v : Input) → is_shallow d (u ++ v) ≡ true → is_shallow (depth_after d u) v ≡ true
unfolding is_shallow depth_after
shallow_behind d [] v h = h
shallow_behind d (q ∷ u) v h = shallow_behind (depth_behind d (class_at q)) u v (both_true _ _ h).1

-- one lexeme
behind_small : (d : ℕ) (a b : Bool) → d ≤ 64 → not (a && nat_le 64 d) ≡ true → (if a then suc d else (if b then d - 1 else d)) ≤ 64
behind_small d true b le h = grind (arith, nat_tests)
behind_small d false true le h = omega arith
behind_small d false false le h = le

pub depth_small : (d : ℕ) (u : Input) → d ≤ 64 → is_shallow d u ≡ true → depth_after d u ≤ 64
unfolding is_shallow depth_after too_deep depth_behind
depth_small d [] le h = le
depth_small d (q ∷ u) le h =
    let r = both_true _ _ h in
    depth_small (depth_behind d (class_at q)) u (behind_small d (opens (class_at q)) (closes (class_at q)) le r.0) r.1

-- ---- wholes from parts

pub nests_nil : Nests 0 []
unfolding depth_after
nests_nil = record { level = λ d. refl; within = λ d le h. omega arith }

pub nests_fewer : (m n : ℕ) (s : Input) → m ≤ n → Nests n s → Nests m s
nests_fewer m n s le x = record { level = x.level; within = λ d small h. omega (arith, x.within d small h) }

-- no bracket
pub record IsFlat (q : Piece) : Type 0 where
  pub opens_none : opens (class_at q) ≡ false
  pub closes_none : closes (class_at q) ≡ false

flat_behind : (d : ℕ) (q : Piece) → IsFlat q → depth_behind d (class_at q) ≡ d
unfolding depth_behind
flat_behind d q f = rw (f.opens_none, f.closes_none) refl

pub nests_flat : (n : ℕ) (q : Piece) (s : Input) → IsFlat q → Nests n s → Nests n (q ∷ s)
unfolding depth_after is_shallow
nests_flat n q s f x = record {
  level = λ d. ap (λ e. depth_after e s) (flat_behind d q f) ∙ x.level d;
  within = λ d small h. x.within d small (subst (λ e. is_shallow e s ≡ true) (flat_behind d q f) (both_true _ _ h).1);
}

pub nests_append : (m n : ℕ) (u v : Input) → Nests m u → Nests n v → Nests (max m n) (u ++ v)
nests_append m n u v x y = record {
  level = λ d. depth_append d u v ∙ ap (λ e. depth_after e v) (x.level d) ∙ y.level d;
  within = λ d small h.
      let first = x.within d small (shallow_front d u v h) in
      let second = y.within d small (subst (λ e. is_shallow e v ≡ true) (x.level d) (shallow_behind d u v h)) in
      omega (arith, first, second);
}

-- a bracket that opens, and one that closes
pub record Opens (q : Piece) : Type 0 where
  pub yes : opens (class_at q) ≡ true

pub record Closes (q : Piece) : Type 0 where
  pub opens_none : opens (class_at q) ≡ false
  pub yes : closes (class_at q) ≡ true

opens_behind : (d : ℕ) (q : Piece) → Opens q → depth_behind d (class_at q) ≡ suc d
unfolding depth_behind
opens_behind d q f = rw f.yes refl

closes_behind : (d : ℕ) (q : Piece) → Closes q → depth_behind (suc d) (class_at q) ≡ d
unfolding depth_behind
closes_behind d q f = rw (f.opens_none, f.yes) (omega arith)

not_deep : (d : ℕ) (a : Bool) → a ≡ true → not (a && nat_le 64 d) ≡ true → suc d ≤ 64
not_deep d true e h = grind (arith, nat_tests)
not_deep d false e h = absurd cc

opens_room : (d : ℕ) (q : Piece) → Opens q → not (too_deep d (class_at q)) ≡ true → suc d ≤ 64
unfolding too_deep
opens_room d q f h = not_deep d (opens (class_at q)) f.yes h

pub nests_bracket : (n : ℕ) (o c : Piece) (s : Input) → Opens o → Closes c → Nests n s → Nests (suc n) (o ∷ (s ++ c ∷ []))
unfolding depth_after is_shallow
nests_bracket n o c s f g x = record {
  level = λ d.
      ap (λ e. depth_after e (s ++ c ∷ [])) (opens_behind d o f) ∙ depth_append (suc d) s (c ∷ [])
      ∙ ap (λ e. depth_behind e (class_at c)) (x.level (suc d)) ∙ closes_behind d c g;
  within = λ d small h.
      let r = both_true _ _ h in
      let room = opens_room d o f r.0 in
      let inside = subst (λ e. is_shallow e (s ++ c ∷ []) ≡ true) (opens_behind d o f) r.1 in
      omega (arith, x.within (suc d) room (shallow_front (suc d) s (c ∷ []) inside));
}

-- lists with a mark between two

abbrev pub EachNests : List ℕ → List Input → Type 0
EachNests [] [] = Unit {0}
EachNests (n ∷ ns) (s ∷ ss) = Nests n s × EachNests ns ss
EachNests _ _ = ⊥

nests_followed : (m : Piece) → IsFlat m → (ns : List ℕ) (ss : List Input) → EachNests ns ss → Nests (deepest ns) (followed m ss)
nests_followed m f [] [] each = nests_nil
nests_followed m f [] (s ∷ ss) each = absurd each
nests_followed m f (n ∷ ns) [] each = absurd each
nests_followed m f (n ∷ ns) (s ∷ ss) each = nests_flat _ m _ f (nests_append n (deepest ns) s (followed m ss) each.0 (nests_followed m f ns ss each.1))

pub nests_join : (m : Piece) → IsFlat m → (ns : List ℕ) (ss : List Input) → EachNests ns ss → Nests (deepest ns) (join m ss)
nests_join m f [] [] each = nests_nil
nests_join m f [] (s ∷ ss) each = absurd each
nests_join m f (n ∷ ns) [] each = absurd each
nests_join m f (n ∷ ns) (s ∷ ss) each = nests_append n (deepest ns) s (followed m ss) each.0 (nests_followed m f ns ss each.1)

-- ---- lexemes

no_word_opens : (k : Class) → is_word_class k ≡ true → opens k ≡ false
no_word_opens class.Open h = absurd cc
no_word_opens class.OpenBrace h = absurd cc
no_word_opens class.OpenBracket h = absurd cc
no_word_opens _ h = refl

no_word_closes : (k : Class) → is_word_class k ≡ true → closes k ≡ false
no_word_closes class.Close h = absurd cc
no_word_closes class.CloseBrace h = absurd cc
no_word_closes class.CloseBracket h = absurd cc
no_word_closes _ h = refl

pub flat_word : (w : List ℕ) → IsFlat (word w)
flat_word w = record { opens_none = no_word_opens (word_class w) (word_class_is w); closes_none = no_word_closes (word_class w) (word_class_is w) }

pub flat_number : (n : List ℕ) → IsFlat (number n)
flat_number n = record { opens_none = refl; closes_none = refl }

pub flat_text : (t : List ℕ) → IsFlat (record { kind = kind.Text; text = t })
flat_text t = record { opens_none = refl; closes_none = refl }

pub flat_for : (k : Class) → is_fixed k ≡ true → opens k ≡ false → closes k ≡ false → IsFlat (piece_for k)
flat_for k f a b = record { opens_none = ap opens (class_for k f) ∙ a; closes_none = ap closes (class_for k f) ∙ b }

pub opens_for : (k : Class) → is_fixed k ≡ true → opens k ≡ true → Opens (piece_for k)
opens_for k f a = record { yes = ap opens (class_for k f) ∙ a }

pub closes_for : (k : Class) → is_fixed k ≡ true → opens k ≡ false → closes k ≡ true → Closes (piece_for k)
closes_for k f a b = record { opens_none = ap opens (class_for k f) ∙ a; yes = ap closes (class_for k f) ∙ b }

-- ---- values, arguments and patterns

flat_relation : (r : RelationTree) → IsFlat (relation_piece r)
flat_relation relation.Equal = flat_for class.Equal refl refl refl
flat_relation relation.Differs = flat_for class.Differs refl refl refl
flat_relation relation.Below = flat_for class.Below refl refl refl
flat_relation relation.AtMost = flat_for class.AtMost refl refl refl
flat_relation relation.Above = flat_for class.Above refl refl refl
flat_relation relation.AtLeast = flat_for class.AtLeast refl refl refl

nests_numbers : (ns : List (List ℕ)) → Nests 0 (map number ns)
nests_numbers [] = nests_nil
nests_numbers (n ∷ ns) = nests_flat 0 (number n) (map number ns) (flat_number n) (nests_numbers ns)

braced : (s : Input) → Nests 0 s → Nests 0 (piece_for class.OpenBrace ∷ (s ++ piece_for class.CloseBrace ∷ []))
braced s x = nests_fewer 0 1 _ (omega arith) (nests_bracket 0 (piece_for class.OpenBrace) (piece_for class.CloseBrace) s (opens_for class.OpenBrace refl refl) (closes_for class.CloseBrace refl refl refl) x)

pub value_nests : (v : ValueTree) → Nests 0 (value_spelling v)
value_nests (value.One n) = nests_flat 0 (number n) [] (flat_number n) nests_nil
value_nests (value.Range a b) =
    braced (number a ∷ piece_for class.To ∷ number b ∷ [])
    (nests_flat 0 (number a) _ (flat_number a) (nests_flat 0 (piece_for class.To) _ (flat_for class.To refl refl refl) (nests_flat 0 (number b) [] (flat_number b) nests_nil)))
value_nests (value.Listed ns) = braced (map number ns) (nests_numbers ns)

parenthesized : (n : ℕ) (s : Input) → Nests n s → Nests (suc n) (piece_for class.Open ∷ (s ++ piece_for class.Close ∷ []))
parenthesized n s x = nests_bracket n (piece_for class.Open) (piece_for class.Close) s (opens_for class.Open refl refl) (closes_for class.Close refl refl refl) x

applied : (w : List ℕ) (ns : List ℕ) (ss : List Input) → EachNests ns ss → Nests (suc (deepest ns)) (word w ∷ piece_for class.Open ∷ (join (piece_for class.Comma) ss ++ piece_for class.Close ∷ []))
applied w ns ss each = nests_flat _ (word w) _ (flat_word w) (parenthesized (deepest ns) _ (nests_join (piece_for class.Comma) (flat_for class.Comma refl refl refl) ns ss each))

abbrev ArgumentNests : ArgumentTree → Type 0
ArgumentNests t = Nests (argument_nesting t) (argument_spelling t)

each_inner : (es : List ((t : ArgumentTree) × ArgumentNests t)) → EachNests (map argument_nesting (map (λ e. e.0) es)) (map argument_spelling (map (λ e. e.0) es))
each_inner [] = tt
each_inner (e ∷ es) = (e.1, each_inner es)

same_nests : (m n : ℕ) (s r : Input) → m ≡ n → s ≡ r → Nests n r → Nests m s
same_nests m n s r e f x = rw (e, f) x

argument_layer : (y : ArgumentTree-F ((t : ArgumentTree) × ArgumentNests t)) → ArgumentNests (roll-ArgumentTree (map-ArgumentTree ((t : ArgumentTree) × ArgumentNests t) ArgumentTree (λ e. e.0) y))
argument_layer arg.Any = same_nests _ _ _ _ (argument_nesting_roll arg.Any) (argument_roll arg.Any) (nests_flat 0 (piece_for class.Underscore) [] (flat_for class.Underscore refl refl refl) nests_nil)
argument_layer (arg.Name w) = same_nests _ _ _ _ (argument_nesting_roll (arg.Name w)) (argument_roll (arg.Name w)) (nests_flat 0 (word w) [] (flat_word w) nests_nil)
argument_layer (arg.Inner w es) =
    let xs : List ArgumentTree = map (λ e. e.0) es in
    same_nests _ _ _ _ (argument_nesting_roll (arg.Inner w xs)) (argument_roll (arg.Inner w xs)) (applied w (map argument_nesting xs) (map argument_spelling xs) (each_inner es))

pub argument_nests : (t : ArgumentTree) → Nests (argument_nesting t) (argument_spelling t)
argument_nests = ind-ArgumentTree ArgumentNests (λ x y is. subst (λ z. ArgumentNests (roll-ArgumentTree z)) is (argument_layer y))

each_argument : (xs : List ArgumentTree) → EachNests (map argument_nesting xs) (map argument_spelling xs)
each_argument [] = tt
each_argument (x ∷ xs) = (argument_nests x, each_argument xs)

abbrev PatternNests : PatternTree → Type 0
PatternNests t = Nests (nesting t) (spelling t)

each_member : (es : List ((t : PatternTree) × PatternNests t)) → EachNests (map nesting (map (λ e. e.0) es)) (map spelling (map (λ e. e.0) es))
each_member [] = tt
each_member (e ∷ es) = (e.1, each_member es)

chained : (k : Class) → is_fixed k ≡ true → opens k ≡ false → closes k ≡ false → (es : List ((t : PatternTree) × PatternNests t))
    → Nests (deepest (map nesting (map (λ e. e.0) es))) (join (piece_for k) (map spelling (map (λ e. e.0) es)))
chained k f a b es = nests_join (piece_for k) (flat_for k f a b) _ _ (each_member es)

pattern_layer : (y : PatternTree-F ((t : PatternTree) × PatternNests t)) → PatternNests (roll-PatternTree (map-PatternTree ((t : PatternTree) × PatternNests t) PatternTree (λ e. e.0) y))
pattern_layer (one.Either es) = same_nests _ _ _ _ (nesting_roll (one.Either (map (λ e. e.0) es))) (spelling_roll (one.Either (map (λ e. e.0) es))) (chained class.Bar refl refl refl es)
pattern_layer (one.Chain es) = same_nests _ _ _ _ (nesting_roll (one.Chain (map (λ e. e.0) es))) (spelling_roll (one.Chain (map (λ e. e.0) es))) (chained class.Semicolon refl refl refl es)
pattern_layer (one.Both es) = same_nests _ _ _ _ (nesting_roll (one.Both (map (λ e. e.0) es))) (spelling_roll (one.Both (map (λ e. e.0) es))) (chained class.And refl refl refl es)
pattern_layer (one.Labelled w e) =
    same_nests _ _ _ _ (nesting_roll (one.Labelled w e.0)) (spelling_roll (one.Labelled w e.0)) (nests_flat _ (word w) _ (flat_word w) (nests_flat _ (piece_for class.Colon) _ (flat_for class.Colon refl refl refl) e.1))
pattern_layer (one.Loose e) =
    let behind = nests_flat 0 (piece_for class.Ellipsis) [] (flat_for class.Ellipsis refl refl refl) nests_nil in
    same_nests _ _ _ _ (nesting_roll (one.Loose e.0)) (spelling_roll (one.Loose e.0)) (nests_fewer (nesting e.0) (max (nesting e.0) 0) _ (omega arith) (nests_append (nesting e.0) 0 (spelling e.0) (piece_for class.Ellipsis ∷ []) e.1 behind))
pattern_layer (one.Group e) = same_nests _ _ _ _ (nesting_roll (one.Group e.0)) (spelling_roll (one.Group e.0)) (parenthesized (nesting e.0) (spelling e.0) e.1)
pattern_layer one.Empty = same_nests _ _ _ _ (nesting_roll one.Empty) (spelling_roll one.Empty) (nests_flat 0 (piece_for class.Epsilon) [] (flat_for class.Epsilon refl refl refl) nests_nil)
pattern_layer (one.Word w) = same_nests _ _ _ _ (nesting_roll (one.Word w)) (spelling_roll (one.Word w)) (nests_flat 0 (word w) [] (flat_word w) nests_nil)
pattern_layer (one.Limit w r v) =
    same_nests _ _ _ _ (nesting_roll (one.Limit w r v)) (spelling_roll (one.Limit w r v)) (nests_flat 0 (word w) _ (flat_word w) (nests_flat 0 (relation_piece r) _ (flat_relation r) (value_nests v)))
pattern_layer (one.Apply w xs) = same_nests _ _ _ _ (nesting_roll (one.Apply w xs)) (spelling_roll (one.Apply w xs)) (applied w (map argument_nesting xs) (map argument_spelling xs) (each_argument xs))

pub pattern_nests : (t : PatternTree) → Nests (nesting t) (spelling t)
pattern_nests = ind-PatternTree PatternNests (λ x y is. subst (λ z. PatternNests (roll-PatternTree z)) is (pattern_layer y))

-- ---- inside a whole text

pub nests_within : (n : ℕ) (u s r : Input) → Nests n s → is_shallow 0 (u ++ (s ++ r)) ≡ true → depth_after 0 u + n ≤ 64
nests_within n u s r x h =
    let small = depth_small 0 u (omega arith) (shallow_front 0 u (s ++ r) h) in
    x.within (depth_after 0 u) small (shallow_front (depth_after 0 u) s r (shallow_behind 0 u (s ++ r) h))

pub pattern_within : (u : Input) (t : PatternTree) (r : Input) → is_shallow 0 (u ++ (spelling t ++ r)) ≡ true → depth_after 0 u + nesting t ≤ 64
pattern_within u t r h = nests_within (nesting t) u (spelling t) r (pattern_nests t) h

pub pattern_level : (d : ℕ) (t : PatternTree) → depth_after d (spelling t) ≡ d
pattern_level d t = (pattern_nests t).level d
