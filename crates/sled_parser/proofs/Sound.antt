-- What a rule reads is layered, and is what its tree unparses to.
use Rattle.std.proofs.Common.{◌≡◌, ℕ, zero, suc, ◌<◌, ◌≤◌, Bool, true, false, List, [], ◌∷◌, ◌++◌, length, refl, ap, sym, ◌∙◌, subst, arith, append_assoc, append-nil, Ok, Err, Some, None}
use Rattle.std.specs.Prelude.{◌&&◌, if◌then◌else◌, map, nat_le, nat_lt}
use Rattle.std.specs.List.{list_all}
use Rattle.std.proofs.lemmas.Bool.Decides.{nat_tests}
use Rattle.sled_parser.specs.declared.class.Class.{Class}
use Rattle.sled_parser.specs.declared.class.Class.TheVariants as class
use Rattle.sled_parser.specs.declared.pattern.Level.{Level}
use Rattle.sled_parser.specs.declared.pattern.Level.TheVariants as level
use Rattle.sled_parser.specs.declared.tree.PatternTree.{PatternTree}
use Rattle.sled_parser.specs.declared.tree.PatternTree.TheVariants as p
use Rattle.sled_parser.specs.declared.tree.ArgumentTree.{ArgumentTree}
use Rattle.sled_parser.specs.declared.tree.ArgumentTree.TheVariants as argument
use Rattle.sled_parser.specs.declared.tree.RelationTree.{RelationTree}
use Rattle.sled_parser.specs.declared.tree.RelationTree.TheVariants as relation
use Rattle.sled_parser.specs.declared.tree.ValueTree.{ValueTree}
use Rattle.sled_parser.specs.declared.tree.ValueTree.TheVariants as value
use Rattle.sled_parser.specs.Pieces.{Piece, Input, Outcome, Parser, and_then, pure, refuse, pass, sees, ahead, second, next, text_of, sees_label}
use Rattle.sled_parser.specs.Grammar.{chain_from, numbers_from, range_from, listed_from, braced, value_by, value_of, relation_of, arguments, inner, argument_by, argument_of, arguments_at, limited, unapplied, named, grouped, atom_by, atom, loose, labelled, post, separator, node, joined, level_of, member, at_level, pattern_at}
use Rattle.sled_parser.specs.Grammar as grammar
use Rattle.sled_parser.specs.Trees.{piece_for, word, number, is_name, followed, join, relation_piece, value_spelling, value_layered, argument_spelling, argument_layered, spelling, grade, members}
use Rattle.sled_parser.proofs.ClassLaws.{is_fixed, sees_fixed, sees_ahead, ahead_sees, name_ahead, number_ahead, same_true}
use Rattle.sled_parser.proofs.TreeLaws as tree

-- ---- steps

pub bind_ok : {A B : Type 0} (r : Outcome A) (f : A → Parser B) (y : B × Input) → and_then r f ≡ Ok y → (x : A × Input) × (r ≡ Ok x) × (f x.0 x.1 ≡ Ok y)
bind_ok (Ok x) f y h = (x, refl, h)
bind_ok (Err e) f y h = absurd cc

pub and_both : (x y : Bool) → x ≡ true → y ≡ true → (x && y) ≡ true
and_both x y h k = rw (h, k) refl

-- what p reads passes the test g, and is what s unparses it to
abbrev pub Sound : {A : Type 0} → Parser A → (A → Bool) → (A → List Piece) → Type 0
Sound {A} q g s = (i : Input) (x : A × Input) → q i ≡ Ok x → (g x.0 ≡ true) × (i ≡ s x.0 ++ x.1)

pass_case : (k : Class) (i : Input) (x : Unit {0} × Input) → is_fixed k ≡ true → (b : Bool) → sees k i ≡ b → (let y : Outcome (Unit {0}) = (if b then Ok (tt, next i) else Err i) in y) ≡ Ok x → i ≡ piece_for k ∷ x.1
pass_case k i x f true s e = sees_fixed k i f s ∙ ap (λ j. piece_for k ∷ j) (let t : next i ≡ x.1 = cc in t)
pass_case k i x f false s e = absurd cc

pub pass_sound : (k : Class) → is_fixed k ≡ true → (i : Input) (x : Unit {0} × Input) → pass k i ≡ Ok x → i ≡ piece_for k ∷ x.1
unfolding pass
pass_sound k f i x e = pass_case k i x f (sees k i) refl e

-- ---- chains

pub followed_join : (m : Piece) (xs : List (List Piece)) → 0 < length xs → followed m xs ≡ m ∷ join m xs
followed_join m [] some = absurd (omega arith)
followed_join m (x ∷ xs) some = refl

pub length_map : {A B : Type 0} (f : A → B) (xs : List A) → length (map f xs) ≡ length xs
length_map f [] = refl
length_map f (x ∷ xs) = ap suc (length_map f xs)

module _ {A : Type 0} (item : Parser A) (g : A → Bool) (s : A → List Piece) (k : Class) (f : is_fixed k ≡ true) (reads : Sound item g s) where
  -- the list is what was found, and what was read since
  abbrev Chained : List A → Input → List A × Input → Type 0
  Chained found i y = (xs : List A) × (y.0 ≡ found ++ xs) × (list_all g xs ≡ true) × (0 < length xs) × (i ≡ join (piece_for k) (map s xs) ++ y.1)

  chain_case : (n : ℕ) (found : List A) (i j : Input) (x : A) (y : List A × Input) → g x ≡ true → i ≡ s x ++ j
      → (b : Bool) → sees k j ≡ b → ((y : List A × Input) → chain_from item k n (found ++ x ∷ []) (next j) ≡ Ok y → Chained (found ++ x ∷ []) (next j) y)
      → (if b then chain_from item k n (found ++ x ∷ []) else pure (found ++ x ∷ [])) (if b then next j else j) ≡ Ok y → Chained found i y
  chain_case n found i j x y gx is true sees_k again e =
      let r = again y e in (
        x ∷ r.0,
        r.1 ∙ append_assoc found (x ∷ []) r.0,
        and_both _ _ gx r.2,
        omega arith,
        is ∙ ap (λ z. s x ++ z) (sees_fixed k j f sees_k ∙ ap (λ z. piece_for k ∷ z) r.4 ∙ ap (λ z. z ++ y.1) (sym (followed_join (piece_for k) (map s r.0) (omega (arith, length_map s r.0, r.3))))) ∙ sym (append_assoc (s x) (followed (piece_for k) (map s r.0)) y.1),
      )
  chain_case n found i j x y gx is false sees_k again e =
      let e0 : found ++ x ∷ [] ≡ y.0 = cc in
      let e1 : j ≡ y.1 = cc in
      (x ∷ [], sym e0, and_both _ _ gx refl, omega arith, is ∙ ap (λ z. s x ++ z) e1 ∙ ap (λ z. z ++ y.1) (sym (append-nil (s x))))

  pub chain_sound : (n : ℕ) (found : List A) (i : Input) (y : List A × Input) → chain_from item k n found i ≡ Ok y → Chained found i y
  unfolding chain_from
  chain_sound zero found i y e = absurd cc
  chain_sound (suc n) found i y e =
      let r = bind_ok (item i) _ y e in
      let t = reads i r.0 r.1 in
      chain_case n found i r.0.1 r.0.0 y t.0 t.1 (sees k r.0.1) refl (λ y. chain_sound n (found ++ r.0.0 ∷ []) (next r.0.1) y) r.2

-- ---- values

number_case : (i : Input) (x : List ℕ × Input) (b : Bool) → sees class.Number i ≡ b → (let q : Parser (List ℕ) = (if b then (λ j. Ok (text_of j, next j)) else refuse) in q) i ≡ Ok x → i ≡ number x.0 ∷ x.1
number_case i x true s e = number_ahead i (sees_ahead class.Number i s) ∙ (let a : text_of i ≡ x.0 = cc in let b : next i ≡ x.1 = cc in rw (a, b) refl)
number_case i x false s e = absurd cc

pub number_sound : (i : Input) (x : List ℕ × Input) → grammar.number i ≡ Ok x → i ≡ number x.0 ∷ x.1
unfolding grammar.number
number_sound i x e = number_case i x (sees class.Number i) refl e

numbers_case : (n : ℕ) (found : List (List ℕ)) (i : Input) (y : List (List ℕ) × Input) (b : Bool) → sees class.Number i ≡ b
    → ((found : List (List ℕ)) (i : Input) (y : List (List ℕ) × Input) → numbers_from n found i ≡ Ok y → (xs : List (List ℕ)) × (y.0 ≡ found ++ xs) × (i ≡ map number xs ++ y.1))
    → (let q : Parser (List (List ℕ)) = (if b then (λ j. numbers_from n (found ++ text_of j ∷ []) (next j)) else pure found) in q) i ≡ Ok y
    → (xs : List (List ℕ)) × (y.0 ≡ found ++ xs) × (i ≡ map number xs ++ y.1)
numbers_case n found i y true s again e =
    let r = again (found ++ text_of i ∷ []) (next i) y e in
    (text_of i ∷ r.0, r.1 ∙ append_assoc found (text_of i ∷ []) r.0, number_ahead i (sees_ahead class.Number i s) ∙ ap (λ z. number (text_of i) ∷ z) r.2)
numbers_case n found i y false s again e =
    let e0 : found ≡ y.0 = cc in
    let e1 : i ≡ y.1 = cc in
    ([], sym e0 ∙ sym (append-nil found), e1)

numbers_sound : (n : ℕ) (found : List (List ℕ)) (i : Input) (y : List (List ℕ) × Input) → numbers_from n found i ≡ Ok y → (xs : List (List ℕ)) × (y.0 ≡ found ++ xs) × (i ≡ map number xs ++ y.1)
unfolding numbers_from
numbers_sound zero found i y e =
    let e0 : found ≡ y.0 = cc in
    let e1 : i ≡ y.1 = cc in
    ([], sym e0 ∙ sym (append-nil found), e1)
numbers_sound (suc n) found i y e = numbers_case n found i y (sees class.Number i) refl (numbers_sound n) e

range_sound : (first : List ℕ) (i : Input) (y : ValueTree × Input) → range_from first i ≡ Ok y
    → (value_layered y.0 ≡ true) × (piece_for class.OpenBrace ∷ number first ∷ piece_for class.To ∷ i ≡ value_spelling y.0 ++ y.1)
unfolding range_from
range_sound first i y e =
    let a = bind_ok (grammar.number i) _ y e in
    let b = bind_ok (pass class.CloseBrace a.0.1) _ y a.2 in
    let i1 = number_sound i a.0 a.1 in
    let i2 = pass_sound class.CloseBrace refl a.0.1 b.0 b.1 in
    let y0 : value.Range first a.0.0 ≡ y.0 = cc in
    let y1 : b.0.1 ≡ y.1 = cc in (
      subst (λ v. value_layered v ≡ true) y0 refl,
      rw (i1, i2, y1) (subst (λ v. piece_for class.OpenBrace ∷ number first ∷ piece_for class.To ∷ number a.0.0 ∷ piece_for class.CloseBrace ∷ y.1 ≡ value_spelling v ++ y.1) y0 refl),
    )

above_none : (n : ℕ) → nat_lt 0 (suc n) ≡ true
above_none n = grind (arith, nat_tests)

listed_sound : (first : List ℕ) (i : Input) (y : ValueTree × Input) → listed_from first i ≡ Ok y
    → (value_layered y.0 ≡ true) × (piece_for class.OpenBrace ∷ number first ∷ i ≡ value_spelling y.0 ++ y.1)
unfolding listed_from
listed_sound first i y e =
    let a = bind_ok (numbers_from (length i) (first ∷ []) i) _ y e in
    let b = bind_ok (pass class.CloseBrace a.0.1) _ y a.2 in
    let r = numbers_sound (length i) (first ∷ []) i a.0 a.1 in
    let i2 = pass_sound class.CloseBrace refl a.0.1 b.0 b.1 in
    let y0 : value.Listed a.0.0 ≡ y.0 = cc in
    let y1 : b.0.1 ≡ y.1 = cc in
    let all : value.Listed (first ∷ r.0) ≡ y.0 = ap value.Listed (sym r.1) ∙ y0 in (
      subst (λ v. value_layered v ≡ true) all (above_none (length r.0)),
      subst (λ v. piece_for class.OpenBrace ∷ number first ∷ i ≡ value_spelling v ++ y.1) all
          (ap (λ z. piece_for class.OpenBrace ∷ number first ∷ z) (r.2 ∙ ap (λ z. map number r.0 ++ z) (i2 ∙ ap (λ z. piece_for class.CloseBrace ∷ z) y1) ∙ sym (append_assoc (map number r.0) (piece_for class.CloseBrace ∷ []) y.1))),
    )

braced_case : (first : List ℕ) (j : Input) (y : ValueTree × Input) (b : Bool) → sees class.To j ≡ b
    → (if b then range_from first else listed_from first) (if b then next j else j) ≡ Ok y
    → (value_layered y.0 ≡ true) × (piece_for class.OpenBrace ∷ number first ∷ j ≡ value_spelling y.0 ++ y.1)
braced_case first j y true s e =
    let r = range_sound first (next j) y e in
    (r.0, ap (λ z. piece_for class.OpenBrace ∷ number first ∷ z) (sees_fixed class.To j refl s) ∙ r.1)
braced_case first j y false s e = listed_sound first j y e

braced_sound : (i : Input) (y : ValueTree × Input) → braced i ≡ Ok y → (value_layered y.0 ≡ true) × (piece_for class.OpenBrace ∷ i ≡ value_spelling y.0 ++ y.1)
unfolding braced
braced_sound i y e =
    let a = bind_ok (grammar.number i) _ y e in
    let r = braced_case a.0.0 a.0.1 y (sees class.To a.0.1) refl a.2 in
    (r.0, ap (λ z. piece_for class.OpenBrace ∷ z) (number_sound i a.0 a.1) ∙ r.1)

value_case : (i : Input) (y : ValueTree × Input) (b : Bool) → sees class.OpenBrace i ≡ b → value_by b (if b then next i else i) ≡ Ok y → (value_layered y.0 ≡ true) × (i ≡ value_spelling y.0 ++ y.1)
unfolding value_by
value_case i y true s e =
    let r = braced_sound (next i) y e in
    (r.0, sees_fixed class.OpenBrace i refl s ∙ r.1)
value_case i y false s e =
    let a = bind_ok (grammar.number i) _ y e in
    let y0 : value.One a.0.0 ≡ y.0 = cc in
    let y1 : a.0.1 ≡ y.1 = cc in (
      subst (λ v. value_layered v ≡ true) y0 refl,
      number_sound i a.0 a.1 ∙ rw y1 (subst (λ v. number a.0.0 ∷ y.1 ≡ value_spelling v ++ y.1) y0 refl),
    )

pub value_sound : Sound value_of value_layered value_spelling
unfolding value_of
value_sound i y e = value_case i y (sees class.OpenBrace i) refl e

-- ---- arguments

-- what stands after an opening bracket, with the closing one
abbrev pub SoundList : Parser (List ArgumentTree) → Type 0
SoundList q = (i : Input) (y : List ArgumentTree × Input) → q i ≡ Ok y → (list_all argument_layered y.0 ≡ true) × (i ≡ join (piece_for class.Comma) (map argument_spelling y.0) ++ piece_for class.Close ∷ y.1)

list_case : (item : Parser ArgumentTree) → Sound item argument_layered argument_spelling → (i : Input) (y : List ArgumentTree × Input) (b : Bool) → sees class.Close i ≡ b
    → (if b then pure [] else (λ j. and_then (chain_from item class.Comma (length j) [] j) (λ all. λ j. and_then (pass class.Close j) (λ _. pure all)))) (if b then next i else i) ≡ Ok y
    → (list_all argument_layered y.0 ≡ true) × (i ≡ join (piece_for class.Comma) (map argument_spelling y.0) ++ piece_for class.Close ∷ y.1)
list_case item reads i y true s e =
    let y0 : [] ≡ y.0 = cc in
    let y1 : next i ≡ y.1 = cc in (
      subst (λ v. list_all argument_layered v ≡ true) y0 refl,
      sees_fixed class.Close i refl s ∙ rw y1 (subst (λ v. piece_for class.Close ∷ y.1 ≡ join (piece_for class.Comma) (map argument_spelling v) ++ piece_for class.Close ∷ y.1) y0 refl),
    )
list_case item reads i y false s e =
    let a = bind_ok (chain_from item class.Comma (length i) [] i) _ y e in
    let b = bind_ok (pass class.Close a.0.1) _ y a.2 in
    let r = chain_sound item argument_layered argument_spelling class.Comma refl reads (length i) [] i a.0 a.1 in
    let i2 = pass_sound class.Close refl a.0.1 b.0 b.1 in
    let y0 : a.0.0 ≡ y.0 = cc in
    let y1 : b.0.1 ≡ y.1 = cc in
    let all : r.0 ≡ y.0 = sym r.1 ∙ y0 in (
      subst (λ v. list_all argument_layered v ≡ true) all r.2,
      subst (λ v. i ≡ join (piece_for class.Comma) (map argument_spelling v) ++ piece_for class.Close ∷ y.1) all (r.4 ∙ ap (λ z. join (piece_for class.Comma) (map argument_spelling r.0) ++ z) (i2 ∙ ap (λ z. piece_for class.Close ∷ z) y1)),
    )

list_sound : (item : Parser ArgumentTree) → Sound item argument_layered argument_spelling → SoundList (arguments item)
unfolding arguments
list_sound item reads i y e = list_case item reads i y (sees class.Close i) refl e

pub all_map : {A B : Type 0} (f : A → B) (g : B → Bool) (xs : List A) → list_all g (map f xs) ≡ list_all (λ x. g (f x)) xs
all_map f g [] = refl
all_map f g (x ∷ xs) = ap (λ b. g (f x) && b) (all_map f g xs)

inner_case : (rest : Parser (List ArgumentTree)) → SoundList rest → (w : List ℕ) → is_name w ≡ true → (i : Input) (y : ArgumentTree × Input) (b : Bool) → sees class.Open i ≡ b
    → (if b then (λ j. and_then (rest j) (λ all. pure (argument.Inner w all))) else pure (argument.Name w)) (if b then next i else i) ≡ Ok y
    → (argument_layered y.0 ≡ true) × (word w ∷ i ≡ argument_spelling y.0 ++ y.1)
inner_case rest reads w named i y true s e =
    let a = bind_ok (rest (next i)) _ y e in
    let r = reads (next i) a.0 a.1 in
    let y0 : argument.Inner w a.0.0 ≡ y.0 = cc in
    let y1 : a.0.1 ≡ y.1 = cc in (
      subst (λ v. argument_layered v ≡ true) y0 (tree.layered_Inner w a.0.0 ∙ and_both _ _ named (all_map argument_layered (λ b. b) a.0.0 ∙ r.0)),
      subst (λ v. word w ∷ i ≡ argument_spelling v ++ y.1) y0
          (ap (λ z. word w ∷ z) (sees_fixed class.Open i refl s ∙ ap (λ z. piece_for class.Open ∷ z) (r.1 ∙ ap (λ z. join (piece_for class.Comma) (map argument_spelling a.0.0) ++ piece_for class.Close ∷ z) y1 ∙ sym (append_assoc (join (piece_for class.Comma) (map argument_spelling a.0.0)) (piece_for class.Close ∷ []) y.1)))
          ∙ ap (λ z. z ++ y.1) (sym (tree.argument_Inner w a.0.0))),
    )
inner_case rest reads w named i y false s e =
    let y0 : argument.Name w ≡ y.0 = cc in
    let y1 : i ≡ y.1 = cc in (
      subst (λ v. argument_layered v ≡ true) y0 (tree.layered_Name w ∙ named),
      subst (λ v. word w ∷ i ≡ argument_spelling v ++ y.1) y0 (ap (λ z. word w ∷ z) y1 ∙ ap (λ z. z ++ y.1) (sym (tree.argument_Name w))),
    )

argument_case : (rest : Parser (List ArgumentTree)) → SoundList rest → (c : Class) (i : Input) → ahead i ≡ c → (y : ArgumentTree × Input) → argument_by rest c i ≡ Ok y → (argument_layered y.0 ≡ true) × (i ≡ argument_spelling y.0 ++ y.1)
unfolding inner
argument_case rest reads class.Underscore i s y e =
    let y0 : argument.Any ≡ y.0 = cc in
    let y1 : next i ≡ y.1 = cc in (
      subst (λ v. argument_layered v ≡ true) y0 tree.layered_Any,
      subst (λ v. i ≡ argument_spelling v ++ y.1) y0 (sees_fixed class.Underscore i refl (ahead_sees class.Underscore i s) ∙ ap (λ z. piece_for class.Underscore ∷ z) y1 ∙ ap (λ z. z ++ y.1) (sym tree.argument_Any)),
    )
argument_case rest reads class.Name i s y e =
    let t = name_ahead i s in
    let r = inner_case rest reads (text_of i) t.1 (next i) y (sees class.Open (next i)) refl e in
    (r.0, t.0 ∙ r.1)
argument_case rest reads _ i s y e = absurd cc

argument_sound : (rest : Parser (List ArgumentTree)) → SoundList rest → Sound (argument_of rest) argument_layered argument_spelling
unfolding argument_of
argument_sound rest reads i y e = argument_case rest reads (ahead i) i refl y e

pub arguments_sound : (n : ℕ) → SoundList (arguments_at n)
unfolding arguments_at
arguments_sound zero i y e = absurd cc
arguments_sound (suc n) i y e = list_sound (argument_of (arguments_at n)) (argument_sound (arguments_at n) (arguments_sound n)) i y e

-- ---- patterns

-- the tree stands at this layer or below, and its parts where the grammar has them
abbrev pub fits : ℕ → PatternTree → Bool
fits k t = nat_le (grade t).0 k && (grade t).1

abbrev pub SoundAt : ℕ → Parser PatternTree → Type 0
SoundAt k q = Sound q (fits k) spelling

pub both_true : (x y : Bool) → (x && y) ≡ true → (x ≡ true) × (y ≡ true)
both_true true true h = (refl, refl)
both_true true false h = absurd cc
both_true false y h = absurd cc

pub wider : (j k : ℕ) (t : PatternTree) → j ≤ k → fits j t ≡ true → fits k t ≡ true
wider j k t le f =
    let r = both_true _ _ f in
    let r0 : nat_le (grade t).0 j ≡ true = r.0 in
    and_both _ _ (grind (arith, nat_tests)) r.1

layered_of : (k : ℕ) (t : PatternTree) → fits k t ≡ true → (grade t).1 ≡ true
layered_of k t f = (both_true _ _ f).1

le_self : (n : ℕ) → nat_le n n ≡ true
le_self n = grind (arith, nat_tests)

above_one : (n : ℕ) → nat_lt 1 (suc (suc n)) ≡ true
above_one n = grind (arith, nat_tests)

fits_by : (k r : ℕ) (ok : Bool) (t : PatternTree) → grade t ≡ (r, ok) → nat_le r k ≡ true → ok ≡ true → fits k t ≡ true
fits_by k r ok t e le h = rw e (and_both _ _ le h)

-- from one variant to what was read
made : (k : ℕ) (t : PatternTree) (i : Input) (y : PatternTree × Input) → t ≡ y.0 → fits k t ≡ true → i ≡ spelling t ++ y.1 → (fits k y.0 ≡ true) × (i ≡ spelling y.0 ++ y.1)
made k t i y e f is = (subst (λ v. fits k v ≡ true) e f, subst (λ v. i ≡ spelling v ++ y.1) e is)

-- after a name: what begins with the name
abbrev pub SoundAfter : List ℕ → Parser PatternTree → Type 0
SoundAfter w q = (i : Input) (y : PatternTree × Input) → q i ≡ Ok y → (fits 0 y.0 ≡ true) × (word w ∷ i ≡ spelling y.0 ++ y.1)

word_made : (w : List ℕ) → is_name w ≡ true → (i : Input) (y : PatternTree × Input) → limited w None i ≡ Ok y → (fits 0 y.0 ≡ true) × (word w ∷ i ≡ spelling y.0 ++ y.1)
unfolding limited
word_made w named i y e =
    let y0 : p.Word w ≡ y.0 = cc in
    let y1 : i ≡ y.1 = cc in
    made 0 (p.Word w) (word w ∷ i) y y0 (fits_by 0 0 (is_name w) (p.Word w) (tree.grade_Word w) refl named) (ap (λ z. word w ∷ z) y1 ∙ ap (λ z. z ++ y.1) (sym (tree.spelling_Word w)))

limit_made : (w : List ℕ) → is_name w ≡ true → (r : RelationTree) (i : Input) → i ≡ relation_piece r ∷ next i → (y : PatternTree × Input) → limited w (Some r) i ≡ Ok y → (fits 0 y.0 ≡ true) × (word w ∷ i ≡ spelling y.0 ++ y.1)
unfolding limited
limit_made w named r i is y e =
    let a = bind_ok (value_of (next i)) _ y e in
    let v = value_sound (next i) a.0 a.1 in
    let y0 : p.Limit w r a.0.0 ≡ y.0 = cc in
    let y1 : a.0.1 ≡ y.1 = cc in
    made 0 (p.Limit w r a.0.0) (word w ∷ i) y y0 (fits_by 0 0 _ (p.Limit w r a.0.0) (tree.grade_Limit w r a.0.0) refl (and_both _ _ named v.0))
    (ap (λ z. word w ∷ z) (is ∙ ap (λ z. relation_piece r ∷ z) (v.1 ∙ ap (λ z. value_spelling a.0.0 ++ z) y1)) ∙ ap (λ z. z ++ y.1) (sym (tree.spelling_Limit w r a.0.0)))

unapplied_case : (w : List ℕ) → is_name w ≡ true → (c : Class) (i : Input) → ahead i ≡ c → (y : PatternTree × Input) → limited w (relation_of c) i ≡ Ok y → (fits 0 y.0 ≡ true) × (word w ∷ i ≡ spelling y.0 ++ y.1)
unapplied_case w named class.Equal i s y e = limit_made w named relation.Equal i (sees_fixed class.Equal i refl (ahead_sees class.Equal i s)) y e
unapplied_case w named class.Differs i s y e = limit_made w named relation.Differs i (sees_fixed class.Differs i refl (ahead_sees class.Differs i s)) y e
unapplied_case w named class.Below i s y e = limit_made w named relation.Below i (sees_fixed class.Below i refl (ahead_sees class.Below i s)) y e
unapplied_case w named class.AtMost i s y e = limit_made w named relation.AtMost i (sees_fixed class.AtMost i refl (ahead_sees class.AtMost i s)) y e
unapplied_case w named class.Above i s y e = limit_made w named relation.Above i (sees_fixed class.Above i refl (ahead_sees class.Above i s)) y e
unapplied_case w named class.AtLeast i s y e = limit_made w named relation.AtLeast i (sees_fixed class.AtLeast i refl (ahead_sees class.AtLeast i s)) y e
unapplied_case w named _ i s y e = word_made w named i y e

named_case : (rest : Parser (List ArgumentTree)) → SoundList rest → (w : List ℕ) → is_name w ≡ true → (i : Input) (y : PatternTree × Input) (b : Bool) → sees class.Open i ≡ b
    → (if b then (λ j. and_then (rest j) (λ all. pure (p.Apply w all))) else unapplied w) (if b then next i else i) ≡ Ok y
    → (fits 0 y.0 ≡ true) × (word w ∷ i ≡ spelling y.0 ++ y.1)
unfolding unapplied
named_case rest reads w named i y true s e =
    let a = bind_ok (rest (next i)) _ y e in
    let r = reads (next i) a.0 a.1 in
    let y0 : p.Apply w a.0.0 ≡ y.0 = cc in
    let y1 : a.0.1 ≡ y.1 = cc in
    made 0 (p.Apply w a.0.0) (word w ∷ i) y y0 (fits_by 0 0 _ (p.Apply w a.0.0) (tree.grade_Apply w a.0.0) refl (and_both _ _ named r.0))
    (ap (λ z. word w ∷ z) (sees_fixed class.Open i refl s ∙ ap (λ z. piece_for class.Open ∷ z) (r.1 ∙ ap (λ z. join (piece_for class.Comma) (map argument_spelling a.0.0) ++ piece_for class.Close ∷ z) y1 ∙ sym (append_assoc (join (piece_for class.Comma) (map argument_spelling a.0.0)) (piece_for class.Close ∷ []) y.1)))
    ∙ ap (λ z. z ++ y.1) (sym (tree.spelling_Apply w a.0.0)))
named_case rest reads w named i y false s e = unapplied_case w named (ahead i) i refl y e

group_made : (whole : Parser PatternTree) → SoundAt 5 whole → (i : Input) (y : PatternTree × Input) → grouped whole i ≡ Ok y → (fits 0 y.0 ≡ true) × (piece_for class.Open ∷ i ≡ spelling y.0 ++ y.1)
unfolding grouped
group_made whole reads i y e =
    let a = bind_ok (whole i) _ y e in
    let b = bind_ok (pass class.Close a.0.1) _ y a.2 in
    let r = reads i a.0 a.1 in
    let i2 = pass_sound class.Close refl a.0.1 b.0 b.1 in
    let y0 : p.Group a.0.0 ≡ y.0 = cc in
    let y1 : b.0.1 ≡ y.1 = cc in
    made 0 (p.Group a.0.0) (piece_for class.Open ∷ i) y y0 (fits_by 0 0 _ (p.Group a.0.0) (tree.grade_Group a.0.0) refl (layered_of 5 a.0.0 r.0))
    (ap (λ z. piece_for class.Open ∷ z) (r.1 ∙ ap (λ z. spelling a.0.0 ++ z) (i2 ∙ ap (λ z. piece_for class.Close ∷ z) y1) ∙ sym (append_assoc (spelling a.0.0) (piece_for class.Close ∷ []) y.1))
    ∙ ap (λ z. z ++ y.1) (sym (tree.spelling_Group a.0.0)))

atom_case : (whole : Parser PatternTree) (rest : Parser (List ArgumentTree)) → SoundAt 5 whole → SoundList rest → (c : Class) (i : Input) → ahead i ≡ c → (y : PatternTree × Input) → atom_by whole rest c i ≡ Ok y → (fits 0 y.0 ≡ true) × (i ≡ spelling y.0 ++ y.1)
unfolding named
atom_case whole rest reads lists class.Epsilon i s y e =
    let y0 : p.Empty ≡ y.0 = cc in
    let y1 : next i ≡ y.1 = cc in
    made 0 p.Empty i y y0 (fits_by 0 0 true p.Empty tree.grade_Empty refl refl) (sees_fixed class.Epsilon i refl (ahead_sees class.Epsilon i s) ∙ ap (λ z. piece_for class.Epsilon ∷ z) y1 ∙ ap (λ z. z ++ y.1) (sym tree.spelling_Empty))
atom_case whole rest reads lists class.Open i s y e =
    let r = group_made whole reads (next i) y e in
    (r.0, sees_fixed class.Open i refl (ahead_sees class.Open i s) ∙ r.1)
atom_case whole rest reads lists class.Name i s y e =
    let t = name_ahead i s in
    let r = named_case rest lists (text_of i) t.1 (next i) y (sees class.Open (next i)) refl e in
    (r.0, t.0 ∙ r.1)
atom_case whole rest reads lists _ i s y e = absurd cc

atom_sound : (whole : Parser PatternTree) (rest : Parser (List ArgumentTree)) → SoundAt 5 whole → SoundList rest → SoundAt 0 (atom whole rest)
unfolding atom
atom_sound whole rest reads lists i y e = atom_case whole rest reads lists (ahead i) i refl y e

loose_case : (x : PatternTree) (i j : Input) (y : PatternTree × Input) → fits 0 x ≡ true → i ≡ spelling x ++ j → (b : Bool) → sees class.Ellipsis j ≡ b
    → (let z : Outcome PatternTree = Ok ((if b then p.Loose x else x), (if b then next j else j)) in z) ≡ Ok y → (fits 1 y.0 ≡ true) × (i ≡ spelling y.0 ++ y.1)
loose_case x i j y f is true s e =
    let y0 : p.Loose x ≡ y.0 = cc in
    let y1 : next j ≡ y.1 = cc in
    made 1 (p.Loose x) i y y0 (fits_by 1 1 _ (p.Loose x) (tree.grade_Loose x) refl f)
    (is ∙ ap (λ z. spelling x ++ z) (sees_fixed class.Ellipsis j refl s ∙ ap (λ z. piece_for class.Ellipsis ∷ z) y1) ∙ sym (append_assoc (spelling x) (piece_for class.Ellipsis ∷ []) y.1) ∙ ap (λ z. z ++ y.1) (sym (tree.spelling_Loose x)))
loose_case x i j y f is false s e =
    let y0 : x ≡ y.0 = cc in
    let y1 : j ≡ y.1 = cc in
    made 1 x i y y0 (wider 0 1 x (omega arith) f) (is ∙ ap (λ z. spelling x ++ z) y1)

loose_sound : (whole : Parser PatternTree) (rest : Parser (List ArgumentTree)) → SoundAt 5 whole → SoundList rest → SoundAt 1 (loose whole rest)
unfolding loose
loose_sound whole rest reads lists i y e =
    let a = bind_ok (atom whole rest i) _ y e in
    let r = atom_sound whole rest reads lists i a.0 a.1 in
    loose_case a.0.0 i a.0.1 y r.0 r.1 (sees class.Ellipsis a.0.1) refl a.2

label_ahead : (i : Input) → sees_label i ≡ true → (i ≡ word (text_of i) ∷ piece_for class.Colon ∷ next (next i)) × (is_name (text_of i) ≡ true)
unfolding sees_label second ahead next
label_ahead [] h = absurd (let bad : class.End ≡ class.Name = same_true _ _ (both_true _ _ h).0 in cc)
label_ahead (q ∷ i) h =
    let t = name_ahead (q ∷ i) (same_true _ _ (both_true _ _ h).0) in
    let c = sees_fixed class.Colon i refl (ahead_sees class.Colon i (same_true _ _ (both_true _ _ h).1)) in
    (t.0 ∙ ap (λ z. word (text_of (q ∷ i)) ∷ z) c, t.1)

post_case : (whole : Parser PatternTree) (rest : Parser (List ArgumentTree)) → SoundAt 5 whole → SoundList rest → (i : Input) (y : PatternTree × Input) (b : Bool) → sees_label i ≡ b
    → (if b then labelled whole rest i else loose whole rest i) ≡ Ok y → (fits 2 y.0 ≡ true) × (i ≡ spelling y.0 ++ y.1)
unfolding labelled
post_case whole rest reads lists i y true s e =
    let a = bind_ok (loose whole rest (next (next i))) _ y e in
    let r = loose_sound whole rest reads lists (next (next i)) a.0 a.1 in
    let t = label_ahead i s in
    let w = text_of i in
    let y0 : p.Labelled w a.0.0 ≡ y.0 = cc in
    let y1 : a.0.1 ≡ y.1 = cc in
    made 2 (p.Labelled w a.0.0) i y y0 (fits_by 2 2 _ (p.Labelled w a.0.0) (tree.grade_Labelled w a.0.0) refl (and_both _ _ t.1 r.0))
    (t.0 ∙ ap (λ z. word w ∷ piece_for class.Colon ∷ z) (r.1 ∙ ap (λ z. spelling a.0.0 ++ z) y1) ∙ ap (λ z. z ++ y.1) (sym (tree.spelling_Labelled w a.0.0)))
post_case whole rest reads lists i y false s e =
    let r = loose_sound whole rest reads lists i y e in
    (wider 1 2 y.0 (omega arith) r.0, r.1)

post_sound : (whole : Parser PatternTree) (rest : Parser (List ArgumentTree)) → SoundAt 5 whole → SoundList rest → SoundAt 2 (post whole rest)
unfolding post
post_sound whole rest reads lists i y e = post_case whole rest reads lists i y (sees_label i) refl e

-- ---- levels

abbrev pub height : Level → ℕ
height level.Either = 5
height level.Chain = 4
height level.Both = 3

separator_fixed : (l : Level) → is_fixed (separator l) ≡ true
separator_fixed level.Either = refl
separator_fixed level.Chain = refl
separator_fixed level.Both = refl

abbrev pub below : Level → ℕ
below level.Either = 4
below level.Chain = 3
below level.Both = 2

below_height : (l : Level) → below l ≤ height l
below_height level.Either = omega arith
below_height level.Chain = omega arith
below_height level.Both = omega arith

node_spelling : (l : Level) (xs : List PatternTree) → spelling (node l xs) ≡ join (piece_for (separator l)) (map spelling xs)
node_spelling level.Either xs = tree.spelling_Either xs
node_spelling level.Chain xs = tree.spelling_Chain xs
node_spelling level.Both xs = tree.spelling_Both xs

node_grade : (l : Level) (xs : List PatternTree) → grade (node l xs) ≡ (height l, members (below l) (map grade xs))
node_grade level.Either xs = tree.grade_Either xs
node_grade level.Chain xs = tree.grade_Chain xs
node_grade level.Both xs = tree.grade_Both xs

node_fits : (l : Level) (x z : PatternTree) (xs : List PatternTree) → list_all (fits (below l)) (x ∷ z ∷ xs) ≡ true → fits (height l) (node l (x ∷ z ∷ xs)) ≡ true
node_fits l x z xs all =
    fits_by (height l) (height l) _ (node l (x ∷ z ∷ xs)) (node_grade l (x ∷ z ∷ xs)) (le_self (height l))
    (and_both _ _ (above_one _) (all_map grade (λ g. nat_le g.0 (below l) && g.1) (x ∷ z ∷ xs) ∙ all))

joined_sound : (l : Level) (xs : List PatternTree) → list_all (fits (below l)) xs ≡ true → 0 < length xs
    → (fits (height l) (joined l xs) ≡ true) × (spelling (joined l xs) ≡ join (piece_for (separator l)) (map spelling xs))
unfolding joined
joined_sound l [] all some = absurd (omega arith)
joined_sound l (x ∷ []) all some = (wider (below l) (height l) x (below_height l) (both_true _ _ all).0, sym (append-nil (spelling x)))
joined_sound l (x ∷ z ∷ xs) all some = (node_fits l x z xs all, node_spelling l (x ∷ z ∷ xs))

level_sound : (l : Level) (item : Parser PatternTree) → SoundAt (below l) item → SoundAt (height l) (level_of l item)
unfolding level_of
level_sound l item reads i y e =
    let a = bind_ok (chain_from item (separator l) (length i) [] i) _ y e in
    let r = chain_sound item (fits (below l)) spelling (separator l) (separator_fixed l) reads (length i) [] i a.0 a.1 in
    let t = joined_sound l r.0 r.2 r.3 in
    let y0 : joined l r.0 ≡ y.0 = ap (joined l) (sym r.1) ∙ (let z : joined l a.0.0 ≡ y.0 = cc in z) in
    let y1 : a.0.1 ≡ y.1 = cc in
    made (height l) (joined l r.0) i y y0 t.0 (r.4 ∙ ap (λ z. z ++ a.0.1) (sym t.1) ∙ ap (λ z. spelling (joined l r.0) ++ z) y1)

member_sound : (whole : Parser PatternTree) (rest : Parser (List ArgumentTree)) → SoundAt 5 whole → SoundList rest → (l : Level) → SoundAt (below l) (member whole rest l)
member_sound whole rest reads lists level.Both = post_sound whole rest reads lists
member_sound whole rest reads lists level.Chain = level_sound level.Both (post whole rest) (post_sound whole rest reads lists)
member_sound whole rest reads lists level.Either = level_sound level.Chain (level_of level.Both (post whole rest)) (level_sound level.Both (post whole rest) (post_sound whole rest reads lists))

-- A pattern that is read is layered, and is what its tree unparses to.
pub pattern_sound : (n : ℕ) → SoundAt 5 (pattern_at n)
unfolding pattern_at at_level
pattern_sound zero i y e = absurd cc
pattern_sound (suc n) i y e =
    level_sound level.Either (member (pattern_at n) (arguments_at n) level.Either) (member_sound (pattern_at n) (arguments_at n) (pattern_sound n) (arguments_sound n) level.Either) i y e
