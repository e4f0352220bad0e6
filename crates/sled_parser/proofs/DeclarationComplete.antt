-- What layered declarations unparse to is read as these declarations.
use Rattle.std.proofs.Common.{◌≡◌, ℕ, zero, suc, ◌<◌, ◌≤◌, Bool, true, false, List, [], ◌∷◌, ◌++◌, length, refl, ap, sym, ◌∙◌, subst, arith, append_assoc, append-nil, length-append, Ok, Option, Some, None}
use Rattle.std.specs.Prelude.{◌&&◌, map, flat_map}
use Rattle.std.specs.List.{list_all}
use Rattle.sled_parser.specs.declared.class.Class.{Class}
use Rattle.sled_parser.specs.declared.class.Class.TheVariants as class
use Rattle.sled_parser.specs.declared.tree.PatternTree.{PatternTree}
use Rattle.sled_parser.specs.declared.tree.FieldTree.{FieldTree}
use Rattle.sled_parser.specs.declared.tree.ItemTree.{ItemTree}
use Rattle.sled_parser.specs.declared.tree.ItemTree.TheVariants as item
use Rattle.sled_parser.specs.declared.tree.OperandTree.{OperandTree}
use Rattle.sled_parser.specs.declared.tree.OperandTree.TheVariants as operand
use Rattle.sled_parser.specs.declared.tree.EqTree.{EqTree}
use Rattle.sled_parser.specs.declared.tree.Section.{Section}
use Rattle.sled_parser.specs.declared.tree.Section.TheVariants as section
use Rattle.sled_parser.specs.declared.tree.Decl.{Decl}
use Rattle.sled_parser.specs.declared.tree.Decl.TheVariants as decl
use Rattle.sled_parser.specs.Pieces.{Piece, Input, Outcome, sees, ahead, next, text_of}
use Rattle.sled_parser.specs.Grammar.{pattern_at}
use Rattle.sled_parser.specs.DeclarationGrammar.{field_of, fields_of, class_of, class_decl, item_of, sees_item, items_from, listed_items, items_of, definition_at, typed, operand_after, operand_of, operands_of, result_of, constructor_with, constructor_at, definition_in, declaration_at, declarations_from, declarations_at}
use Rattle.sled_parser.specs.Trees.{piece_for, word, number, is_name, followed, join, spelling, grade, nesting}
use Rattle.sled_parser.specs.Equations.{equation_spelling, equation_layered}
use Rattle.sled_parser.specs.Declarations.{field_spelling, field_layered, item_spelling, item_layered, operand_spelling, operand_layered, little_spelling, items_spelling, items_layered, result_spelling, result_layered, equations_spelling, heading_piece, decl_spelling, decl_layered, in_patterns, in_constructors, section_after, description_spelling, layered_in, description_layered, decl_nesting, description_nesting}
use Rattle.sled_parser.proofs.ClassLaws.{same_self, sees_for, ahead_for, ahead_sees, ahead_name}
use Rattle.sled_parser.proofs.Sound.{and_both, both_true}
use Rattle.sled_parser.proofs.Complete.{Other, Each, pass_for, not_same, other_for, number_for, chain_complete, join_long, tight, Stops, rank_five, pattern_complete}
use Rattle.sled_parser.proofs.DeclarationSound.{decl_long}
use Rattle.sled_parser.proofs.EquationComplete.{or_none, name_for, name_other, many_complete, many_long, each_true, braced_equations_complete}

other_by : (k c : Class) (i : Input) → ahead i ≡ c → (c ≡ k → ⊥) → Other k i
unfolding sees
other_by k c i h no_ = rw h (not_same c k _ refl no_)

-- whatever stands behind
abbrev Anything : Input → Type 0
Anything i = Unit {0}

-- ---- classes

abbrev FieldOk : FieldTree → Type 0
FieldOk f = field_layered f ≡ true

field_complete : (f : FieldTree) (r : Input) → FieldOk f → Anything r → field_of (field_spelling f ++ r) ≡ Ok (f, r)
unfolding field_of
field_complete f r named any =
    rw (
      name_for f.name (number f.lo ∷ piece_for class.Colon ∷ number f.hi ∷ r) named,
      number_for f.lo (piece_for class.Colon ∷ number f.hi ∷ r),
      pass_for class.Colon refl (number f.hi ∷ r),
      number_for f.hi r,
    ) refl

field_begins : (f : FieldTree) (r : Input) → FieldOk f → (sees class.Name (field_spelling f ++ r) ≡ true) × Anything (field_spelling f ++ r)
field_begins f r named =
    let i : Input = number f.lo ∷ piece_for class.Colon ∷ number f.hi ∷ r in
    (ahead_sees class.Name (word f.name ∷ i) (ahead_name f.name i named), tt)

field_long : (f : FieldTree) → FieldOk f → 0 < length (field_spelling f)
field_long f named = omega arith

fields_complete : (fs : List FieldTree) (r : Input) → list_all field_layered fs ≡ true → Other class.Name r → fields_of (flat_map field_spelling fs ++ r) ≡ Ok (fs, r)
fields_complete fs r all other =
    let parts : List Piece = flat_map field_spelling fs in
    let each : Each FieldOk fs = each_true field_layered fs all in
    let long : length fs ≤ length parts = many_long (sees class.Name) field_of FieldOk field_spelling Anything field_begins field_complete fs field_long each in
    let turns : length fs ≤ length (parts ++ r) = omega (arith, length-append parts r) in
    many_complete (sees class.Name) field_of FieldOk field_spelling Anything field_begins field_complete (length (parts ++ r)) [] fs r each turns tt other

class_of_complete : (w width : List ℕ) (little : Bool) (fields : List FieldTree) (r : Input) → list_all field_layered fields ≡ true → Other class.Name r
    → class_of w (piece_for class.Open ∷ number width ∷ (little_spelling little ++ piece_for class.Close ∷ (flat_map field_spelling fields ++ r))) ≡ Ok (decl.Class w width little fields, r)
unfolding class_of next
class_of_complete w width true fields r all other =
    let i : Input = flat_map field_spelling fields ++ r in
    rw (
      pass_for class.Open refl (number width ∷ piece_for class.Little ∷ piece_for class.Close ∷ i),
      number_for width (piece_for class.Little ∷ piece_for class.Close ∷ i),
      sees_for class.Little (piece_for class.Close ∷ i) refl,
      pass_for class.Close refl i,
      fields_complete fields r all other,
    ) refl
class_of_complete w width false fields r all other =
    let i : Input = flat_map field_spelling fields ++ r in
    rw (
      pass_for class.Open refl (number width ∷ piece_for class.Close ∷ i),
      number_for width (piece_for class.Close ∷ i),
      other_for class.Little class.Close i refl (λ e. cc),
      pass_for class.Close refl i,
      fields_complete fields r all other,
    ) refl

class_complete : (w width : List ℕ) (little : Bool) (fields : List FieldTree) (r : Input) → is_name w ≡ true → list_all field_layered fields ≡ true → Other class.Name r
    → class_decl (piece_for class.Of ∷ word w ∷ piece_for class.Open ∷ number width ∷ ((little_spelling little ++ piece_for class.Close ∷ flat_map field_spelling fields) ++ r))
    ≡ Ok (decl.Class w width little fields, r)
unfolding class_decl
class_complete w width little fields r named all other =
    let i : Input = piece_for class.Open ∷ number width ∷ (little_spelling little ++ piece_for class.Close ∷ (flat_map field_spelling fields ++ r)) in
    rw (
      append_assoc (little_spelling little) (piece_for class.Close ∷ flat_map field_spelling fields) r,
      pass_for class.Of refl (word w ∷ i),
      name_for w i named,
    )
    (class_of_complete w width little fields r all other)

-- ---- definitions of patterns

abbrev ItemOk : ItemTree → Type 0
ItemOk x = item_layered x ≡ true

item_complete : (x : ItemTree) (r : Input) → ItemOk x → Anything r → item_of (item_spelling x ++ r) ≡ Ok (x, r)
unfolding item_of text_of next
item_complete (item.Name w) r named any = rw (ahead_name w r named) refl
item_complete item.Skip r named any = rw (ahead_for class.Underscore r refl) refl

item_begins : (x : ItemTree) (r : Input) → ItemOk x → (sees_item (item_spelling x ++ r) ≡ true) × Anything (item_spelling x ++ r)
item_begins (item.Name w) r named = (rw (ahead_sees class.Name (word w ∷ r) (ahead_name w r named)) refl, tt)
item_begins item.Skip r named = (rw (other_for class.Name class.Underscore r refl (λ e. cc), sees_for class.Underscore r refl) refl, tt)

item_long : (x : ItemTree) → ItemOk x → 0 < length (item_spelling x)
item_long (item.Name w) named = omega arith
item_long item.Skip named = omega arith

items_complete : (xs : List ItemTree) (r : Input) → list_all item_layered xs ≡ true → sees_item r ≡ false → items_from (flat_map item_spelling xs ++ r) ≡ Ok (xs, r)
items_complete xs r all other =
    let parts : List Piece = flat_map item_spelling xs in
    let each : Each ItemOk xs = each_true item_layered xs all in
    let long : length xs ≤ length parts = many_long sees_item item_of ItemOk item_spelling Anything item_begins item_complete xs item_long each in
    let turns : length xs ≤ length (parts ++ r) = omega (arith, length-append parts r) in
    many_complete sees_item item_of ItemOk item_spelling Anything item_begins item_complete (length (parts ++ r)) [] xs r each turns tt other

group_complete : (o : Option (List ItemTree)) (r : Input) → items_layered o ≡ true → Other class.OpenBracket r → items_of (items_spelling o ++ r) ≡ Ok (o, r)
unfolding items_of listed_items next
group_complete None r all other = rw other refl
group_complete (Some xs) r all other =
    let i : Input = flat_map item_spelling xs ++ piece_for class.CloseBracket ∷ r in
    rw (
      append_assoc (flat_map item_spelling xs) (piece_for class.CloseBracket ∷ []) r,
      sees_for class.OpenBracket i refl,
      items_complete xs (piece_for class.CloseBracket ∷ r) all (or_none _ _ (other_for class.Name class.CloseBracket r refl (λ e. cc)) (other_for class.Underscore class.CloseBracket r refl (λ e. cc))),
      pass_for class.CloseBracket refl r,
    ) refl

whole_pattern : (n m : ℕ) → suc m ≤ n → (x : PatternTree) (r : Input) → (grade x).1 ≡ true → nesting x ≤ m → Stops 5 r → pattern_at n (spelling x ++ r) ≡ Ok (x, r)
whole_pattern n m h x r layered deep st = pattern_complete n m h x r (and_both _ _ (rank_five x) layered) deep st

definition_complete : (n m : ℕ) → suc m ≤ n → (w : List ℕ) (items : Option (List ItemTree)) (x : PatternTree) (r : Input) → is_name w ≡ true → items_layered items ≡ true → (grade x).1 ≡ true → nesting x ≤ m → Stops 5 r
    → definition_at n (word w ∷ ((items_spelling items ++ piece_for class.Is ∷ spelling x) ++ r)) ≡ Ok (decl.Definition w items x, r)
unfolding definition_at
definition_complete n m h w items x r named all layered deep st =
    let i : Input = piece_for class.Is ∷ (spelling x ++ r) in
    rw (
      append_assoc (items_spelling items) (piece_for class.Is ∷ spelling x) r,
      name_for w (items_spelling items ++ i) named,
      group_complete items i all (other_for class.OpenBracket class.Is (spelling x ++ r) refl (λ e. cc)),
      pass_for class.Is refl (spelling x ++ r),
      whole_pattern n m h x r layered deep st,
    ) refl

-- ---- constructors

-- with no operand what stands behind goes on
abbrev OperandStops : Input → Type 0
OperandStops r = Other class.Bang r × Other class.Colon r

abbrev OperandOk : OperandTree → Type 0
OperandOk x = operand_layered x ≡ true

operand_complete : (x : OperandTree) (r : Input) → OperandOk x → OperandStops r → operand_of (operand_spelling x ++ r) ≡ Ok (x, r)
unfolding operand_of operand_after typed next
operand_complete (operand.Word w) r named st = rw (name_for w r named, st.0, st.1) refl
operand_complete (operand.Extended w) r named st = rw (name_for w (piece_for class.Bang ∷ r) named, sees_for class.Bang r refl) refl
operand_complete (operand.Typed w result) r named st =
    let both : (is_name w ≡ true) × (is_name result ≡ true) = both_true _ _ named in
    rw (
      name_for w (piece_for class.Colon ∷ word result ∷ r) both.0,
      other_for class.Bang class.Colon (word result ∷ r) refl (λ e. cc),
      sees_for class.Colon (word result ∷ r) refl,
      name_for result r both.1,
    ) refl

operand_other : (k : Class) (x : OperandTree) (r : Input) → OperandOk x → (class.Name ≡ k → ⊥) → Other k (operand_spelling x ++ r)
operand_other k (operand.Word w) r named no_ = name_other k w r named no_
operand_other k (operand.Extended w) r named no_ = name_other k w (piece_for class.Bang ∷ r) named no_
operand_other k (operand.Typed w result) r named no_ = name_other k w (piece_for class.Colon ∷ word result ∷ r) (both_true _ _ named).0 no_

operand_long : (x : OperandTree) → OperandOk x → 0 < length (operand_spelling x)
operand_long (operand.Word w) named = omega arith
operand_long (operand.Extended w) named = omega arith
operand_long (operand.Typed w result) named = omega arith

comma_stops : (i : Input) → OperandStops (piece_for class.Comma ∷ i)
comma_stops i = (other_for class.Bang class.Comma i refl (λ e. cc), other_for class.Colon class.Comma i refl (λ e. cc))

close_stops : (i : Input) → OperandStops (piece_for class.Close ∷ i)
close_stops i = (other_for class.Bang class.Close i refl (λ e. cc), other_for class.Colon class.Close i refl (λ e. cc))

operands_complete : (xs : List OperandTree) (r : Input) → list_all operand_layered xs ≡ true
    → operands_of (join (piece_for class.Comma) (map operand_spelling xs) ++ piece_for class.Close ∷ r) ≡ Ok (xs, r)
unfolding operands_of next
operands_complete [] r all = rw (sees_for class.Close r refl) refl
operands_complete (x ∷ xs) r all =
    let parts : List Piece = join (piece_for class.Comma) (map operand_spelling (x ∷ xs)) in
    let i : Input = parts ++ piece_for class.Close ∷ r in
    let behind : List Piece = followed (piece_for class.Comma) (map operand_spelling xs) in
    let each : Each OperandOk (x ∷ xs) = each_true operand_layered (x ∷ xs) all in
    let begins : Other class.Close i =
    subst (λ z. Other class.Close z) (sym (append_assoc (operand_spelling x) behind (piece_for class.Close ∷ r)))
    (operand_other class.Close x (behind ++ piece_for class.Close ∷ r) each.0 (λ e. cc)) in
    let long : suc (length xs) ≤ length parts = join_long operand_of OperandOk operand_spelling class.Comma refl OperandStops comma_stops operand_complete (x ∷ xs) operand_long each in
    let turns : suc (length xs) ≤ length i = omega (arith, length-append parts (piece_for class.Close ∷ r)) in
    let chained = chain_complete operand_of OperandOk operand_spelling class.Comma refl OperandStops comma_stops operand_complete (length i) [] (x ∷ xs) (piece_for class.Close ∷ r) each (omega arith) turns
    (close_stops r) (other_for class.Comma class.Close r refl (λ e. cc)) in
    rw (begins, chained, pass_for class.Close refl r) refl

result_complete : (o : Option (List ℕ)) (r : Input) → result_layered o ≡ true → Other class.Colon r → result_of (result_spelling o ++ r) ≡ Ok (o, r)
unfolding result_of next
result_complete None r named other = rw other refl
result_complete (Some w) r named other = rw (sees_for class.Colon (word w ∷ r) refl, name_for w r named) refl

no_colon : (es : List EqTree) (i : Input) → Other class.Colon (equations_spelling es ++ piece_for class.Is ∷ i)
no_colon [] i = other_for class.Colon class.Is i refl (λ e. cc)
no_colon (e ∷ es) i =
    other_for class.Colon class.OpenBrace ((join (piece_for class.Comma) (map equation_spelling (e ∷ es)) ++ piece_for class.CloseBrace ∷ []) ++ piece_for class.Is ∷ i) refl (λ e. cc)

constructor_with_complete : (n m : ℕ) → suc m ≤ n → (w : List ℕ) (operands : List OperandTree) (result : Option (List ℕ)) (equations : List EqTree) (body : PatternTree) (r : Input)
    → result_layered result ≡ true → list_all equation_layered equations ≡ true → (grade body).1 ≡ true → nesting body ≤ m → Stops 5 r
    → constructor_with n w operands (result_spelling result ++ (equations_spelling equations ++ piece_for class.Is ∷ (spelling body ++ r))) ≡ Ok (decl.ConstructorDecl w operands result equations body, r)
unfolding constructor_with
constructor_with_complete n m h w operands result equations body r named equal layered deep st =
    let i : Input = piece_for class.Is ∷ (spelling body ++ r) in
    rw (
      result_complete result (equations_spelling equations ++ i) named (no_colon equations (spelling body ++ r)),
      braced_equations_complete equations i equal (other_for class.OpenBrace class.Is (spelling body ++ r) refl (λ e. cc)),
      pass_for class.Is refl (spelling body ++ r),
      whole_pattern n m h body r layered deep st,
    ) refl

abbrev constructor_rest : Option (List ℕ) → List EqTree → PatternTree → List Piece
constructor_rest result equations body = result_spelling result ++ (equations_spelling equations ++ piece_for class.Is ∷ spelling body)

rest_spelled : (result : Option (List ℕ)) (equations : List EqTree) (body : PatternTree) (r : Input)
    → constructor_rest result equations body ++ r ≡ result_spelling result ++ (equations_spelling equations ++ piece_for class.Is ∷ (spelling body ++ r))
rest_spelled result equations body r =
    append_assoc (result_spelling result) (equations_spelling equations ++ piece_for class.Is ∷ spelling body) r
    ∙ ap (λ z. result_spelling result ++ z) (append_assoc (equations_spelling equations) (piece_for class.Is ∷ spelling body) r)

constructor_complete : (n m : ℕ) → suc m ≤ n → (w : List ℕ) (operands : List OperandTree) (result : Option (List ℕ)) (equations : List EqTree) (body : PatternTree) (r : Input)
    → is_name w ≡ true → list_all operand_layered operands ≡ true → result_layered result ≡ true → list_all equation_layered equations ≡ true → (grade body).1 ≡ true → nesting body ≤ m → Stops 5 r
    → constructor_at n (word w ∷ piece_for class.Open ∷ ((join (piece_for class.Comma) (map operand_spelling operands) ++ piece_for class.Close ∷ constructor_rest result equations body) ++ r))
    ≡ Ok (decl.ConstructorDecl w operands result equations body, r)
unfolding constructor_at
constructor_complete n m h w operands result equations body r named all typed_well equal layered deep st =
    let parts : List Piece = join (piece_for class.Comma) (map operand_spelling operands) in
    let rest : Input = result_spelling result ++ (equations_spelling equations ++ piece_for class.Is ∷ (spelling body ++ r)) in
    let i : Input = parts ++ piece_for class.Close ∷ rest in
    let same : (parts ++ piece_for class.Close ∷ constructor_rest result equations body) ++ r ≡ i =
    append_assoc parts (piece_for class.Close ∷ constructor_rest result equations body) r ∙ ap (λ z. parts ++ piece_for class.Close ∷ z) (rest_spelled result equations body r) in
    rw (
      same,
      name_for w (piece_for class.Open ∷ i) named,
      pass_for class.Open refl i,
      operands_complete operands rest all,
    )
    (constructor_with_complete n m h w operands result equations body r typed_well equal layered deep st)

-- ---- declarations

-- what may stand behind a declaration
abbrev Follows : Decl → Input → Type 0
Follows (decl.Class w width little fields) r = Other class.Name r
Follows (decl.Heading h) r = Anything r
Follows (decl.Definition w items x) r = Stops 5 r
Follows (decl.ConstructorDecl w operands result equations body) r = Stops 5 r

-- the class with which a declaration begins
abbrev begins : Decl → Class
begins (decl.Class w width little fields) = class.Fields
begins (decl.Heading section.Patterns) = class.Patterns
begins (decl.Heading section.Constructors) = class.Constructors
begins (decl.Definition w items x) = class.Name
begins (decl.ConstructorDecl w operands result equations body) = class.Name

decl_ahead : (s : Option Section) (d : Decl) (r : Input) → decl_layered s d ≡ true → ahead (decl_spelling d ++ r) ≡ begins d
decl_ahead s (decl.Class w width little fields) r layered =
    ahead_for class.Fields (piece_for class.Of ∷ word w ∷ piece_for class.Open ∷ number width ∷ ((little_spelling little ++ piece_for class.Close ∷ flat_map field_spelling fields) ++ r)) refl
decl_ahead s (decl.Heading section.Patterns) r layered = ahead_for class.Patterns r refl
decl_ahead s (decl.Heading section.Constructors) r layered = ahead_for class.Constructors r refl
decl_ahead s (decl.Definition w items x) r layered =
    let both : (in_patterns s ≡ true) × ((is_name w && (items_layered items && (grade x).1)) ≡ true) = both_true _ _ layered in
    ahead_name w ((items_spelling items ++ piece_for class.Is ∷ spelling x) ++ r) (both_true _ _ both.1).0
decl_ahead s (decl.ConstructorDecl w operands result equations body) r layered =
    let both : (in_constructors s ≡ true) × ((is_name w && (list_all operand_layered operands && (result_layered result && (list_all equation_layered equations && (grade body).1)))) ≡ true) = both_true _ _ layered in
    ahead_name w (piece_for class.Open ∷ ((join (piece_for class.Comma) (map operand_spelling operands) ++ piece_for class.Close ∷ constructor_rest result equations body) ++ r)) (both_true _ _ both.1).0

begins_tight : (d : Decl) → 5 < tight (begins d)
begins_tight (decl.Class w width little fields) = omega arith
begins_tight (decl.Heading section.Patterns) = omega arith
begins_tight (decl.Heading section.Constructors) = omega arith
begins_tight (decl.Definition w items x) = omega arith
begins_tight (decl.ConstructorDecl w operands result equations body) = omega arith

begins_not_end : (d : Decl) → begins d ≡ class.End → ⊥
begins_not_end (decl.Class w width little fields) e = cc
begins_not_end (decl.Heading section.Patterns) e = cc
begins_not_end (decl.Heading section.Constructors) e = cc
begins_not_end (decl.Definition w items x) e = cc
begins_not_end (decl.ConstructorDecl w operands result equations body) e = cc

-- no definition stands outside of a section
begins_not_name : (d : Decl) → decl_layered None d ≡ true → begins d ≡ class.Name → ⊥
begins_not_name (decl.Class w width little fields) layered e = cc
begins_not_name (decl.Heading section.Patterns) layered e = cc
begins_not_name (decl.Heading section.Constructors) layered e = cc
begins_not_name (decl.Definition w items x) layered e = cc
begins_not_name (decl.ConstructorDecl w operands result equations body) layered e = cc

declaration_of_class : (n : ℕ) (s : Option Section) (w width : List ℕ) (little : Bool) (fields : List FieldTree) (r : Input) → is_name w ≡ true → list_all field_layered fields ≡ true → Other class.Name r
    → declaration_at n s (decl_spelling (decl.Class w width little fields) ++ r) ≡ Ok (decl.Class w width little fields, r)
unfolding declaration_at next
declaration_of_class n s w width little fields r named all other =
    let i : Input = piece_for class.Of ∷ word w ∷ piece_for class.Open ∷ number width ∷ ((little_spelling little ++ piece_for class.Close ∷ flat_map field_spelling fields) ++ r) in
    rw (ahead_for class.Fields i refl) (class_complete w width little fields r named all other)

declaration_of_heading : (n : ℕ) (s : Option Section) (h : Section) (r : Input) → declaration_at n s (heading_piece h ∷ r) ≡ Ok (decl.Heading h, r)
unfolding declaration_at next
declaration_of_heading n s section.Patterns r = rw (ahead_for class.Patterns r refl) refl
declaration_of_heading n s section.Constructors r = rw (ahead_for class.Constructors r refl) refl

declaration_named : (n : ℕ) (s : Option Section) (i : Input) → ahead i ≡ class.Name → declaration_at n s i ≡ definition_in n s i
unfolding declaration_at
declaration_named n s i h = rw h refl

declaration_complete : (n m : ℕ) → suc m ≤ n → (s : Option Section) (d : Decl) (r : Input) → decl_layered s d ≡ true → decl_nesting d ≤ m → Follows d r → declaration_at n s (decl_spelling d ++ r) ≡ Ok (d, r)
declaration_complete n m h s (decl.Class w width little fields) r layered deep st =
    let both : (is_name w ≡ true) × (list_all field_layered fields ≡ true) = both_true _ _ layered in
    declaration_of_class n s w width little fields r both.0 both.1 st
declaration_complete n m h s (decl.Heading head) r layered deep st = declaration_of_heading n s head r
declaration_complete n m h None (decl.Definition w items x) r layered deep st = absurd cc
declaration_complete n m h (Some section.Constructors) (decl.Definition w items x) r layered deep st = absurd cc
declaration_complete n m h (Some section.Patterns) (decl.Definition w items x) r layered deep st =
    let a : (is_name w ≡ true) × ((items_layered items && (grade x).1) ≡ true) = both_true _ _ layered in
    let b : (items_layered items ≡ true) × ((grade x).1 ≡ true) = both_true _ _ a.1 in
    declaration_named n (Some section.Patterns) (decl_spelling (decl.Definition w items x) ++ r) (decl_ahead (Some section.Patterns) (decl.Definition w items x) r layered)
    ∙ definition_complete n m h w items x r a.0 b.0 b.1 deep st
declaration_complete n m h None (decl.ConstructorDecl w operands result equations body) r layered deep st = absurd cc
declaration_complete n m h (Some section.Patterns) (decl.ConstructorDecl w operands result equations body) r layered deep st = absurd cc
declaration_complete n m h (Some section.Constructors) (decl.ConstructorDecl w operands result equations body) r layered deep st =
    let a : (is_name w ≡ true) × ((list_all operand_layered operands && (result_layered result && (list_all equation_layered equations && (grade body).1))) ≡ true) = both_true _ _ layered in
    let b : (list_all operand_layered operands ≡ true) × ((result_layered result && (list_all equation_layered equations && (grade body).1)) ≡ true) = both_true _ _ a.1 in
    let c : (result_layered result ≡ true) × ((list_all equation_layered equations && (grade body).1) ≡ true) = both_true _ _ b.1 in
    let e : (list_all equation_layered equations ≡ true) × ((grade body).1 ≡ true) = both_true _ _ c.1 in
    declaration_named n (Some section.Constructors) (decl_spelling (decl.ConstructorDecl w operands result equations body) ++ r)
    (decl_ahead (Some section.Constructors) (decl.ConstructorDecl w operands result equations body) r layered)
    ∙ constructor_complete n m h w operands result equations body r a.0 b.0 c.0 e.0 e.1 deep st

-- ---- descriptions

stops_description : (s : Option Section) (ds : List Decl) → layered_in s ds ≡ true → Stops 5 (description_spelling ds)
unfolding ahead
stops_description s [] layered = omega arith
stops_description s (d ∷ ds) layered =
    let both : (decl_layered s d ≡ true) × (layered_in (section_after s d) ds ≡ true) = both_true _ _ layered in
    rw (decl_ahead s d (description_spelling ds) both.0) (begins_tight d)

no_name : (ds : List Decl) → layered_in None ds ≡ true → Other class.Name (description_spelling ds)
unfolding ahead
no_name [] layered = other_by class.Name class.End [] refl (λ e. cc)
no_name (d ∷ ds) layered =
    let both : (decl_layered None d ≡ true) × (layered_in (section_after None d) ds ≡ true) = both_true _ _ layered in
    other_by class.Name (begins d) (decl_spelling d ++ description_spelling ds) (decl_ahead None d (description_spelling ds) both.0) (begins_not_name d both.0)

follows : (s : Option Section) (d : Decl) (ds : List Decl) → layered_in (section_after s d) ds ≡ true → Follows d (description_spelling ds)
follows s (decl.Class w width little fields) ds layered = no_name ds layered
follows s (decl.Heading h) ds layered = tt
follows s (decl.Definition w items x) ds layered = stops_description s ds layered
follows s (decl.ConstructorDecl w operands result equations body) ds layered = stops_description s ds layered

none_left : (n turns : ℕ) (s : Option Section) (found : List Decl) → declarations_from n turns s found [] ≡ Ok (found ++ [], [])
unfolding declarations_from sees ahead
none_left n zero s found = ap (λ l. let y : Outcome (List Decl) = Ok (l, []) in y) (sym (append-nil found))
none_left n (suc turns) s found = rw (same_self class.End) (ap (λ l. let y : Outcome (List Decl) = Ok (l, []) in y) (sym (append-nil found)))

one_turn : (n turns : ℕ) (s : Option Section) (found : List Decl) (d : Decl) (i r : Input) → Other class.End i → declaration_at n s i ≡ Ok (d, r)
    → declarations_from n (suc turns) s found i ≡ declarations_from n turns (section_after s d) (found ++ d ∷ []) r
unfolding declarations_from
one_turn n turns s found d i r more e = rw (more, e) refl

all_complete : (n m : ℕ) → suc m ≤ n → (turns : ℕ) (s : Option Section) (found ds : List Decl) → layered_in s ds ≡ true → description_nesting ds ≤ m → length ds ≤ turns
    → declarations_from n turns s found (description_spelling ds) ≡ Ok (found ++ ds, [])
all_complete n m h turns s found [] layered deep long = none_left n turns s found
all_complete n m h zero s found (d ∷ ds) layered deep long = absurd (omega arith)
all_complete n m h (suc turns) s found (d ∷ ds) layered deep long =
    let both : (decl_layered s d ≡ true) × (layered_in (section_after s d) ds ≡ true) = both_true _ _ layered in
    let r : Input = description_spelling ds in
    one_turn n turns s found d (decl_spelling d ++ r) r
    (other_by class.End (begins d) (decl_spelling d ++ r) (decl_ahead s d r both.0) (begins_not_end d))
    (declaration_complete n m h s d r both.0 (omega arith) (follows s d ds both.1))
    ∙ all_complete n m h turns (section_after s d) (found ++ d ∷ []) ds both.1 (omega arith) (omega arith)
    ∙ ap (λ l. let y : Outcome (List Decl) = Ok (l, []) in y) (append_assoc found (d ∷ []) ds)

description_long : (ds : List Decl) → length ds ≤ length (description_spelling ds)
description_long [] = omega arith
description_long (d ∷ ds) = omega (arith, decl_long d, description_long ds, length-append (decl_spelling d) (description_spelling ds))

-- Layered declarations are read back from what they unparse to.
pub declarations_complete : (n m : ℕ) → suc m ≤ n → (ds : List Decl) → description_layered ds ≡ true → description_nesting ds ≤ m → declarations_at n (description_spelling ds) ≡ Ok (ds, [])
declarations_complete n m h ds layered deep = all_complete n m h (length (description_spelling ds)) None [] ds layered deep (description_long ds)
