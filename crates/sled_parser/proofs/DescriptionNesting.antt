-- How deep brackets stand inside one another in a description.
use Rattle.std.proofs.Common.{◌≡◌, ℕ, ◌+◌, ◌≤◌, Bool, true, false, List, [], ◌∷◌, ◌++◌, refl, ap, subst, arith, append_assoc, Option, Some, None}
use Rattle.std.specs.Prelude.{map, flat_map, max}
use Rattle.sled_lexer.specs.declared.Lexeme.{Lexeme}
use Rattle.sled_parser.specs.declared.class.Class.{Class}
use Rattle.sled_parser.specs.declared.class.Class.TheVariants as class
use Rattle.sled_parser.specs.declared.tree.FieldTree.{FieldTree}
use Rattle.sled_parser.specs.declared.tree.ItemTree.{ItemTree}
use Rattle.sled_parser.specs.declared.tree.ItemTree.TheVariants as item
use Rattle.sled_parser.specs.declared.tree.OperandTree.{OperandTree}
use Rattle.sled_parser.specs.declared.tree.OperandTree.TheVariants as operand
use Rattle.sled_parser.specs.declared.tree.PlaceTree.{PlaceTree}
use Rattle.sled_parser.specs.declared.tree.PlaceTree.TheVariants as place
use Rattle.sled_parser.specs.declared.tree.TermTree.{TermTree}
use Rattle.sled_parser.specs.declared.tree.TermTree.TheVariants as term
use Rattle.sled_parser.specs.declared.tree.EqTree.{EqTree}
use Rattle.sled_parser.specs.declared.tree.Section.{Section}
use Rattle.sled_parser.specs.declared.tree.Section.TheVariants as section
use Rattle.sled_parser.specs.declared.tree.Decl.{Decl}
use Rattle.sled_parser.specs.declared.tree.Decl.TheVariants as decl
use Rattle.sled_parser.specs.Pieces.{Piece, Input, pieces}
use Rattle.sled_parser.specs.Trees.{piece_for, word, number, join, spelling, deepest, nesting}
use Rattle.sled_parser.specs.Nesting.{opens, closes, nest_fault}
use Rattle.sled_parser.specs.Equations.{place_spelling, is_minus, term_spelling, first_sign, later_sign, first_spelling, later_spelling, terms_spelling, sum_spelling, equation_spelling}
use Rattle.sled_parser.specs.Declarations.{field_spelling, item_spelling, operand_spelling, little_spelling, items_spelling, result_spelling, equations_spelling, heading_piece, decl_spelling, description_spelling, decl_nesting, description_nesting, IsDescription}
use Rattle.sled_parser.proofs.ClassLaws.{is_fixed}
use Rattle.sled_parser.proofs.NestingLaws.{Nests, EachNests, is_shallow, shallow_pieces, nests_nil, nests_flat, nests_append, nests_bracket, nests_join, nests_fewer, flat_word, flat_number, flat_for, opens_for, closes_for, pattern_nests}

-- ---- wholes from parts

nests_before : (n : ℕ) (u v : Input) → Nests 0 u → Nests n v → Nests n (u ++ v)
nests_before n u v x y = nests_fewer n (max 0 n) _ (omega arith) (nests_append 0 n u v x y)

nests_word : (n : ℕ) (w : List ℕ) (s : Input) → Nests n s → Nests n (word w ∷ s)
nests_word n w s x = nests_flat n (word w) s (flat_word w) x

nests_number : (n : ℕ) (m : List ℕ) (s : Input) → Nests n s → Nests n (number m ∷ s)
nests_number n m s x = nests_flat n (number m) s (flat_number m) x

nests_for : (k : Class) → is_fixed k ≡ true → opens k ≡ false → closes k ≡ false → (n : ℕ) (s : Input) → Nests n s → Nests n (piece_for k ∷ s)
nests_for k f a b n s x = nests_flat n (piece_for k) s (flat_for k f a b) x

-- what stands in brackets, and what stands behind them
nests_around : (o c : Class) → is_fixed o ≡ true → opens o ≡ true → is_fixed c ≡ true → opens c ≡ false → closes c ≡ true
    → (n : ℕ) (s r : Input) → Nests 0 s → Nests n r → Nests n (piece_for o ∷ (s ++ piece_for c ∷ r))
nests_around o c fo begins fc no_ ends n s r x y =
    let inside : Input = piece_for o ∷ (s ++ piece_for c ∷ []) in
    let bracket = nests_bracket 0 (piece_for o) (piece_for c) s (opens_for o fo begins) (closes_for c fc no_ ends) x in
    subst (Nests n) (ap (λ z. piece_for o ∷ z) (append_assoc s (piece_for c ∷ []) r)) (nests_before n inside r (nests_fewer 0 1 inside (omega arith) bracket) y)

nests_many : {A : Type 0} (s : A → List Piece) → ((x : A) → Nests 0 (s x)) → (xs : List A) → Nests 0 (flat_map s xs)
nests_many s each [] = nests_nil
nests_many s each (x ∷ xs) = nests_before 0 (s x) (flat_map s xs) (each x) (nests_many s each xs)

each_flat : {A : Type 0} (s : A → List Piece) → ((x : A) → Nests 0 (s x)) → (xs : List A) → EachNests (map (λ _. 0) xs) (map s xs)
each_flat s each [] = tt
each_flat s each (x ∷ xs) = (each x, each_flat s each xs)

nests_commas : {A : Type 0} (s : A → List Piece) → ((x : A) → Nests 0 (s x)) → (xs : List A) → Nests 0 (join (piece_for class.Comma) (map s xs))
nests_commas s each xs =
    nests_fewer 0 (deepest (map (λ _. 0) xs)) _ (omega arith) (nests_join (piece_for class.Comma) (flat_for class.Comma refl refl refl) (map (λ _. 0) xs) (map s xs) (each_flat s each xs))

-- ---- equations

place_nests : (t : PlaceTree) → Nests 0 (place_spelling t)
place_nests (place.Word w) = nests_word 0 w [] nests_nil
place_nests (place.Extended w) = nests_word 0 w _ (nests_for class.Bang refl refl refl 0 [] nests_nil)
place_nests (place.Slice w lo hi) =
    nests_word 0 w _
    (nests_for class.At refl refl refl 0 _
    (nests_around class.OpenBracket class.CloseBracket refl refl refl refl refl 0 (number lo ∷ piece_for class.Colon ∷ number hi ∷ []) []
    (nests_number 0 lo _ (nests_for class.Colon refl refl refl 0 _ (nests_number 0 hi [] nests_nil)))
    nests_nil))

term_nests : (t : TermTree) → Nests 0 (term_spelling t)
term_nests (term.Number minus n) = nests_number 0 n [] nests_nil
term_nests (term.Place minus None at) = place_nests at
term_nests (term.Place minus (Some n) at) = nests_number 0 n _ (nests_for class.Star refl refl refl 0 _ (place_nests at))

first_nests : (b : Bool) (t : TermTree) → Nests 0 (first_sign b ++ term_spelling t)
first_nests true t = nests_for class.Minus refl refl refl 0 _ (term_nests t)
first_nests false t = term_nests t

later_by : (b : Bool) (t : TermTree) → Nests 0 (later_sign b ∷ term_spelling t)
later_by true t = nests_for class.Minus refl refl refl 0 _ (term_nests t)
later_by false t = nests_for class.Plus refl refl refl 0 _ (term_nests t)

later_nests : (t : TermTree) → Nests 0 (later_spelling t)
later_nests t = later_by (is_minus t) t

terms_nests : (ts : List TermTree) → Nests 0 (terms_spelling ts)
terms_nests [] = nests_nil
terms_nests (t ∷ ts) = nests_before 0 (first_spelling t) (flat_map later_spelling ts) (first_nests (is_minus t) t) (nests_many later_spelling later_nests ts)

equation_nests : (e : EqTree) → Nests 0 (equation_spelling e)
equation_nests e = nests_before 0 (sum_spelling e.left) _ (terms_nests e.left.terms) (nests_for class.Equal refl refl refl 0 _ (terms_nests e.right.terms))

equations_nests : (es : List EqTree) → Nests 0 (equations_spelling es)
equations_nests [] = nests_nil
equations_nests (e ∷ es) =
    nests_around class.OpenBrace class.CloseBrace refl refl refl refl refl 0 (join (piece_for class.Comma) (map equation_spelling (e ∷ es))) [] (nests_commas equation_spelling equation_nests (e ∷ es)) nests_nil

-- ---- the parts of declarations

field_nests : (f : FieldTree) → Nests 0 (field_spelling f)
field_nests f = nests_word 0 f.name _ (nests_number 0 f.lo _ (nests_for class.Colon refl refl refl 0 _ (nests_number 0 f.hi [] nests_nil)))

item_nests : (x : ItemTree) → Nests 0 (item_spelling x)
item_nests (item.Name w) = nests_word 0 w [] nests_nil
item_nests item.Skip = nests_for class.Underscore refl refl refl 0 [] nests_nil

operand_nests : (x : OperandTree) → Nests 0 (operand_spelling x)
operand_nests (operand.Word w) = nests_word 0 w [] nests_nil
operand_nests (operand.Extended w) = nests_word 0 w _ (nests_for class.Bang refl refl refl 0 [] nests_nil)
operand_nests (operand.Typed w result) = nests_word 0 w _ (nests_for class.Colon refl refl refl 0 _ (nests_word 0 result [] nests_nil))

little_nests : (b : Bool) → Nests 0 (little_spelling b)
little_nests true = nests_for class.Little refl refl refl 0 [] nests_nil
little_nests false = nests_nil

items_nests : (o : Option (List ItemTree)) → Nests 0 (items_spelling o)
items_nests None = nests_nil
items_nests (Some xs) = nests_around class.OpenBracket class.CloseBracket refl refl refl refl refl 0 (flat_map item_spelling xs) [] (nests_many item_spelling item_nests xs) nests_nil

result_nests : (o : Option (List ℕ)) → Nests 0 (result_spelling o)
result_nests None = nests_nil
result_nests (Some w) = nests_for class.Colon refl refl refl 0 _ (nests_word 0 w [] nests_nil)

heading_nests : (h : Section) → Nests 0 (heading_piece h ∷ [])
heading_nests section.Patterns = nests_for class.Patterns refl refl refl 0 [] nests_nil
heading_nests section.Constructors = nests_for class.Constructors refl refl refl 0 [] nests_nil

-- ---- descriptions

decl_nests : (d : Decl) → Nests (decl_nesting d) (decl_spelling d)
decl_nests (decl.Class w width little fields) =
    nests_for class.Fields refl refl refl 0 _
    (nests_for class.Of refl refl refl 0 _
    (nests_word 0 w _
    (nests_around class.Open class.Close refl refl refl refl refl 0 (number width ∷ little_spelling little) (flat_map field_spelling fields)
    (nests_number 0 width _ (little_nests little)) (nests_many field_spelling field_nests fields))))
decl_nests (decl.Heading h) = heading_nests h
decl_nests (decl.Definition w items x) =
    nests_word (nesting x) w _ (nests_before (nesting x) (items_spelling items) _ (items_nests items) (nests_for class.Is refl refl refl (nesting x) _ (pattern_nests x)))
decl_nests (decl.ConstructorDecl w operands result equations body) =
    let n : ℕ = nesting body in
    let behind : Input = result_spelling result ++ (equations_spelling equations ++ piece_for class.Is ∷ spelling body) in
    nests_word n w _
    (nests_around class.Open class.Close refl refl refl refl refl n (join (piece_for class.Comma) (map operand_spelling operands)) behind
    (nests_commas operand_spelling operand_nests operands)
    (nests_before n (result_spelling result) _ (result_nests result)
    (nests_before n (equations_spelling equations) _ (equations_nests equations) (nests_for class.Is refl refl refl n _ (pattern_nests body)))))

pub description_nests : (ds : List Decl) → Nests (description_nesting ds) (description_spelling ds)
description_nests [] = nests_nil
description_nests (d ∷ ds) = nests_append (decl_nesting d) (description_nesting ds) (decl_spelling d) (description_spelling ds) (decl_nests d) (description_nests ds)

-- where no bracket opens inside 64 others, no description of these lexemes nests deeper
pub description_within : (text : List ℕ) (ls : List Lexeme) (t : List Decl) → nest_fault text ls ≡ None → IsDescription (pieces text ls) t → description_nesting t ≤ 64
description_within text ls t none is =
    let shallow = subst (λ i. is_shallow 0 i ≡ true) is.1 (shallow_pieces text ls none) in
    let deep : 0 + description_nesting t ≤ 64 = (description_nests t).within 0 (omega arith) shallow in
    omega arith
