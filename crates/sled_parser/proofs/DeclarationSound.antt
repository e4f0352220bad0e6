-- What a rule of declarations reads is layered, and is what its tree unparses to.
use Rattle.std.proofs.Common.{◌≡◌, ℕ, zero, suc, ◌<◌, ◌≤◌, Bool, true, false, List, [], ◌∷◌, ◌++◌, length, refl, ap, sym, ◌∙◌, subst, arith, append_assoc, append-nil, length-append, Ok, Option, Some, None}
use Rattle.std.specs.Prelude.{if◌then◌else◌, map, flat_map}
use Rattle.std.specs.List.{list_all}
use Rattle.sled_parser.specs.declared.class.Class.{Class}
use Rattle.sled_parser.specs.declared.class.Class.TheVariants as class
use Rattle.sled_parser.specs.declared.tree.PatternTree.{PatternTree}
use Rattle.sled_parser.specs.declared.tree.FieldTree.{FieldTree}
use Rattle.sled_parser.specs.declared.tree.ItemTree.{ItemTree}
use Rattle.sled_parser.specs.declared.tree.ItemTree.TheVariants as item
use Rattle.sled_parser.specs.declared.tree.OperandTree.{OperandTree}
use Rattle.sled_parser.specs.declared.tree.OperandTree.TheVariants as operand
use Rattle.sled_parser.specs.declared.tree.EqTree.{EqTree}
use Rattle.sled_parser.specs.declared.tree.Section.{Section}
use Rattle.sled_parser.specs.declared.tree.Section.TheVariants as section
use Rattle.sled_parser.specs.declared.tree.Decl.{Decl}
use Rattle.sled_parser.specs.declared.tree.Decl.TheVariants as decl
use Rattle.sled_parser.specs.Pieces.{Piece, Input, Parser, and_then, pure, pass, sees, ahead, next, text_of}
use Rattle.sled_parser.specs.Grammar.{chain_from, pattern_at}
use Rattle.sled_parser.specs.EquationGrammar.{name, braced_equations}
use Rattle.sled_parser.specs.DeclarationGrammar.{field_of, fields_of, class_of, class_decl, item_by, item_of, sees_item, items_from, listed_items, items_of, definition_at, typed, operand_after, operand_of, operands_of, result_of, constructor_with, constructor_at, definition_in, declaration_by, declaration_at, declarations_from, declarations_at}
use Rattle.sled_parser.specs.Trees.{piece_for, word, number, is_name, join, spelling}
use Rattle.sled_parser.specs.Equations.{equation_layered}
use Rattle.sled_parser.specs.Declarations.{field_spelling, field_layered, item_spelling, item_layered, operand_spelling, operand_layered, little_spelling, items_spelling, items_layered, result_spelling, result_layered, equations_spelling, decl_spelling, decl_layered, section_after, description_spelling, layered_in, description_layered, IsDescription}
use Rattle.sled_parser.proofs.ClassLaws.{sees_fixed, sees_ahead, ahead_sees, ahead_end, name_ahead}
use Rattle.sled_parser.proofs.Sound.{and_both, both_true, Sound, chain_sound, fits, pattern_sound}
use Rattle.sled_parser.proofs.EquationSound.{given, many_sound, pure_ok, after_read, after_pass, after_number, after_name, after_part, braced_equations_sound}

-- ---- classes

field_sound : Sound field_of field_layered field_spelling
unfolding field_of
field_sound i y e =
    after_name _ i y e (λ w i1 named e1 h1.
    after_number _ i1 y h1 (λ lo i2 e2 h2.
    after_pass class.Colon refl _ i2 y h2 (λ i3 e3 h3.
    after_number _ i3 y h3 (λ hi i4 e4 h4.
    let made : FieldTree = record { name = w; lo = lo; hi = hi } in
    let t = pure_ok made i4 y h4 in
    given field_layered field_spelling made i y t.0 named
    (e1 ∙ ap (λ z. word w ∷ z)
    (e2 ∙ ap (λ z. number lo ∷ z)
    (e3 ∙ ap (λ z. piece_for class.Colon ∷ z)
    (e4 ∙ ap (λ z. number hi ∷ z) t.1))))))))

fields_sound : Sound fields_of (list_all field_layered) (flat_map field_spelling)
fields_sound i y e =
    let r = many_sound (sees class.Name) field_of field_layered field_spelling (λ i x seen e. field_sound i x e) (length i) [] i y e in
    given (list_all field_layered) (flat_map field_spelling) r.0 i y (sym r.1) r.2 r.3

little_read : (i : Input) (b : Bool) → sees class.Little i ≡ b → i ≡ little_spelling b ++ (if b then next i else i)
little_read i true s = sees_fixed class.Little i refl s
little_read i false s = refl

-- what was read behind what was passed
abbrev DeclFrom : Option Section → Input → Decl × Input → Type 0
DeclFrom s i y = (decl_layered s y.0 ≡ true) × (i ≡ decl_spelling y.0 ++ y.1)

class_made : (s : Option Section) (w width : List ℕ) (little : Bool) (fields : List FieldTree) (i i4 : Input) (y : Decl × Input) → is_name w ≡ true → list_all field_layered fields ≡ true
    → i ≡ piece_for class.Open ∷ number width ∷ (little_spelling little ++ piece_for class.Close ∷ (flat_map field_spelling fields ++ i4))
    → pure (decl.Class w width little fields) i4 ≡ Ok y → DeclFrom s (piece_for class.Fields ∷ piece_for class.Of ∷ word w ∷ i) y
class_made s w width little fields i i4 y named all is e =
    let t = pure_ok (decl.Class w width little fields) i4 y e in
    given (decl_layered s) decl_spelling (decl.Class w width little fields) (piece_for class.Fields ∷ piece_for class.Of ∷ word w ∷ i) y t.0 (and_both _ _ named all)
    (ap (λ z. piece_for class.Fields ∷ piece_for class.Of ∷ word w ∷ z)
    (is ∙ ap (λ z. piece_for class.Open ∷ number width ∷ z)
    (ap (λ z. little_spelling little ++ piece_for class.Close ∷ (flat_map field_spelling fields ++ z)) t.1
    ∙ sym (append_assoc (little_spelling little) (piece_for class.Close ∷ flat_map field_spelling fields) y.1))))

class_of_sound : (s : Option Section) (w : List ℕ) (i : Input) (y : Decl × Input) → is_name w ≡ true → class_of w i ≡ Ok y → DeclFrom s (piece_for class.Fields ∷ piece_for class.Of ∷ word w ∷ i) y
unfolding class_of
class_of_sound s w i y named e =
    after_pass class.Open refl _ i y e (λ i1 e1 h1.
    after_number _ i1 y h1 (λ width i2 e2 h2.
    let little : Bool = sees class.Little i2 in
    let rest : Input = if little then next i2 else i2 in
    after_pass class.Close refl _ rest y h2 (λ i3 e3 h3.
    after_part fields_of (list_all field_layered) (flat_map field_spelling) fields_sound _ i3 y h3 (λ fields i4 all e4 h4.
    class_made s w width little fields i i4 y named all
    (e1 ∙ ap (λ z. piece_for class.Open ∷ z)
    (e2 ∙ ap (λ z. number width ∷ z)
    (little_read i2 little refl ∙ ap (λ z. little_spelling little ++ z)
    (e3 ∙ ap (λ z. piece_for class.Close ∷ z) e4))))
    h4))))

class_sound : (s : Option Section) (i : Input) (y : Decl × Input) → class_decl i ≡ Ok y → DeclFrom s (piece_for class.Fields ∷ i) y
unfolding class_decl
class_sound s i y e =
    after_pass class.Of refl _ i y e (λ i1 e1 h1.
    after_name _ i1 y h1 (λ w i2 named e2 h2.
    let r = class_of_sound s w i2 y named h2 in
    (r.0, ap (λ z. piece_for class.Fields ∷ z) (e1 ∙ ap (λ z. piece_for class.Of ∷ z) e2) ∙ r.1)))

-- ---- definitions of patterns

item_case : (c : Class) (i : Input) → ahead i ≡ c → (y : ItemTree × Input) → item_by c i ≡ Ok y → (item_layered y.0 ≡ true) × (i ≡ item_spelling y.0 ++ y.1)
item_case class.Name i s y e =
    let n = name_ahead i s in
    let t = pure_ok (item.Name (text_of i)) (next i) y e in
    given item_layered item_spelling (item.Name (text_of i)) i y t.0 n.1 (n.0 ∙ ap (λ z. word (text_of i) ∷ z) t.1)
item_case class.Underscore i s y e =
    let t = pure_ok item.Skip (next i) y e in
    given item_layered item_spelling item.Skip i y t.0 refl (sees_fixed class.Underscore i refl (ahead_sees class.Underscore i s) ∙ ap (λ z. piece_for class.Underscore ∷ z) t.1)
item_case _ i s y e = absurd cc

item_sound : Sound item_of item_layered item_spelling
unfolding item_of
item_sound i y e = item_case (ahead i) i refl y e

items_sound : Sound items_from (list_all item_layered) (flat_map item_spelling)
items_sound i y e =
    let r = many_sound sees_item item_of item_layered item_spelling (λ i x seen e. item_sound i x e) (length i) [] i y e in
    given (list_all item_layered) (flat_map item_spelling) r.0 i y (sym r.1) r.2 r.3

listed_sound : (i : Input) (y : Option (List ItemTree) × Input) → listed_items i ≡ Ok y → (items_layered y.0 ≡ true) × (piece_for class.OpenBracket ∷ i ≡ items_spelling y.0 ++ y.1)
unfolding listed_items
listed_sound i y e =
    after_part items_from (list_all item_layered) (flat_map item_spelling) items_sound _ i y e (λ all i1 layered e1 h1.
    after_pass class.CloseBracket refl _ i1 y h1 (λ i2 e2 h2.
    let t = pure_ok (Some all) i2 y h2 in
    given items_layered items_spelling (Some all) (piece_for class.OpenBracket ∷ i) y t.0 layered
    (ap (λ z. piece_for class.OpenBracket ∷ z)
    (e1 ∙ ap (λ z. flat_map item_spelling all ++ z) (e2 ∙ ap (λ z. piece_for class.CloseBracket ∷ z) t.1) ∙ sym (append_assoc (flat_map item_spelling all) (piece_for class.CloseBracket ∷ []) y.1)))))

group_case : (i : Input) (y : Option (List ItemTree) × Input) (b : Bool) → sees class.OpenBracket i ≡ b → (if b then listed_items else pure None) (if b then next i else i) ≡ Ok y
    → (items_layered y.0 ≡ true) × (i ≡ items_spelling y.0 ++ y.1)
group_case i y true s e =
    let r = listed_sound (next i) y e in
    (r.0, sees_fixed class.OpenBracket i refl s ∙ r.1)
group_case i y false s e =
    let t = pure_ok None i y e in
    given items_layered items_spelling None i y t.0 refl t.1

group_sound : Sound items_of items_layered items_spelling
unfolding items_of
group_sound i y e = group_case i y (sees class.OpenBracket i) refl e

definition_sound : (n : ℕ) → Sound (definition_at n) (decl_layered (Some section.Patterns)) decl_spelling
unfolding definition_at
definition_sound n i y e =
    after_name _ i y e (λ w i1 named e1 h1.
    after_part items_of items_layered items_spelling group_sound _ i1 y h1 (λ items i2 layered e2 h2.
    after_pass class.Is refl _ i2 y h2 (λ i3 e3 h3.
    after_part (pattern_at n) (fits 5) spelling (pattern_sound n) _ i3 y h3 (λ x i4 fitting e4 h4.
    let t = pure_ok (decl.Definition w items x) i4 y h4 in
    given (decl_layered (Some section.Patterns)) decl_spelling (decl.Definition w items x) i y t.0
    (and_both _ _ named (and_both _ _ layered (both_true _ _ fitting).1))
    (e1 ∙ ap (λ z. word w ∷ z)
    (e2 ∙ ap (λ z. items_spelling items ++ z)
    (e3 ∙ ap (λ z. piece_for class.Is ∷ z)
    (e4 ∙ ap (λ z. spelling x ++ z) t.1))
    ∙ sym (append_assoc (items_spelling items) (piece_for class.Is ∷ spelling x) y.1)))))))

-- ---- constructors

-- what an operand with this name reads
abbrev OperandFrom : List ℕ → Input → OperandTree × Input → Type 0
OperandFrom w i y = (operand_layered y.0 ≡ true) × (word w ∷ i ≡ operand_spelling y.0 ++ y.1)

typed_case : (w : List ℕ) (i : Input) (y : OperandTree × Input) → is_name w ≡ true → (b : Bool) → sees class.Colon i ≡ b
    → (if b then (λ j. and_then (name j) (λ result. pure (operand.Typed w result))) else pure (operand.Word w)) (if b then next i else i) ≡ Ok y → OperandFrom w i y
typed_case w i y named true s e =
    after_name _ (next i) y e (λ result i1 ok e1 h1.
    let t = pure_ok (operand.Typed w result) i1 y h1 in
    given operand_layered operand_spelling (operand.Typed w result) (word w ∷ i) y t.0 (and_both _ _ named ok)
    (ap (λ z. word w ∷ z)
    (sees_fixed class.Colon i refl s ∙ ap (λ z. piece_for class.Colon ∷ z)
    (e1 ∙ ap (λ z. word result ∷ z) t.1))))
typed_case w i y named false s e =
    let t = pure_ok (operand.Word w) i y e in
    given operand_layered operand_spelling (operand.Word w) (word w ∷ i) y t.0 named (ap (λ z. word w ∷ z) t.1)

extended_case : (w : List ℕ) (i : Input) (y : OperandTree × Input) → is_name w ≡ true → (b : Bool) → sees class.Bang i ≡ b
    → (if b then pure (operand.Extended w) else typed w) (if b then next i else i) ≡ Ok y → OperandFrom w i y
unfolding typed
extended_case w i y named true s e =
    let t = pure_ok (operand.Extended w) (next i) y e in
    given operand_layered operand_spelling (operand.Extended w) (word w ∷ i) y t.0 named (ap (λ z. word w ∷ z) (sees_fixed class.Bang i refl s ∙ ap (λ z. piece_for class.Bang ∷ z) t.1))
extended_case w i y named false s e = typed_case w i y named (sees class.Colon i) refl e

operand_sound : Sound operand_of operand_layered operand_spelling
unfolding operand_of operand_after
operand_sound i y e =
    after_name _ i y e (λ w i1 named e1 h1.
    let r = extended_case w i1 y named (sees class.Bang i1) refl h1 in
    (r.0, e1 ∙ r.1))

-- what stands after an opening bracket, with the closing one
abbrev OperandsFrom : Input → List OperandTree × Input → Type 0
OperandsFrom i y = (list_all operand_layered y.0 ≡ true) × (i ≡ join (piece_for class.Comma) (map operand_spelling y.0) ++ piece_for class.Close ∷ y.1)

operands_made : (xs : List OperandTree) (i : Input) (y : List OperandTree × Input) → xs ≡ y.0 → list_all operand_layered xs ≡ true
    → i ≡ join (piece_for class.Comma) (map operand_spelling xs) ++ piece_for class.Close ∷ y.1 → OperandsFrom i y
operands_made xs i y e all is =
    (subst (λ v. list_all operand_layered v ≡ true) e all, subst (λ v. i ≡ join (piece_for class.Comma) (map operand_spelling v) ++ piece_for class.Close ∷ y.1) e is)

operands_case : (i : Input) (y : List OperandTree × Input) (b : Bool) → sees class.Close i ≡ b
    → (if b then pure [] else (λ j. and_then (chain_from operand_of class.Comma (length j) [] j) (λ all. λ j. and_then (pass class.Close j) (λ _. pure all)))) (if b then next i else i) ≡ Ok y
    → OperandsFrom i y
operands_case i y true s e =
    let t = pure_ok [] (next i) y e in
    operands_made [] i y t.0 refl (sees_fixed class.Close i refl s ∙ ap (λ z. piece_for class.Close ∷ z) t.1)
operands_case i y false s e =
    after_read (λ j. chain_from operand_of class.Comma (length j) [] j) _ i y e (λ all i1 e1 h1.
    after_pass class.Close refl _ i1 y h1 (λ i2 e2 h2.
    let r = chain_sound operand_of operand_layered operand_spelling class.Comma refl operand_sound (length i) [] i (all, i1) e1 in
    let t = pure_ok all i2 y h2 in
    operands_made r.0 i y (sym r.1 ∙ t.0) r.2
    (r.4 ∙ ap (λ z. join (piece_for class.Comma) (map operand_spelling r.0) ++ z) (e2 ∙ ap (λ z. piece_for class.Close ∷ z) t.1))))

operands_sound : (i : Input) (y : List OperandTree × Input) → operands_of i ≡ Ok y → OperandsFrom i y
unfolding operands_of
operands_sound i y e = operands_case i y (sees class.Close i) refl e

result_case : (i : Input) (y : Option (List ℕ) × Input) (b : Bool) → sees class.Colon i ≡ b
    → (if b then (λ j. and_then (name j) (λ w. pure (Some w))) else pure None) (if b then next i else i) ≡ Ok y → (result_layered y.0 ≡ true) × (i ≡ result_spelling y.0 ++ y.1)
result_case i y true s e =
    after_name _ (next i) y e (λ w i1 named e1 h1.
    let t = pure_ok (Some w) i1 y h1 in
    given result_layered result_spelling (Some w) i y t.0 named
    (sees_fixed class.Colon i refl s ∙ ap (λ z. piece_for class.Colon ∷ z) (e1 ∙ ap (λ z. word w ∷ z) t.1)))
result_case i y false s e =
    let t = pure_ok None i y e in
    given result_layered result_spelling None i y t.0 refl t.1

result_sound : Sound result_of result_layered result_spelling
unfolding result_of
result_sound i y e = result_case i y (sees class.Colon i) refl e

-- the parts of a constructor behind its operands
abbrev constructor_rest : Option (List ℕ) → List EqTree → PatternTree → List Piece
constructor_rest result equations body = result_spelling result ++ (equations_spelling equations ++ piece_for class.Is ∷ spelling body)

rest_spelled : (result : Option (List ℕ)) (equations : List EqTree) (body : PatternTree) (r : Input)
    → result_spelling result ++ (equations_spelling equations ++ piece_for class.Is ∷ (spelling body ++ r)) ≡ constructor_rest result equations body ++ r
rest_spelled result equations body r =
    ap (λ z. result_spelling result ++ z) (sym (append_assoc (equations_spelling equations) (piece_for class.Is ∷ spelling body) r))
    ∙ sym (append_assoc (result_spelling result) (equations_spelling equations ++ piece_for class.Is ∷ spelling body) r)

constructor_made : (w : List ℕ) (operands : List OperandTree) (result : Option (List ℕ)) (equations : List EqTree) (body : PatternTree) (i j : Input) (y : Decl × Input)
    → is_name w ≡ true → list_all operand_layered operands ≡ true → result_layered result ≡ true → list_all equation_layered equations ≡ true → fits 5 body ≡ true
    → i ≡ constructor_rest result equations body ++ j → pure (decl.ConstructorDecl w operands result equations body) j ≡ Ok y
    → DeclFrom (Some section.Constructors) (word w ∷ piece_for class.Open ∷ (join (piece_for class.Comma) (map operand_spelling operands) ++ piece_for class.Close ∷ i)) y
constructor_made w operands result equations body i j y named all typed_well equal fitting is e =
    let made : Decl = decl.ConstructorDecl w operands result equations body in
    let t = pure_ok made j y e in
    let parts : List Piece = join (piece_for class.Comma) (map operand_spelling operands) in
    given (decl_layered (Some section.Constructors)) decl_spelling made (word w ∷ piece_for class.Open ∷ (parts ++ piece_for class.Close ∷ i)) y t.0
    (and_both _ _ named (and_both _ _ all (and_both _ _ typed_well (and_both _ _ equal (both_true _ _ fitting).1))))
    (ap (λ z. word w ∷ piece_for class.Open ∷ z)
    (ap (λ z. parts ++ piece_for class.Close ∷ z) (is ∙ ap (λ z. constructor_rest result equations body ++ z) t.1)
    ∙ sym (append_assoc parts (piece_for class.Close ∷ constructor_rest result equations body) y.1)))

constructor_with_sound : (n : ℕ) (w : List ℕ) (operands : List OperandTree) (i : Input) (y : Decl × Input) → is_name w ≡ true → list_all operand_layered operands ≡ true → constructor_with n w operands i ≡ Ok y
    → DeclFrom (Some section.Constructors) (word w ∷ piece_for class.Open ∷ (join (piece_for class.Comma) (map operand_spelling operands) ++ piece_for class.Close ∷ i)) y
unfolding constructor_with
constructor_with_sound n w operands i y named all e =
    after_part result_of result_layered result_spelling result_sound _ i y e (λ result i1 typed_well e1 h1.
    after_part braced_equations (list_all equation_layered) equations_spelling braced_equations_sound _ i1 y h1 (λ equations i2 equal e2 h2.
    after_pass class.Is refl _ i2 y h2 (λ i3 e3 h3.
    after_part (pattern_at n) (fits 5) spelling (pattern_sound n) _ i3 y h3 (λ body i4 fitting e4 h4.
    constructor_made w operands result equations body i i4 y named all typed_well equal fitting
    (e1 ∙ ap (λ z. result_spelling result ++ z)
    (e2 ∙ ap (λ z. equations_spelling equations ++ z)
    (e3 ∙ ap (λ z. piece_for class.Is ∷ z) e4))
    ∙ rest_spelled result equations body i4)
    h4))))

constructor_sound : (n : ℕ) → Sound (constructor_at n) (decl_layered (Some section.Constructors)) decl_spelling
unfolding constructor_at
constructor_sound n i y e =
    after_name _ i y e (λ w i1 named e1 h1.
    after_pass class.Open refl _ i1 y h1 (λ i2 e2 h2.
    after_read operands_of _ i2 y h2 (λ operands i3 e3 h3.
    let o = operands_sound i2 (operands, i3) e3 in
    let r = constructor_with_sound n w operands i3 y named o.0 h3 in
    (r.0, e1 ∙ ap (λ z. word w ∷ z) (e2 ∙ ap (λ z. piece_for class.Open ∷ z) o.1) ∙ r.1))))

-- ---- descriptions

definition_in_sound : (n : ℕ) (s : Option Section) → Sound (definition_in n s) (decl_layered s) decl_spelling
definition_in_sound n None i y e = absurd cc
definition_in_sound n (Some section.Patterns) i y e = definition_sound n i y e
definition_in_sound n (Some section.Constructors) i y e = constructor_sound n i y e

declaration_case : (n : ℕ) (s : Option Section) (c : Class) (i : Input) → ahead i ≡ c → (y : Decl × Input) → declaration_by n s c i ≡ Ok y → DeclFrom s i y
declaration_case n s class.Fields i h y e =
    let r = class_sound s (next i) y e in
    (r.0, sees_fixed class.Fields i refl (ahead_sees class.Fields i h) ∙ r.1)
declaration_case n s class.Patterns i h y e =
    let t = pure_ok (decl.Heading section.Patterns) (next i) y e in
    given (decl_layered s) decl_spelling (decl.Heading section.Patterns) i y t.0 refl (sees_fixed class.Patterns i refl (ahead_sees class.Patterns i h) ∙ ap (λ z. piece_for class.Patterns ∷ z) t.1)
declaration_case n s class.Constructors i h y e =
    let t = pure_ok (decl.Heading section.Constructors) (next i) y e in
    given (decl_layered s) decl_spelling (decl.Heading section.Constructors) i y t.0 refl
    (sees_fixed class.Constructors i refl (ahead_sees class.Constructors i h) ∙ ap (λ z. piece_for class.Constructors ∷ z) t.1)
declaration_case n s _ i h y e = definition_in_sound n s i y e

declaration_sound : (n : ℕ) (s : Option Section) → Sound (declaration_at n s) (decl_layered s) decl_spelling
unfolding declaration_at
declaration_sound n s i y e = declaration_case n s (ahead i) i refl y e

pub decl_long : (d : Decl) → 0 < length (decl_spelling d)
decl_long (decl.Class w width little fields) = omega arith
decl_long (decl.Heading h) = omega arith
decl_long (decl.Definition w items x) = omega arith
decl_long (decl.ConstructorDecl w operands result equations body) = omega arith

-- the declarations are what was found, and what was read since
abbrev DescriptionFrom : Option Section → List Decl → Input → List Decl × Input → Type 0
DescriptionFrom s found i y = (ds : List Decl) × (y.0 ≡ found ++ ds) × (layered_in s ds ≡ true) × (i ≡ description_spelling ds ++ y.1)

none_read : (s : Option Section) (found : List Decl) (i : Input) (y : List Decl × Input) → pure found i ≡ Ok y → DescriptionFrom s found i y
none_read s found i y e =
    let t = pure_ok found i y e in
    ([], sym t.0 ∙ sym (append-nil found), refl, t.1)

turn_read : (n turns : ℕ) (s : Option Section) (found : List Decl) (i : Input) (y : List Decl × Input)
    → ((s : Option Section) (found : List Decl) (i : Input) (y : List Decl × Input) → declarations_from n turns s found i ≡ Ok y → DescriptionFrom s found i y)
    → (b : Bool) → (let q : Parser (List Decl) = (if b then pure found else (λ j. and_then (declaration_at n s j) (λ d. declarations_from n turns (section_after s d) (found ++ d ∷ [])))) in q) i ≡ Ok y
    → DescriptionFrom s found i y
turn_read n turns s found i y again true e = none_read s found i y e
turn_read n turns s found i y again false e =
    after_part (declaration_at n s) (decl_layered s) decl_spelling (declaration_sound n s) _ i y e (λ d i1 layered e1 h1.
    let r = again (section_after s d) (found ++ d ∷ []) i1 y h1 in (
      d ∷ r.0,
      r.1 ∙ append_assoc found (d ∷ []) r.0,
      and_both _ _ layered r.2,
      e1 ∙ ap (λ z. decl_spelling d ++ z) r.3 ∙ sym (append_assoc (decl_spelling d) (description_spelling r.0) y.1),
    ))

all_read : (n turns : ℕ) (s : Option Section) (found : List Decl) (i : Input) (y : List Decl × Input) → declarations_from n turns s found i ≡ Ok y → DescriptionFrom s found i y
unfolding declarations_from
all_read n zero s found i y e = none_read s found i y e
all_read n (suc turns) s found i y e = turn_read n turns s found i y (all_read n turns) (sees class.End i) e

-- Declarations that are read are layered, and are what they unparse to.
pub declarations_sound : (n : ℕ) → Sound (declarations_at n) description_layered description_spelling
declarations_sound n i y e =
    let r = all_read n (length i) None [] i y e in
    given description_layered description_spelling r.0 i y (sym r.1) r.2 r.3

-- ---- nothing is left

no_items : (i : Input) → length i ≤ 0 → i ≡ []
no_items [] h = refl
no_items (q ∷ i) h = absurd (omega arith)

turn_left : (n turns : ℕ) (s : Option Section) (found : List Decl) (i : Input) (y : List Decl × Input) → length i ≤ suc turns
    → ((s : Option Section) (found : List Decl) (i : Input) (y : List Decl × Input) → declarations_from n turns s found i ≡ Ok y → length i ≤ turns → y.1 ≡ [])
    → (b : Bool) → sees class.End i ≡ b
    → (let q : Parser (List Decl) = (if b then pure found else (λ j. and_then (declaration_at n s j) (λ d. declarations_from n turns (section_after s d) (found ++ d ∷ [])))) in q) i ≡ Ok y
    → y.1 ≡ []
turn_left n turns s found i y few again true seen e = sym (pure_ok found i y e).1 ∙ ahead_end i (sees_ahead class.End i seen)
turn_left n turns s found i y few again false seen e =
    after_part (declaration_at n s) (decl_layered s) decl_spelling (declaration_sound n s) _ i y e (λ d i1 layered e1 h1.
    again (section_after s d) (found ++ d ∷ []) i1 y h1 (omega (arith, ap length e1, length-append (decl_spelling d) i1, decl_long d)))

all_left : (n turns : ℕ) (s : Option Section) (found : List Decl) (i : Input) (y : List Decl × Input) → declarations_from n turns s found i ≡ Ok y → length i ≤ turns → y.1 ≡ []
unfolding declarations_from
all_left n zero s found i y e few = sym (pure_ok found i y e).1 ∙ no_items i few
all_left n (suc turns) s found i y e few = turn_left n turns s found i y few (all_left n turns) (sees class.End i) refl e

-- A whole text that is read is the description of these declarations.
pub description_sound : (n : ℕ) (i : Input) (y : List Decl × Input) → declarations_at n i ≡ Ok y → IsDescription i y.0
description_sound n i y e =
    let r = declarations_sound n i y e in
    let none : y.1 ≡ [] = all_left n (length i) None [] i y e (omega arith) in
    (r.0, r.1 ∙ ap (λ z. description_spelling y.0 ++ z) none ∙ append-nil (description_spelling y.0))
