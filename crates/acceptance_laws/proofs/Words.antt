-- The names that a declaration writes stand among its lexemes.
use Rattle.std.proofs.Common.{◌≡◌, ℕ, true, false, List, [], ◌∷◌, ◌++◌, map, All, Option, Some, None, refl, ap, subst}
use Rattle.std.specs.Prelude.{Bool, IfSome, ◌||◌, bytes_eq}
use Rattle.std.specs.List.{flat_map}
use Rattle.std.proofs.lemmas.List.Elements.{All-nil, All-cons, All-head, All-tail, All-weaker}
use Rattle.std.proofs.lemmas.Slice.Eq.{bytes_eq-Decides}
use Rattle.sled_parser.specs.declared.class.Class.TheVariants as class
use Rattle.sled_parser.specs.declared.tree.Decl.{Decl}
use Rattle.sled_parser.specs.declared.tree.Decl.TheVariants as decl
use Rattle.sled_parser.specs.declared.tree.FieldTree.{FieldTree}
use Rattle.sled_parser.specs.declared.tree.ItemTree.{ItemTree}
use Rattle.sled_parser.specs.declared.tree.ItemTree.TheVariants as item
use Rattle.sled_parser.specs.Pieces.{Piece, Input}
use Rattle.sled_parser.specs.Trees.{piece_for, word, number, join, spelling}
use Rattle.sled_parser.specs.Declarations.{field_spelling, item_spelling, operand_spelling, little_spelling, items_spelling, result_spelling, equations_spelling, decl_spelling, description_spelling, IsDescription}
use Rattle.tree_meaning.specs.Names.{is_among}
use Rattle.sled_elab.specs.Declarations.{class_names, definition_names, field_name, item_names}
use Rattle.acceptance_laws.proofs.Counting.{IsAmong}

module _ (P : List ℕ → Type 0) where
  -- each name that the declaration declares or makes is such
  abbrev pub HasNames : Decl → Type 0
  HasNames (decl.Class name width little fields) = All P (class_names name fields)
  HasNames (decl.Heading section) = Unit {0}
  HasNames (decl.Definition name items tree) = All P (definition_names name items)
  HasNames (decl.ConstructorDecl opcode operands makes equations body) = P opcode × IfSome makes P

  abbrev Says : Piece → Type 0
  Says p = P p.text

  split : (ps qs : List Piece) → All Says (ps ++ qs) → All Says ps × All Says qs
  split [] qs h = (All-nil Says, h)
  split (p ∷ ps) qs h =
      let both = split ps qs (All-tail Says p (ps ++ qs) h) in
      (All-cons Says p ps (All-head Says p (ps ++ qs) h) both.0, both.1)

  fields_named : (fs : List FieldTree) → All Says (flat_map field_spelling fs) → All P (map field_name fs)
  fields_named [] h = All-nil P
  fields_named (f ∷ fs) h =
      let both = split (field_spelling f) (flat_map field_spelling fs) h in
      All-cons P f.name (map field_name fs) (All-head Says (word f.name) (number f.lo ∷ piece_for class.Colon ∷ number f.hi ∷ []) both.0) (fields_named fs both.1)

  items_named : (xs : List ItemTree) → All Says (flat_map item_spelling xs) → All P (item_names xs)
  items_named [] h = All-nil P
  items_named (item.Name n ∷ xs) h =
      let rest = flat_map item_spelling xs in
      All-cons P n (item_names xs) (All-head Says (word n) rest h) (items_named xs (All-tail Says (word n) rest h))
  items_named (item.Skip ∷ xs) h = items_named xs (All-tail Says (piece_for class.Underscore) (flat_map item_spelling xs) h)

  definition_named : (name : List ℕ) (items : Option (List ItemTree)) → P name → All Says (items_spelling items) → All P (definition_names name items)
  definition_named name None here h = All-cons P name [] here (All-nil P)
  definition_named name (Some xs) here h =
      let listed = flat_map item_spelling xs in
      let inside = (split listed (piece_for class.CloseBracket ∷ []) (All-tail Says (piece_for class.OpenBracket) (listed ++ piece_for class.CloseBracket ∷ []) h)).0 in
      All-cons P name (item_names xs) here (items_named xs inside)

  result_named : (makes : Option (List ℕ)) → All Says (result_spelling makes) → IfSome makes P
  result_named None h = tt
  result_named (Some w) h = All-head Says (word w) [] (All-tail Says (piece_for class.Colon) (word w ∷ []) h)

  decl_named : (d : Decl) → All Says (decl_spelling d) → HasNames d
  decl_named (decl.Class name width little fields) h =
      let closed = piece_for class.Close ∷ flat_map field_spelling fields in
      let behind = piece_for class.Open ∷ number width ∷ (little_spelling little ++ closed) in
      let from_name = (split (piece_for class.Fields ∷ piece_for class.Of ∷ []) (word name ∷ behind) h).1 in
      let from_order = (split (word name ∷ piece_for class.Open ∷ number width ∷ []) (little_spelling little ++ closed) from_name).1 in
      let from_close = (split (little_spelling little) closed from_order).1 in
      All-cons P name (map field_name fields) (All-head Says (word name) behind from_name)
      (fields_named fields (All-tail Says (piece_for class.Close) (flat_map field_spelling fields) from_close))
  decl_named (decl.Heading section) h = tt
  decl_named (decl.Definition name items tree) h =
      let rest = piece_for class.Is ∷ spelling tree in
      let behind = items_spelling items ++ rest in
      definition_named name items (All-head Says (word name) behind h) (split (items_spelling items) rest (All-tail Says (word name) behind h)).0
  decl_named (decl.ConstructorDecl opcode operands makes equations body) h =
      let others = equations_spelling equations ++ piece_for class.Is ∷ spelling body in
      let from_close = piece_for class.Close ∷ (result_spelling makes ++ others) in
      let listed = join (piece_for class.Comma) (map operand_spelling operands) in
      let behind = piece_for class.Open ∷ (listed ++ from_close) in
      let inside = All-tail Says (piece_for class.Open) (listed ++ from_close) (All-tail Says (word opcode) behind h) in
      let from_result = All-tail Says (piece_for class.Close) (result_spelling makes ++ others) (split listed from_close inside).1 in
      (All-head Says (word opcode) behind h, result_named makes (split (result_spelling makes) others from_result).0)

  decls_named : (ds : List Decl) → All Says (description_spelling ds) → All HasNames ds
  decls_named [] h = All-nil HasNames
  decls_named (d ∷ ds) h =
      let both = split (decl_spelling d) (description_spelling ds) h in
      All-cons HasNames d ds (decl_named d both.0) (decls_named ds both.1)

abbrev pub words_of : Input → List (List ℕ)
words_of input = map (λ (p : Piece). p.text) input

one_more : (w : List ℕ) (ws : List (List ℕ)) (n : List ℕ) → IsAmong ws n → IsAmong (w ∷ ws) n
one_more w ws n h = by_test (bytes_eq n w) where
  by_test : (t : Bool) → (t || is_among ws n) ≡ true
  by_test true = refl
  by_test false = h

-- each lexeme is among them
among_itself : (input : Input) → All (λ (p : Piece). IsAmong (words_of input) p.text) input
among_itself [] = All-nil (λ (p : Piece). IsAmong [] p.text)
among_itself (p ∷ input) =
    let ws = words_of input in
    All-cons (λ (q : Piece). IsAmong (p.text ∷ ws) q.text) p input (ap (λ t. t || is_among ws p.text) ((bytes_eq-Decides p.text p.text).1 refl))
    (All-weaker (λ (q : Piece). IsAmong ws q.text) (λ (q : Piece). IsAmong (p.text ∷ ws) q.text) (λ q h. one_more p.text ws q.text h) input (among_itself input))

pub description_named : (input : Input) (decls : List Decl) → IsDescription input decls → All (HasNames (IsAmong (words_of input))) decls
description_named input decls h =
    let P = IsAmong (words_of input) in
    decls_named P decls (subst (All (λ (p : Piece). P p.text)) h.1 (among_itself input))
