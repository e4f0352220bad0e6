-- Each Number in the trees of a text is at most the greatest, since each in the text is.
use Rattle.std.proofs.Common.{◌≡◌, ℕ, ◌≤◌, Bool, true, false, ◌&&◌, Option, Some, None, List, [], ◌∷◌, ◌++◌, map, All, refl, sym, ap, ◌∙◌, subst, arith}
use Rattle.std.specs.List.{flat_map, list_all}
use Rattle.std.specs.Option.{option_map_or}
use Rattle.std.specs.Prelude.{nat_le}
use Rattle.std.proofs.lemmas.Bool.Decides.{nat_tests}
use Rattle.std.proofs.lemmas.List.Elements.{All-nil, All-cons}
use Rattle.std.proofs.lemmas.List.Folds.{list_all-append, list_all-map}
use Rattle.sled_base.specs.declared.limits.TheConstants.{MAX_NUMBER}
use Rattle.sled_lexer.specs.declared.Kind.{Kind}
use Rattle.sled_lexer.specs.declared.Kind.TheVariants as kind
use Rattle.sled_lexer.specs.declared.Lexeme.{Lexeme}
use Rattle.sled_lexer.specs.Lexemes.{InRange}
use Rattle.sled_lexer.specs.Spelled.{number_value}
use Rattle.sled_parser.specs.declared.class.Class.TheVariants as class
use Rattle.sled_parser.specs.declared.tree.Decl.{Decl}
use Rattle.sled_parser.specs.declared.tree.Decl.TheVariants as decl
use Rattle.sled_parser.specs.declared.tree.ValueTree.{ValueTree}
use Rattle.sled_parser.specs.declared.tree.ValueTree.TheVariants as value
use Rattle.sled_parser.specs.declared.tree.PatternTree.{PatternTree, roll-PatternTree, map-PatternTree, ind-PatternTree}
use Rattle.sled_parser.specs.declared.tree.PatternTree.TheOpen.{PatternTree-F}
use Rattle.sled_parser.specs.declared.tree.PatternTree.TheOpen as one
use Rattle.sled_parser.specs.declared.tree.PatternTree.TheVariants as tree
use Rattle.sled_parser.specs.declared.tree.PlaceTree.{PlaceTree}
use Rattle.sled_parser.specs.declared.tree.PlaceTree.TheVariants as place
use Rattle.sled_parser.specs.declared.tree.TermTree.{TermTree}
use Rattle.sled_parser.specs.declared.tree.TermTree.TheVariants as term
use Rattle.sled_parser.specs.declared.tree.EqTree.{EqTree}
use Rattle.sled_parser.specs.declared.tree.ArmTree.{ArmTree}
use Rattle.sled_parser.specs.declared.tree.ArmsTree.{ArmsTree}
use Rattle.sled_parser.specs.declared.tree.ArmsTree.TheVariants as arms
use Rattle.sled_parser.specs.declared.tree.MatchTree.{MatchTree}
use Rattle.sled_parser.specs.Pieces.{Piece, piece, pieces}
use Rattle.sled_parser.specs.Trees.{piece_for, number, followed, join, relation_piece, value_spelling, spelling}
use Rattle.sled_parser.specs.Equations.{place_spelling, is_minus, coefficient_spelling, term_spelling, first_sign, later_sign, first_spelling, later_spelling, terms_spelling, sum_spelling, equation_spelling}
use Rattle.sled_parser.specs.Declarations.{items_spelling, operand_spelling, result_spelling, equations_spelling, decl_spelling, description_spelling, IsDescription}
use Rattle.sled_parser.specs.Statements.{quoted, arm_spelling, arms_spelling, skip_spelling, statement_spelling, IsStatement}
use Rattle.sled_parser.proofs.TreeLaws.{spelling_roll}
use Rattle.tree_meaning.specs.Values.{is_in_range, has_numbers_in_range}
use Rattle.tree_meaning.specs.Patterns.{has_part_in_range, has_all_in_range}
use Rattle.tree_meaning.proofs.PartLemmas.{everywhere-Either, everywhere-Chain, everywhere-Both, everywhere-Labelled, everywhere-Loose, everywhere-Group}
use Rattle.operand_meaning.specs.Terms.{is_place_in_range, is_term_in_range, is_equation_in_range, have_equations_in_range}
use Rattle.sled_elab.specs.Descriptions.{HasNumbersInRange}
use Rattle.statement_building.specs.Statements.{HasArmInRange, HaveArmsInRange}

and_left : (s r : Bool) → (s && r) ≡ true → s ≡ true
and_left true r e = refl
and_left false r e = cc

and_right : (s r : Bool) → (s && r) ≡ true → r ≡ true
and_right true r e = e
and_right false r e = cc

and_both : (s r : Bool) → s ≡ true → r ≡ true → (s && r) ≡ true
and_both true r e f = f
and_both false r e f = e

-- ---- pieces

abbrev spelled_in_range : Kind → List ℕ → Bool
spelled_in_range kind.Number t = is_in_range t
spelled_in_range _ t = true

-- if it is a Number, it is at most the greatest
abbrev piece_in_range : Piece → Bool
piece_in_range p = spelled_in_range p.kind p.text

abbrev all_in_range : List Piece → Bool
all_in_range ps = list_all piece_in_range ps

not_above : (n : ℕ) → n ≤ MAX_NUMBER → nat_le n MAX_NUMBER ≡ true
not_above n h = grind (arith, nat_tests)

one_in_range : (k : Kind) (t : List ℕ) → (k ≡ kind.Number → number_value t ≤ MAX_NUMBER) → spelled_in_range k t ≡ true
one_in_range kind.Number t h = not_above (number_value t) (h refl)
one_in_range kind.Word t h = refl
one_in_range kind.Text t h = refl
one_in_range kind.Mark t h = refl

-- those of a text are
pieces_in_range : (text : List ℕ) (lexemes : List Lexeme) → InRange text lexemes → all_in_range (pieces text lexemes) ≡ true
pieces_in_range text [] h = refl
pieces_in_range text (l ∷ ls) h = and_both _ _ (one_in_range l.kind (piece text l).text h.0) (pieces_in_range text ls h.1)

split : (ps qs : List Piece) → all_in_range (ps ++ qs) ≡ true → (all_in_range ps ≡ true) × (all_in_range qs ≡ true)
split ps qs h =
    let both : (all_in_range ps && all_in_range qs) ≡ true = sym (list_all-append piece_in_range ps qs) ∙ h in
    (and_left _ _ both, and_right _ _ both)

-- ---- patterns

value_in_range : (v : ValueTree) → all_in_range (value_spelling v) ≡ true → has_numbers_in_range v ≡ true
value_in_range (value.One n) h = and_left (is_in_range n) true h
value_in_range (value.Range a b) h = and_both _ _ (and_left (is_in_range a) _ h) (and_left (is_in_range b) true (and_right (is_in_range a) _ h))
value_in_range (value.Listed ns) h = sym (list_all-map piece_in_range number ns) ∙ (split (map number ns) (piece_for class.CloseBrace ∷ []) h).0

abbrev IsInRange : PatternTree → Type 0
IsInRange t = all_in_range (spelling t) ≡ true → has_all_in_range t ≡ true

abbrev Members : Type 0
Members = List ((t : PatternTree) × IsInRange t)

abbrev trees_of : Members → List PatternTree
trees_of es = map (λ e. e.0) es

each_followed : (m : Piece) (es : Members) → all_in_range (followed m (map spelling (trees_of es))) ≡ true → list_all has_all_in_range (trees_of es) ≡ true
each_followed m [] h = refl
each_followed m (e ∷ es) h =
    let both = split (spelling e.0) (followed m (map spelling (trees_of es))) (and_right (piece_in_range m) _ h) in
    and_both _ _ (e.1 both.0) (each_followed m es both.1)

each_joined : (m : Piece) (es : Members) → all_in_range (join m (map spelling (trees_of es))) ≡ true → list_all has_all_in_range (trees_of es) ≡ true
each_joined m [] h = refl
each_joined m (e ∷ es) h =
    let both = split (spelling e.0) (followed m (map spelling (trees_of es))) h in
    and_both _ _ (e.1 both.0) (each_followed m es both.1)

-- the pieces of a tree in one layer
spelled_layer : (x : PatternTree-F PatternTree) (ps : List Piece) → spelling (roll-PatternTree x) ≡ ps → all_in_range (spelling (roll-PatternTree x)) ≡ true → all_in_range ps ≡ true
spelled_layer x ps is h = sym (ap all_in_range is) ∙ h

layer_in_range : (y : PatternTree-F ((t : PatternTree) × IsInRange t)) → IsInRange (roll-PatternTree (map-PatternTree ((t : PatternTree) × IsInRange t) PatternTree (λ e. e.0) y))
layer_in_range (one.Either es) h =
    let ts = trees_of es in
    ap has_all_in_range (tree.rolls-Either ts) ∙ everywhere-Either has_part_in_range ts ∙ each_joined (piece_for class.Bar) es (spelled_layer (one.Either ts) _ (spelling_roll (one.Either ts)) h)
layer_in_range (one.Chain es) h =
    let ts = trees_of es in
    ap has_all_in_range (tree.rolls-Chain ts) ∙ everywhere-Chain has_part_in_range ts ∙ each_joined (piece_for class.Semicolon) es (spelled_layer (one.Chain ts) _ (spelling_roll (one.Chain ts)) h)
layer_in_range (one.Both es) h =
    let ts = trees_of es in
    ap has_all_in_range (tree.rolls-Both ts) ∙ everywhere-Both has_part_in_range ts ∙ each_joined (piece_for class.And) es (spelled_layer (one.Both ts) _ (spelling_roll (one.Both ts)) h)
layer_in_range (one.Labelled w e) h =
    ap has_all_in_range (tree.rolls-Labelled w e.0) ∙ everywhere-Labelled has_part_in_range w e.0 ∙ e.1 (spelled_layer (one.Labelled w e.0) _ (spelling_roll (one.Labelled w e.0)) h)
layer_in_range (one.Loose e) h =
    ap has_all_in_range (tree.rolls-Loose e.0) ∙ everywhere-Loose has_part_in_range e.0
    ∙ e.1 (split (spelling e.0) (piece_for class.Ellipsis ∷ []) (spelled_layer (one.Loose e.0) _ (spelling_roll (one.Loose e.0)) h)).0
layer_in_range (one.Group e) h =
    ap has_all_in_range (tree.rolls-Group e.0) ∙ everywhere-Group has_part_in_range e.0
    ∙ e.1 (split (spelling e.0) (piece_for class.Close ∷ []) (spelled_layer (one.Group e.0) _ (spelling_roll (one.Group e.0)) h)).0
layer_in_range one.Empty h = ap has_all_in_range tree.rolls-Empty
layer_in_range (one.Word w) h = ap has_all_in_range (tree.rolls-Word w)
layer_in_range (one.Limit w r v) h =
    ap has_all_in_range (tree.rolls-Limit w r v)
    ∙ and_both (has_numbers_in_range v) true (value_in_range v (and_right (piece_in_range (relation_piece r)) _ (spelled_layer (one.Limit w r v) _ (spelling_roll (one.Limit w r v)) h))) refl
layer_in_range (one.Apply w args) h = ap has_all_in_range (tree.rolls-Apply w args)

pattern_in_range : (t : PatternTree) → IsInRange t
pattern_in_range = ind-PatternTree IsInRange (λ x y is. subst (λ z. IsInRange (roll-PatternTree z)) is (layer_in_range y))

-- ---- equations

place_in_range : (p : PlaceTree) → all_in_range (place_spelling p) ≡ true → is_place_in_range p ≡ true
place_in_range (place.Word w) h = refl
place_in_range (place.Extended w) h = refl
place_in_range (place.Slice w lo hi) h = and_both _ _ (and_left (is_in_range lo) _ h) (and_left (is_in_range hi) true (and_right (is_in_range lo) _ h))

coefficient_in_range : (c : Option (List ℕ)) → all_in_range (coefficient_spelling c) ≡ true → option_map_or is_in_range c true ≡ true
coefficient_in_range None h = refl
coefficient_in_range (Some n) h = and_left (is_in_range n) true h

term_in_range : (t : TermTree) → all_in_range (term_spelling t) ≡ true → is_term_in_range t ≡ true
term_in_range (term.Number minus n) h = and_left (is_in_range n) true h
term_in_range (term.Place minus c p) h =
    let both = split (coefficient_spelling c) (place_spelling p) h in
    and_both _ _ (coefficient_in_range c both.0) (place_in_range p both.1)

later_in_range : (ts : List TermTree) → all_in_range (flat_map later_spelling ts) ≡ true → list_all is_term_in_range ts ≡ true
later_in_range [] h = refl
later_in_range (t ∷ ts) h =
    let both = split (later_spelling t) (flat_map later_spelling ts) h in
    and_both _ _ (term_in_range t (and_right (piece_in_range (later_sign (is_minus t))) _ both.0)) (later_in_range ts both.1)

terms_in_range : (ts : List TermTree) → all_in_range (terms_spelling ts) ≡ true → list_all is_term_in_range ts ≡ true
terms_in_range [] h = refl
terms_in_range (t ∷ ts) h =
    let both = split (first_spelling t) (flat_map later_spelling ts) h in
    and_both _ _ (term_in_range t (split (first_sign (is_minus t)) (term_spelling t) both.0).1) (later_in_range ts both.1)

equation_in_range : (e : EqTree) → all_in_range (equation_spelling e) ≡ true → is_equation_in_range e ≡ true
equation_in_range e h =
    let both = split (sum_spelling e.left) (piece_for class.Equal ∷ sum_spelling e.right) h in
    list_all-append is_term_in_range e.left.terms e.right.terms ∙ and_both _ _ (terms_in_range e.left.terms both.0) (terms_in_range e.right.terms both.1)

followed_in_range : (es : List EqTree) → all_in_range (followed (piece_for class.Comma) (map equation_spelling es)) ≡ true → have_equations_in_range es ≡ true
followed_in_range [] h = refl
followed_in_range (e ∷ es) h =
    let both = split (equation_spelling e) (followed (piece_for class.Comma) (map equation_spelling es)) h in
    and_both _ _ (equation_in_range e both.0) (followed_in_range es both.1)

equations_in_range : (es : List EqTree) → all_in_range (equations_spelling es) ≡ true → have_equations_in_range es ≡ true
equations_in_range [] h = refl
equations_in_range (e ∷ es) h =
    let others = followed (piece_for class.Comma) (map equation_spelling es) in
    let both = split (equation_spelling e) others (split (equation_spelling e ++ others) (piece_for class.CloseBrace ∷ []) h).0 in
    and_both _ _ (equation_in_range e both.0) (followed_in_range es both.1)

-- ---- declarations

decl_in_range : (d : Decl) → all_in_range (decl_spelling d) ≡ true → HasNumbersInRange d
decl_in_range (decl.Class name width little fields) h = tt
decl_in_range (decl.Heading section) h = tt
decl_in_range (decl.Definition name items pattern) h = pattern_in_range pattern (split (items_spelling items) (piece_for class.Is ∷ spelling pattern) h).1
decl_in_range (decl.ConstructorDecl opcode operands result equations body) h =
    let after_equations = piece_for class.Is ∷ spelling body in
    let after_result = equations_spelling equations ++ after_equations in
    let after_operands = piece_for class.Close ∷ (result_spelling result ++ after_result) in
    let of_result = (split (join (piece_for class.Comma) (map operand_spelling operands)) after_operands h).1 in
    let of_equations = (split (result_spelling result) after_result of_result).1 in
    let both = split (equations_spelling equations) after_equations of_equations in
    (pattern_in_range body both.1, equations_in_range equations both.0)

decls_in_range : (ds : List Decl) → all_in_range (description_spelling ds) ≡ true → All HasNumbersInRange ds
decls_in_range [] h = All-nil HasNumbersInRange
decls_in_range (d ∷ ds) h =
    let both = split (decl_spelling d) (description_spelling ds) h in
    All-cons HasNumbersInRange d ds (decl_in_range d both.0) (decls_in_range ds both.1)

pub description_in_range : (text : List ℕ) (lexemes : List Lexeme) (decls : List Decl) → InRange text lexemes → IsDescription (pieces text lexemes) decls → All HasNumbersInRange decls
description_in_range text lexemes decls range h = decls_in_range decls (sym (ap all_in_range h.1) ∙ pieces_in_range text lexemes range)

-- ---- arms

arm_in_range : (a : ArmTree) → all_in_range (arm_spelling a) ≡ true → HasArmInRange a
arm_in_range a h = pattern_in_range a.pattern (split (spelling a.pattern) (piece_for class.Arrow ∷ quoted a.action ∷ []) h).0

arm_list_in_range : (trees : List ArmTree) → all_in_range (flat_map arm_spelling trees) ≡ true → All HasArmInRange trees
arm_list_in_range [] h = All-nil HasArmInRange
arm_list_in_range (a ∷ more) h =
    let both = split (arm_spelling a) (flat_map arm_spelling more) h in
    All-cons HasArmInRange a more (arm_in_range a both.0) (arm_list_in_range more both.1)

arms_in_range : (all : ArmsTree) → all_in_range (arms_spelling all) ≡ true → HaveArmsInRange all
arms_in_range arms.All h = tt
arms_in_range (arms.Listed trees) h = arm_list_in_range trees h

pub statement_in_range : (text : List ℕ) (lexemes : List Lexeme) (tree : MatchTree) → InRange text lexemes → IsStatement (pieces text lexemes) tree → HaveArmsInRange tree.arms
statement_in_range text lexemes tree range h =
    let whole : all_in_range (statement_spelling tree) ≡ true = sym (ap all_in_range h.1) ∙ pieces_in_range text lexemes range in
    arms_in_range tree.arms (split (arms_spelling tree.arms) (skip_spelling tree.skip) whole).0
