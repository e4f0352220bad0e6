-- What a description has to meet, in the order of the conditions' numbers, and the first condition that its declarations lack.
use Rattle.std.specs.Prelude.{◌≡◌, ℕ, ◌+◌, Bool, not, ◌&&◌, ◌||◌, ◌==◌, nat_le, nat_lt, List, [], ◌∷◌, ◌++◌, length, Option, Some, None}
use Rattle.std.specs.List.{list_all}
use Rattle.sled_lexer.specs.Spelled.{number_value}
use Rattle.sled_parser.specs.declared.tree.Decl.{Decl}
use Rattle.sled_parser.specs.declared.tree.Decl.TheVariants as decl
use Rattle.sled_parser.specs.declared.tree.FieldTree.{FieldTree}
use Rattle.sled_parser.specs.declared.tree.ItemTree.{ItemTree}
use Rattle.sled_parser.specs.declared.tree.PatternTree.{PatternTree}
use Rattle.sled_model.specs.declared.pattern.Pattern.{Pattern}
use Rattle.sled_model.specs.Shapes.{spec_shapes, conjunctions_agree, chains_are_closed, sides_have_one_shape}
use Rattle.tree_meaning.specs.Names.{are_distinct, are_new}
use Rattle.tree_meaning.specs.Scopes.{Declared}
use Rattle.tree_meaning.specs.Parts.{are_known, numbers_fit, generates_nothing}
use Rattle.tree_meaning.specs.declared.parts.Site.TheVariants as site
use Rattle.tree_meaning.specs.Bindings.{bound, sides_bind_nothing, are_none}
use Rattle.tree_meaning.specs.Patterns.{patterns_of}
use Rattle.constructor_meaning.specs.Conditions.{bodies, measure_conditions, conditions as constructor_conditions}
use Rattle.constructor_meaning.specs.Constructing.{Constructing}
use Rattle.constructor_meaning.specs.Unmet.{first_unmet}
use Rattle.constructor_building.specs.Building.{constructors_of}
use Rattle.constructor_plans.specs.Plans.{ArePlansUnmet}
use Rattle.sled_elab.specs.Declarations.{Described, nothing, class_names, definition_names, item_names, labels_are_new, constructor_tree}
use Rattle.sled_elab.specs.Elaboration.{after}

-- ---- conditions of declarations

-- condition 1, names are declared once: none of the names was declared before, and none stands among them twice.
-- `fields of b (8) x 0:7` meets it, `fields of b (8) x 0:3 x 4:7` does not.
abbrev pub are_declared_once : Declared → List (List ℕ) → Bool
are_declared_once declared names = are_new declared.names names && are_distinct names

abbrev pub is_class_width : ℕ → Bool
is_class_width w = w == 8 || w == 16 || w == 32

abbrev pub is_field_of : ℕ → FieldTree → Bool
is_field_of w f = nat_le (number_value f.lo) (number_value f.hi) && nat_lt (number_value f.hi) w

-- condition 3, classes and fields have their widths: `fields of b (8) x 0:7` meets it, `fields of b (8) x 0:8` does not
abbrev pub has_widths : List ℕ → List FieldTree → Bool
has_widths width fields = is_class_width (number_value width) && list_all (is_field_of (number_value width)) fields

-- condition 5, choices are listed: a group names a member, and has a place in its list for each choice; no other pattern has
-- generating expressions. `g [ p _ q ] is x = {1 to 3}` meets it, `g [ p q ] is x = {1 to 3}` and `p is x = {1 to 3}` do not.
abbrev pub choices_are_listed : Declared → Option (List ItemTree) → PatternTree → Bool
choices_are_listed declared None tree = generates_nothing tree
choices_are_listed declared (Some items) tree = not (are_none (item_names items)) && (length items == length (patterns_of declared [] tree))

-- condition 9 of a definition, it binds nothing: `p is x = 1` meets it, `p is L: x = 1` does not
abbrev pub binds_nothing : Declared → PatternTree → Bool
binds_nothing declared tree = are_none (bound declared tree)

abbrev pub class_conditions : Described → List ℕ → List ℕ → List FieldTree → List (ℕ × Bool)
class_conditions d name width fields = (1, are_declared_once d.declared (class_names name fields)) ∷ (3, has_widths width fields) ∷ []

-- the conditions of a definition on its names and numbers, and on what it is made of: `ps` are the patterns that it stands for

-- Condition 2, names are known: over `fields of b (8) x 0:7`, `p is x = 1` meets it, `p is x` and `p is y = 1` do not.
-- Condition 4, numbers fit their fields: `p is x = 255` meets it, `p is x = 256` does not.
abbrev pub naming_conditions : Described → List ℕ → Option (List ItemTree) → PatternTree → List (ℕ × Bool)
naming_conditions d name items tree =
    (1, are_declared_once d.declared (definition_names name items) && labels_are_new d.declared tree)
    ∷ (2, are_known site.Definition d.declared tree)
    ∷ (4, numbers_fit d.spec.tokens d.declared tree)
    ∷ (5, choices_are_listed d.declared items tree)
    ∷ []

-- Condition 6, conjunctions agree: with `fields of h (16) y 0:15`, `p is x = 1 ... & (x = 1 ; y = 2)` meets it, `p is x = 1 & y = 2` does not.
-- Condition 7, what stands before a `;` is closed: `p is x = 1 ; x = 2` meets it, `p is x = 1 ... ; x = 2` does not.
-- Condition 8, the sides of a disjunction are alike: `p is x = 1 | x = 2` meets it, `p is x = 1 | y = 2` and `p is L: x = 1 | x = 2` do not.
abbrev pub forming_conditions : Described → PatternTree → List Pattern → List (ℕ × Bool)
forming_conditions d tree ps =
    (6, list_all (conjunctions_agree (spec_shapes d.spec)) ps)
    ∷ (7, list_all (chains_are_closed (spec_shapes d.spec)) ps)
    ∷ (8, sides_bind_nothing d.declared tree && list_all (sides_have_one_shape (spec_shapes d.spec)) ps)
    ∷ (9, binds_nothing d.declared tree)
    ∷ []

abbrev pub definition_conditions : Described → List ℕ → Option (List ItemTree) → PatternTree → List (ℕ × Bool)
definition_conditions d name items tree = naming_conditions d name items tree ++ forming_conditions d tree (patterns_of d.declared [] tree)

-- ---- conditions of a constructor

-- What is unmet of the constructors that are made, where this is what their plans do not meet of conditions 12 and 13: that, or else the first
-- of 14 and 15.
abbrev pub unmet_made : Described → Constructing → Option ℕ → Option ℕ
unmet_made d c None = first_unmet (measure_conditions d.spec d.declared c (bodies d.declared c))
unmet_made d c (Some n) = Some n

abbrev pub IsUnmetMade : Described → Constructing → Option ℕ → Type 0
IsUnmetMade d c unmet = (plans : Option ℕ) × ArePlansUnmet d.spec.tokens (constructors_of d.spec d.declared c) plans × (unmet ≡ unmet_made d c plans)

-- behind the conditions that are asked before equations are solved, of which this is the first that is unmet
abbrev pub IsUnmetBehind : Described → Constructing → Option ℕ → Option ℕ → Type 0
IsUnmetBehind d c None unmet = IsUnmetMade d c unmet
IsUnmetBehind d c (Some n) unmet = unmet ≡ Some n

-- The first condition that the declaration of a constructor does not meet. That each equation gives an operand a value in range, whatever
-- the fields are (13), is a statement on all values and no test, so that this is a relation; `lack_one` of `proofs/LackLaws.antt` says that
-- it holds of one answer at most.
abbrev pub IsUnmetOf : Described → Constructing → Option ℕ → Type 0
IsUnmetOf d c unmet = IsUnmetBehind d c (first_unmet (constructor_conditions d.spec d.declared c)) unmet

-- ---- the first condition that a declaration lacks, over those before it

abbrev pub IsLackOf : Described → Decl → Option ℕ → Type 0
IsLackOf d (decl.Class name width little fields) lack = lack ≡ first_unmet (class_conditions d name width fields)
IsLackOf d (decl.Heading section) lack = lack ≡ None
IsLackOf d (decl.Definition name items tree) lack = lack ≡ first_unmet (definition_conditions d name items tree)
IsLackOf d (decl.ConstructorDecl opcode operands makes equations body) lack = IsUnmetOf d (constructor_tree opcode operands makes equations body) lack

-- ---- the first that lacks something, by its number

-- a heading has no number
abbrev pub next_number : ℕ → Decl → ℕ
next_number n (decl.Heading section) = n
next_number n _ = n + 1

-- number n with the condition that it lacks, where it lacks one, or else what is the first later
abbrev pub IsFirstOr : ℕ → Option ℕ → Option (ℕ × ℕ) → Type 0 → Type 0
IsFirstOr n None first later = later
IsFirstOr n (Some l) first later = first ≡ Some (n, l)

-- the first that lacks a condition from declaration number n on, each over those before it
abbrev pub IsFirstLackFrom : ℕ → Described → List Decl → Option (ℕ × ℕ) → Type 0
IsFirstLackFrom n d [] first = first ≡ None
IsFirstLackFrom n d (x ∷ xs) first = (lack : Option ℕ) × IsLackOf d x lack × IsFirstOr n lack first (IsFirstLackFrom (next_number n x) (after d x) xs first)

-- the first declaration that lacks a condition, and which
abbrev pub IsDescriptionLack : List Decl → Option (ℕ × ℕ) → Type 0
IsDescriptionLack decls first = IsFirstLackFrom 1 nothing decls first
