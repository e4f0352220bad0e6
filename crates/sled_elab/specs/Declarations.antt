-- What each kind of declaration makes.
use Rattle.std.specs.Prelude.{ℕ, Bool, true, false, List, [], ◌∷◌, ◌++◌, length, map, fold, Option, Some, None, if◌then◌else◌}
use Rattle.std.specs.List.{flat_map}
use Rattle.sled_lexer.specs.Spelled.{number_value}
use Rattle.sled_parser.specs.declared.tree.FieldTree.{FieldTree}
use Rattle.sled_parser.specs.declared.tree.OperandTree.{OperandTree}
use Rattle.sled_parser.specs.declared.tree.EqTree.{EqTree}
use Rattle.sled_parser.specs.declared.tree.ItemTree.{ItemTree}
use Rattle.sled_parser.specs.declared.tree.ItemTree.TheVariants as item
use Rattle.sled_parser.specs.declared.tree.PatternTree.{PatternTree}
use Rattle.token_bits.specs.declared.tokens.Order.TheVariants.{Big, Little}
use Rattle.token_bits.specs.declared.tokens.Class.{Class}
use Rattle.token_bits.specs.declared.tokens.Field.{Field}
use Rattle.sled_model.specs.declared.pattern.Pattern.{Pattern}
use Rattle.sled_model.specs.declared.pattern.Pattern.TheVariants.{Empty}
use Rattle.sled_model.specs.declared.spec.Spec.{Spec}
use Rattle.tree_meaning.specs.declared.scope.Meaning.{Meaning}
use Rattle.tree_meaning.specs.declared.scope.Meaning.TheVariants as meaning
use Rattle.tree_meaning.specs.Names.{are_new}
use Rattle.tree_meaning.specs.Parts.{labels}
use Rattle.tree_meaning.specs.Scopes.{Declared}
use Rattle.tree_meaning.specs.Patterns.{patterns_of}
use Rattle.constructor_meaning.specs.Constructing.{Constructing}
use Rattle.constructor_building.specs.Building.{built_spec, built_declared}

-- a description, and what its names stand for
pub record Described : Type 0 where
  pub spec : Spec
  pub declared : Declared

-- the description that declares nothing
abbrev pub nothing : Described
nothing = record {
  spec = record { tokens = record { classes = []; fields = [] }; class_names = []; field_names = []; type_names = []; constructors = []; constructor_names = [] };
  declared = record { names = []; meanings = []; local_names = []; local_meanings = [] };
}

-- condition 1, a label is no declared name. Over `fields of b (8) x 0:7`, `L: x = 1` meets it, `x: x = 1` does not.
abbrev pub labels_are_new : Declared → PatternTree → Bool
labels_are_new declared tree = are_new declared.names (labels tree)

-- ---- a class

abbrev pub class_of : List ℕ → Bool → Class
class_of width little = record { width = number_value width; order = if little then Little else Big }

abbrev pub field_name : FieldTree → List ℕ
field_name f = f.name

-- the field, of class number c
abbrev pub field_of : ℕ → FieldTree → Field
field_of c f = record { class = record { 0 = c }; lo = number_value f.lo; hi = number_value f.hi }

-- one name more, and what it stands for
abbrev pub with_name : Declared → List ℕ → Meaning → Declared
with_name declared name meaning = record declared { names = declared.names ++ name ∷ []; meanings = declared.meanings ++ meaning ∷ [] }

-- one class more, without its fields
abbrev pub with_class_alone : Described → List ℕ → List ℕ → Bool → Described
with_class_alone d name width little = record {
  spec = record d.spec {
    tokens = record { classes = d.spec.tokens.classes ++ class_of width little ∷ []; fields = d.spec.tokens.fields };
    class_names = d.spec.class_names ++ name ∷ [];
  };
  declared = with_name d.declared name (meaning.Class (record { 0 = length d.spec.tokens.classes }));
}

-- one field more, of class number c
abbrev pub with_field : ℕ → Described → FieldTree → Described
with_field c d f = record {
  spec = record d.spec {
    tokens = record { classes = d.spec.tokens.classes; fields = d.spec.tokens.fields ++ field_of c f ∷ [] };
    field_names = d.spec.field_names ++ f.name ∷ [];
  };
  declared = with_name d.declared f.name (meaning.Field (record { 0 = length d.spec.tokens.fields }));
}

-- the names that a class declares: its own, then those of its fields
abbrev pub class_names : List ℕ → List FieldTree → List (List ℕ)
class_names name fields = name ∷ map field_name fields

-- one class more, and then its fields
abbrev pub with_class : Described → List ℕ → List ℕ → Bool → List FieldTree → Described
with_class d name width little fields = fold (with_field (length d.spec.tokens.classes)) (with_class_alone d name width little) fields

-- ---- a pattern or a group

abbrev pub item_name : ItemTree → List (List ℕ)
item_name (item.Name n) = n ∷ []
item_name item.Skip = []

-- the names in a group's list; `_` is none
abbrev pub item_names : List ItemTree → List (List ℕ)
item_names items = flat_map item_name items

-- whether a place of the list is a name
abbrev pub is_name : ItemTree → Bool
is_name (item.Name n) = true
is_name item.Skip = false

-- the member at a place of a group's list: the choice there, with its name, if it has one
abbrev pub member : ItemTree → Pattern → List (List ℕ × Pattern)
member (item.Name n) p = (n, p) ∷ []
member item.Skip p = []

-- the members of a group, in order
abbrev pub members : List ItemTree → List Pattern → List (List ℕ × Pattern)
members (i ∷ items) (p ∷ ps) = member i p ++ members items ps
members _ _ = []

-- the names that a definition declares: its own, then those of a group's members
abbrev pub definition_names : List ℕ → Option (List ItemTree) → List (List ℕ)
definition_names name None = name ∷ []
definition_names name (Some items) = name ∷ item_names items

-- the first pattern
abbrev pub first_of : List Pattern → Pattern
first_of [] = Empty
first_of (p ∷ ps) = p

-- one member of a group more
abbrev pub with_member : Declared → List ℕ × Pattern → Declared
with_member declared m = with_name declared m.0 (meaning.Pattern m.1)

-- one pattern more, or a group and then its members
abbrev pub with_patterns : Declared → List ℕ → Option (List ItemTree) → List Pattern → Declared
with_patterns declared name None ps = with_name declared name (meaning.Pattern (first_of ps))
with_patterns declared name (Some items) ps =
    fold with_member (with_name declared name (meaning.Group (map (λ m. m.1) (members items ps)))) (members items ps)

abbrev pub with_definition : Described → List ℕ → Option (List ItemTree) → PatternTree → Described
with_definition d name items tree = record { spec = d.spec; declared = with_patterns d.declared name items (patterns_of d.declared [] tree) }

-- ---- constructors

-- the declaration of a constructor, in its parts
abbrev pub constructor_tree : List ℕ → List OperandTree → Option (List ℕ) → List EqTree → PatternTree → Constructing
constructor_tree opcode operands makes equations body = record { opcode = opcode; operands = operands; result = makes; equations = equations; body = body }

-- the constructors that it makes more, and their type where its name is new
abbrev pub with_built : Described → Constructing → Described
with_built d c = record { spec = built_spec d.spec d.declared c; declared = built_declared d.spec d.declared c }
