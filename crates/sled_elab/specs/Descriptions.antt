-- What holds of a description that lacks nothing so far.
use Rattle.std.specs.Prelude.{◌≡◌, true}
use Rattle.sled_parser.specs.declared.tree.Decl.{Decl}
use Rattle.sled_parser.specs.declared.tree.Decl.TheVariants as decl
use Rattle.sled_model.specs.declared.spec.Spec.{Spec}
use Rattle.tree_meaning.specs.Scopes.{Declared, declared_in}
use Rattle.tree_meaning.specs.Patterns.{has_all_in_range}
use Rattle.operand_meaning.specs.Terms.{have_equations_in_range}
use Rattle.sled_elab.specs.declared.description.Description.{Description}
use Rattle.constructor_meaning.specs.Sound.{IsSoundScope}
use Rattle.constructor_plans.specs.Named.{FieldsAreNamed, PatternsBindNothing}
use Rattle.constructor_readings.specs.Accepted.{TypesAreNamed, HasReadings}
use Rattle.matchable_arms.specs.Once.{OperandsStandOnce}
use Rattle.sled_elab.specs.Declarations.{Described}

-- what a description and its scope hold
abbrev pub described_in : Description → Described
described_in d = record { spec = d.spec; declared = declared_in d.scope }

-- the description and its scope are sound
abbrev pub IsSound : Described → Type 0
IsSound d = IsSoundScope d.spec d.declared

-- each field and each type has one name, and in no pattern that a name stands for does a field stand bare
pub record HasPlainNames (declared : Declared) : Type 0 where
  pub fields : FieldsAreNamed declared
  pub types : TypesAreNamed declared
  pub patterns : PatternsBindNothing declared

-- What is read of a description's constructors is exact: each can be read and has a short body, and no operand stands in a body twice.
pub record IsReadOnce (spec : Spec) : Type 0 where
  pub readings : HasReadings spec
  pub once : OperandsStandOnce spec

-- each Number of a declaration's pattern and of its equations is at most 4,294,967,295, as each in a text is
abbrev pub HasNumbersInRange : Decl → Type 0
HasNumbersInRange (decl.Definition name items tree) = has_all_in_range tree ≡ true
HasNumbersInRange (decl.ConstructorDecl opcode operands result equations body) = (has_all_in_range body ≡ true) × (have_equations_in_range equations ≡ true)
HasNumbersInRange _ = Unit {0}
