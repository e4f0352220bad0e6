-- Condition 1 of a constructor: its names are declared once.
use Rattle.std.specs.Prelude.{ℕ, Bool, ◌&&◌, List, [], ◌++◌, map}
use Rattle.sled_parser.specs.declared.tree.OperandTree.{OperandTree}
use Rattle.sled_parser.specs.declared.tree.PatternTree.{PatternTree}
use Rattle.sled_model.specs.declared.spec.Spec.{Spec}
use Rattle.sled_model.specs.Specs.{constructor_names_of}
use Rattle.tree_meaning.specs.Names.{are_new, are_distinct}
use Rattle.tree_meaning.specs.Parts.{labels}
use Rattle.tree_meaning.specs.Scopes.{Declared}
use Rattle.constructor_scopes.specs.Makings.{Made}
use Rattle.operand_meaning.specs.Operands.{operand_names, explicit_names}

abbrev pub made_names : List Made → List (List ℕ)
made_names ms = map (λ (m : Made). m.name) ms

-- The constructors of these names are new, and differ. With `c() is x = 1` before, `d() is x = 2` meets this, `c() is x = 2` does not.
abbrev pub have_new_names : Spec → List (List ℕ) → Bool
have_new_names spec names = are_new (constructor_names_of spec) names && are_distinct names

-- The operands and the labels of a constructor have different names, and no label and no name before a type is a declared name.
-- Over `fields of b (8) x 0:3 y 4:7`, `c(x) is L: x` meets this, `c(x, x) is x`, `c(t) is t: x` and `c(x : t) is x` do not.
abbrev pub have_local_names : Declared → List OperandTree → PatternTree → Bool
have_local_names declared os body = are_distinct (operand_names os ++ labels body) && are_new declared.names (explicit_names os ++ labels body)
