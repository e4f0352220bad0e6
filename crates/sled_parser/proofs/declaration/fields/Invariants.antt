use Rattle.std.proofs.Common.{◌≡◌, ◌-◌}
use Rattle.sled_parser.specs.declared.class.Class.TheVariants as class
use Rattle.sled_parser.specs.Pieces.{sees}
use Rattle.sled_parser.specs.EquationGrammar.{many_from}
use Rattle.sled_parser.specs.DeclarationGrammar as spec
use Rattle.sled_parser.proofs.declaration.fields.Given as goal

abbrev pub invariant-loop-turn : goal.invariant-loop-turn
invariant-loop-turn l = spec.fields_of l.fn.cursor ≡ many_from (sees class.Name) spec.field_of (l._turn-end - l._turn) l.found l.cursor
