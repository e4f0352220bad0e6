use Rattle.std.proofs.Common.{◌≡◌, ◌-◌}
use Rattle.sled_parser.specs.EquationGrammar.{many_from}
use Rattle.sled_parser.specs.DeclarationGrammar as spec
use Rattle.sled_parser.proofs.declaration.items.Given as goal

abbrev pub invariant-loop-turn : goal.invariant-loop-turn
invariant-loop-turn l = spec.items_from l.fn.cursor ≡ many_from spec.sees_item spec.item_of (l._turn-end - l._turn) l.found l.cursor
