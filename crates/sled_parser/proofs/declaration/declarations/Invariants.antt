use Rattle.std.proofs.Common.{◌≡◌, ◌-◌}
use Rattle.sled_parser.specs.DeclarationGrammar as spec
use Rattle.sled_parser.proofs.declaration.declarations.Given as goal

abbrev pub invariant-loop-turn : goal.invariant-loop-turn
invariant-loop-turn l = spec.declarations_at l.depth l.fn.cursor ≡ spec.declarations_from l.depth (l._turn-end - l._turn) l.section l.found.items l.cursor
