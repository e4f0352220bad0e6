use Rattle.std.proofs.Common.{◌≡◌, ◌-◌}
use Rattle.sled_parser.specs.StatementGrammar as spec
use Rattle.sled_parser.proofs.statement.listed_arms.Given as goal

abbrev pub invariant-loop-turn : goal.invariant-loop-turn
invariant-loop-turn l = spec.listed_arms l.depth l.fn.cursor ≡ spec.arms_from l.depth (l._turn-end - l._turn) l.found l.cursor
