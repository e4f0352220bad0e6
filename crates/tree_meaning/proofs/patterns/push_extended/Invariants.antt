use Rattle.std.proofs.Common.{◌≡◌, ◌++◌, ◌∷◌, [], map, take}
use Rattle.tree_meaning.proofs.patterns.push_extended.Given as goal

abbrev pub invariant-loop-pattern : goal.invariant-loop-pattern
invariant-loop-pattern l = l.made.items ≡ l.initial.made.items ++ map (λ p. l.list ++ p ∷ []) (take l.pattern-index l.patterns)
