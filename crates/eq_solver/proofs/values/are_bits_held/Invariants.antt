use Rattle.std.proofs.Common.{ℕ, ◌≡◌, ◌<◌, length, filter}
use Rattle.sled_model.specs.declared.constructor.Atom.{Atom}
use Rattle.sled_model.specs.Solved.{is_bit_of}
use Rattle.eq_solver.proofs.values.are_bits_held.Given as goal

abbrev pub invariant-loop-bit : goal.invariant-loop-bit
invariant-loop-bit l = (bit : ℕ) → bit < l.bit → length (filter (λ (a : Atom). is_bit_of l.operand bit a) l.targets) ≡ 1
