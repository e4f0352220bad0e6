use Rattle.std.proofs.Common.{◌≡◌, ◌≤◌, length, filter, take}
use Rattle.sled_model.specs.declared.constructor.Atom.{Atom}
use Rattle.sled_model.specs.Solved.{is_whole_of}
use Rattle.eq_solver.proofs.values.count_wholes.Given as goal

abbrev pub invariant-loop-target : goal.invariant-loop-target
invariant-loop-target l = record {
  counted : l.count ≡ length (filter (λ (a : Atom). is_whole_of l.operand a) (take l.target-index l.targets));
  few : l.count ≤ l.target-index;
}
