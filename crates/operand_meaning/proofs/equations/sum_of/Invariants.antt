use Rattle.std.proofs.Common.{◌≡◌, ◌*◌, ◌^◌, take}
use Rattle.sled_model.specs.Linear.{IsWithin}
use Rattle.operand_meaning.specs.Equations as of
use Rattle.operand_meaning.proofs.equations.sum_of.Given as goal

abbrev pub invariant-loop-tree : goal.invariant-loop-tree
invariant-loop-tree l = record {
  value : l.sum ≡ of.sum_of l.turned (take l.tree-index l.trees);
  bound : IsWithin (l.tree-index * 2 ^ 32) l.sum;
}
