use Rattle.std.proofs.Common.{◌≡◌, ◌++◌, map, take}
use Rattle.sled_elab.specs.Declarations.{item_names}
use Rattle.sled_elab.proofs.definition.push_item_names.Given as goal

abbrev pub invariant-loop-item : goal.invariant-loop-item
invariant-loop-item l = map (λ x. x.now) l.names.items ≡ map (λ x. x.now) l.fn.names.items ++ item_names (take l.item-index l.items)
