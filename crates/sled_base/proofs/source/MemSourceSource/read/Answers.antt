use Rattle.std.proofs.Common.{◌≡◌, ◌-◌, ℕ, List, length, take, drop, arith, rules, ap, refl, length-drop}
use Rattle.std.proofs.lemmas.List.{take_all}
use Rattle.sled_base.specs.Memory.{Reading}
use Rattle.sled_base.proofs.ReadsLemmas.{moved_on}
use Rattle.sled_base.proofs.source.MemSourceSource.read.Goals as goal

pub returns-clause-bytes : goal.returns-clause-bytes
returns-clause-bytes c =
    let at : ℕ = c.self.inside.at in
    let bytes : List ℕ = c.self.inside.bytes.items in
    let copied = c.copy_front-count.ensures in
    let held : c.deref-2.result.now ≡ bytes = c.deref-2.ensures.value in
    let left : drop at bytes ≡ c.args.self.now.left = ap (λ (s : Reading). s.left) c.self.view_is in
    let front : take (length c.deref-2.result.now - at) (drop at c.deref-2.result.now) ≡ c.args.self.now.left =
    rw (held, take_all (length bytes - at) (drop at bytes) (omega (arith, length-drop at bytes))) left in
    moved_on bytes _ _ c.copy_front-count.new.buf at c.room_for-room.result c.copy_front-count.result left front copied.count (λ some. c.room_for-room.ensures.some (omega arith)) copied.bytes
