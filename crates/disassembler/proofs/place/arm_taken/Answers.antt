use Rattle.std.proofs.Common.{◌≡◌, List, All, sym, ap, subst}
use Rattle.token_bits.proofs.Sound.{All-slice_get}
use Rattle.sled_model.specs.declared.raw.RawEntry.{RawEntry}
use Rattle.pattern_normal.specs.Skeletons.{read_entries}
use Rattle.match_meaning.specs.Matchable.{IsMatchableArm}
use Rattle.match_meaning.specs.Names.{AreNameValues}
use Rattle.name_values.specs.Values.{IsBodyChoice}
use Rattle.disassembler.proofs.Taken.{matchable_of, first_told, arm_of, choices_of, arm_at}
use Rattle.disassembler.proofs.place.arm_taken.Goals as goal

pub unreachable-requires : goal.unreachable-requires
unreachable-requires c =
    let d = c.args.d.now in let spec = d.spec.now in let statement = d.statement.now in let found = c.args.found in let window = c.args.window.now in
    let h = matchable_of d c.requires.prepared in
    let binds = read_entries spec.tokens window found.skeleton.now.entries in
    arm_of spec statement h window found.arm binds found.len (first_told spec statement h window found.arm binds found.len c.requires.found) (sym c.in_default.ensures.value)

pub values-requires-clause-results : goal.values-requires-clause-results
values-requires-clause-results c =
    let d = c.args.d.now in let spec = d.spec.now in let statement = d.statement.now in let found = c.args.found in let window = c.args.window.now in
    let h = matchable_of d c.requires.prepared in
    let binds = read_entries spec.tokens window found.skeleton.now.entries in
    let are : read_entries spec.tokens window c.as_slice-spots.result.now ≡ binds = ap (read_entries spec.tokens window) c.as_slice-spots.ensures in
    subst (All (IsBodyChoice spec)) (sym are) (choices_of spec statement h window found.arm binds found.len (first_told spec statement h window found.arm binds found.len c.requires.found))

pub write_action-requires-clause-named : goal.write_action-requires-clause-named
write_action-requires-clause-named c =
    let d = c.args.d.now in let spec = d.spec.now in let statement = d.statement.now in
    let h = matchable_of d c.requires.prepared in
    (All-slice_get (IsMatchableArm spec) statement.arms c.args.found.arm c.in-Some.arm.now (sym c.in-Some.ensures.value) h.arms).action

pub returns : goal.returns
returns c =
    let d = c.args.d.now in let spec = d.spec.now in let statement = d.statement.now in let found = c.args.found in let window = c.args.window.now in let place = c.args.place in
    let h = matchable_of d c.requires.prepared in
    let binds = read_entries spec.tokens window found.skeleton.now.entries in
    let are : read_entries spec.tokens window c.as_slice-spots.result.now ≡ binds = ap (read_entries spec.tokens window) c.as_slice-spots.ensures in
    let arm = c.in-Some.arm.now in
    arm_at spec statement h place window found.arm binds found.len arm c.in_ok-values.values _ _ (first_told spec statement h window found.arm binds found.len c.requires.found) (sym c.in-Some.ensures.value)
    (subst (λ (es : List RawEntry). AreNameValues spec place es 0 arm.names c.in_ok-values.values) are c.in_ok-values.ensures.are) c.in_ok-write_action.ensures.written
