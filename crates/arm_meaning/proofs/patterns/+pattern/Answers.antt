use Rattle.std.proofs.Common.{◌+◌, ◌*◌, ◌<◌, length, sym, ap, ◌∙◌, arith}
use Rattle.std.specs.List.{list_all, flat_map}
use Rattle.std.proofs.lemmas.Result.{IfOk-weaker}
use Rattle.sled_parser.specs.declared.tree.PatternTree.TheVariants as tree
use Rattle.sled_model.specs.declared.pattern.Pattern.TheVariants as pattern
use Rattle.tree_meaning.specs.NameTables.{table_names}
use Rattle.tree_meaning.specs.Parts.{parts}
use Rattle.tree_meaning.specs.Patterns.{has_part_in_range, has_all_in_range, label_number}
use Rattle.tree_meaning.specs.Scopes.{declared_in}
use Rattle.tree_meaning.proofs.PartLemmas.{in_Either, in_Chain, in_Both, in_Labelled, in_Loose, in_Group, in_member, count_Either, count_Chain, count_Both, count_Labelled, count_Loose, count_Group, count_member}
use Rattle.arm_meaning.specs.Patterns.{arm_pattern}
use Rattle.arm_meaning.proofs.PatternLaws.{arm_pattern-Labelled, arm_pattern-Group}
use Rattle.arm_meaning.proofs.patterns.+pattern.Goals as goal

pub arm_pattern-member_patterns-requires : goal.arm_pattern-member_patterns-requires
arm_pattern-member_patterns-requires t c =
    let ts = c.as_slice.result.now in
    let fewer = count_Either c.args.tree.now ts (c.in-Either.is ∙ ap tree.Either (sym c.as_slice.ensures)) in
    let m : 2 * length (flat_map parts ts) + 1 < t = omega (arith, fewer, c.decreases) in
    let all = ap (list_all has_all_in_range) c.as_slice.ensures ∙ in_Either has_part_in_range c.args.tree.now c.requires.numbers c.in-Either.members c.in-Either.is in
    (m, (c.requires.sound, (c.requires.names, all)))

pub arm_pattern-member_patterns-requires-in-Chain : goal.arm_pattern-member_patterns-requires-in-Chain
arm_pattern-member_patterns-requires-in-Chain t c =
    let ts = c.as_slice-in-Chain.result.now in
    let fewer = count_Chain c.args.tree.now ts (c.in-Chain.is ∙ ap tree.Chain (sym c.as_slice-in-Chain.ensures)) in
    let m : 2 * length (flat_map parts ts) + 1 < t = omega (arith, fewer, c.decreases) in
    let all = ap (list_all has_all_in_range) c.as_slice-in-Chain.ensures ∙ in_Chain has_part_in_range c.args.tree.now c.requires.numbers c.in-Chain.members c.in-Chain.is in
    (m, (c.requires.sound, (c.requires.names, all)))

pub arm_pattern-member_patterns-requires-in-Both : goal.arm_pattern-member_patterns-requires-in-Both
arm_pattern-member_patterns-requires-in-Both t c =
    let ts = c.as_slice-in-Both.result.now in
    let fewer = count_Both c.args.tree.now ts (c.in-Both.is ∙ ap tree.Both (sym c.as_slice-in-Both.ensures)) in
    let m : 2 * length (flat_map parts ts) + 1 < t = omega (arith, fewer, c.decreases) in
    let all = ap (list_all has_all_in_range) c.as_slice-in-Both.ensures ∙ in_Both has_part_in_range c.args.tree.now c.requires.numbers c.in-Both.members c.in-Both.is in
    (m, (c.requires.sound, (c.requires.names, all)))

pub arm_pattern-boxed_pattern-requires : goal.arm_pattern-boxed_pattern-requires
arm_pattern-boxed_pattern-requires t c =
    let u = c.get.result.now in
    let fewer = count_Labelled c.args.tree.now c.in-Labelled.label u (c.in-Labelled.is ∙ ap (tree.Labelled c.in-Labelled.label) (sym c.get.ensures)) in
    let m : 2 * length (parts u) + 1 < t = omega (arith, fewer, c.decreases) in
    let all = ap has_all_in_range c.get.ensures ∙ in_Labelled has_part_in_range c.args.tree.now c.requires.numbers c.in-Labelled.label c.in-Labelled.pattern c.in-Labelled.is in
    (m, (c.requires.sound, (c.requires.names, all)))

pub arm_pattern-boxed_pattern-requires-in-Loose : goal.arm_pattern-boxed_pattern-requires-in-Loose
arm_pattern-boxed_pattern-requires-in-Loose t c =
    let u = c.get-in-Loose.result.now in
    let fewer = count_Loose c.args.tree.now u (c.in-Loose.is ∙ ap tree.Loose (sym c.get-in-Loose.ensures)) in
    let m : 2 * length (parts u) + 1 < t = omega (arith, fewer, c.decreases) in
    let all = ap has_all_in_range c.get-in-Loose.ensures ∙ in_Loose has_part_in_range c.args.tree.now c.requires.numbers c.in-Loose.inner c.in-Loose.is in
    (m, (c.requires.sound, (c.requires.names, all)))

pub arm_pattern-arm_pattern-requires : goal.arm_pattern-arm_pattern-requires
arm_pattern-arm_pattern-requires t c =
    let u = c.get-in-Group.result.now in
    let fewer = count_Group c.args.tree.now u (c.in-Group.is ∙ ap tree.Group (sym c.get-in-Group.ensures)) in
    let m : 2 * length (parts u) < t = omega (arith, fewer, c.decreases) in
    let all = ap has_all_in_range c.get-in-Group.ensures ∙ in_Group has_part_in_range c.args.tree.now c.requires.numbers c.in-Group.inner c.in-Group.is in
    (m, (c.requires.sound, (c.requires.names, all)))

pub member_patterns-arm_pattern-requires : goal.member_patterns-arm_pattern-requires
member_patterns-arm_pattern-requires t c =
    let ts = c.args.members.now in let i = c.loop-member.member-index in let u = c.member-item.result in
    let fewer = count_member ts i u c.loop-member-test.true c.member-item.is in
    let m : 2 * length (parts u) < t = omega (arith, fewer, c.decreases) in
    (m, (c.requires.sound, (c.requires.names, in_member has_part_in_range ts i u c.loop-member-test.true c.member-item.is c.requires.numbers)))

pub arm_pattern-returns-in_ok-boxed_pattern-in-Labelled : goal.arm_pattern-returns-in_ok-boxed_pattern-in-Labelled
arm_pattern-returns-in_ok-boxed_pattern-in-Labelled t c =
    let spec = c.args.spec.now in let declared = declared_in c.args.scope.now in let names = table_names c.args.names.now in let of = arm_pattern spec declared names in
    let number = c.label_number.ensures ∙ ap (label_number names) c.as_slice-in-Labelled.ensures in
    let inner = c.in_ok-boxed_pattern-in-Labelled.ensures ∙ ap of c.get.ensures in
    ap (λ l. pattern.Label l c.in_ok-boxed_pattern-in-Labelled.field-0) number ∙ ap (pattern.Label (label_number names c.in-Labelled.label)) inner
    ∙ sym (arm_pattern-Labelled spec declared names c.in-Labelled.label c.in-Labelled.pattern) ∙ ap of (sym c.in-Labelled.is)

pub arm_pattern-returns-in-Group : goal.arm_pattern-returns-in-Group
arm_pattern-returns-in-Group t c =
    let spec = c.args.spec.now in let declared = declared_in c.args.scope.now in let names = table_names c.args.names.now in let of = arm_pattern spec declared names in
    let e = ap of c.get-in-Group.ensures ∙ sym (arm_pattern-Group spec declared names c.in-Group.inner) ∙ ap of (sym c.in-Group.is) in
    IfOk-weaker c.arm_pattern.result _ _ (λ p is. is ∙ e) c.arm_pattern.ensures
