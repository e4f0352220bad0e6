use Rattle.std.proofs.Common.{◌≡◌, ◌+◌, ◌*◌, ◌<◌, ◌∷◌, [], length, map, take, sym, ap, ◌∙◌, arith}
use Rattle.std.specs.List.{fold, list_all, flat_map}
use Rattle.std.proofs.lemmas.List.{take_all}
use Rattle.std.proofs.lemmas.Result.{IfOk-weaker}
use Rattle.sled_parser.specs.declared.tree.PatternTree.TheVariants as tree
use Rattle.sled_model.specs.declared.pattern.Pattern.TheVariants as pattern
use Rattle.sled_model.proofs.Lists.{fold_take}
use Rattle.tree_meaning.specs.NameTables.{table_names}
use Rattle.tree_meaning.specs.Scopes.{declared_in}
use Rattle.tree_meaning.specs.Parts.{parts}
use Rattle.tree_meaning.specs.Patterns.{patterns_of, extended_by, has_part_in_range, has_all_in_range, label_number}
use Rattle.tree_meaning.proofs.TreeLaws.{patterns_of-Labelled}
use Rattle.tree_meaning.proofs.ChoiceLemmas.{choices_from_left}
use Rattle.tree_meaning.proofs.PartLemmas.{in_Either, in_Chain, in_Both, in_Labelled, in_Loose, in_Group, in_member, count_Either, count_Chain, count_Both, count_Labelled, count_Loose, count_Group, count_member}
use Rattle.tree_meaning.proofs.patterns.+patterns.Goals as goal

pub choices_of-returns : goal.choices_of-returns
choices_of-returns t c =
    let of = patterns_of (declared_in c.args.scope.now) (table_names c.args.names.now) in
    let all : take c.loop-member.member-index c.args.members.now ≡ c.args.members.now = take_all c.loop-member.member-index c.args.members.now c.loop-member-test.false in
    c.loop-member.invariant ∙ ap (λ ts. fold extended_by ([] ∷ []) (map of ts)) all ∙ choices_from_left (map of c.args.members.now)

pub choices_of-loop-member-preserved : goal.choices_of-loop-member-preserved
choices_of-loop-member-preserved t c =
    let of = patterns_of (declared_in c.args.scope.now) (table_names c.args.names.now) in
    let i = c.loop-member.member-index in let ts = c.args.members.now in
    c.in_ok-chosen.ensures
    ∙ ap (extended_by c.loop-member.chosen.items) c.in_ok-tree_patterns.ensures
    ∙ ap (λ cs. extended_by cs (of c.member-item.result)) c.loop-member.invariant
    ∙ sym (fold_take extended_by of ([] ∷ []) ts i c.member-item.result c.loop-member-test.true c.member-item.is)

pub tree_patterns-choices_of-requires : goal.tree_patterns-choices_of-requires
tree_patterns-choices_of-requires t c =
    let ts = c.as_slice.result.now in
    let fewer = count_Either c.args.tree.now ts (c.in-Either.is ∙ ap tree.Either (sym c.as_slice.ensures)) in
    let m : 2 * length (flat_map parts ts) + 1 < t = omega (arith, fewer, c.decreases) in
    (m, (c.requires.names, ap (list_all has_all_in_range) c.as_slice.ensures ∙ in_Either has_part_in_range c.args.tree.now c.requires.numbers c.in-Either.members c.in-Either.is))

pub tree_patterns-choices_of-requires-in-Chain : goal.tree_patterns-choices_of-requires-in-Chain
tree_patterns-choices_of-requires-in-Chain t c =
    let ts = c.as_slice-in-Chain.result.now in
    let fewer = count_Chain c.args.tree.now ts (c.in-Chain.is ∙ ap tree.Chain (sym c.as_slice-in-Chain.ensures)) in
    let m : 2 * length (flat_map parts ts) + 1 < t = omega (arith, fewer, c.decreases) in
    (m, (c.requires.names, ap (list_all has_all_in_range) c.as_slice-in-Chain.ensures ∙ in_Chain has_part_in_range c.args.tree.now c.requires.numbers c.in-Chain.members c.in-Chain.is))

pub tree_patterns-choices_of-requires-in-Both : goal.tree_patterns-choices_of-requires-in-Both
tree_patterns-choices_of-requires-in-Both t c =
    let ts = c.as_slice-in-Both.result.now in
    let fewer = count_Both c.args.tree.now ts (c.in-Both.is ∙ ap tree.Both (sym c.as_slice-in-Both.ensures)) in
    let m : 2 * length (flat_map parts ts) + 1 < t = omega (arith, fewer, c.decreases) in
    (m, (c.requires.names, ap (list_all has_all_in_range) c.as_slice-in-Both.ensures ∙ in_Both has_part_in_range c.args.tree.now c.requires.numbers c.in-Both.members c.in-Both.is))

pub tree_patterns-tree_patterns-requires : goal.tree_patterns-tree_patterns-requires
tree_patterns-tree_patterns-requires t c =
    let u = c.get.result.now in
    let fewer = count_Labelled c.args.tree.now c.in-Labelled.label u (c.in-Labelled.is ∙ ap (tree.Labelled c.in-Labelled.label) (sym c.get.ensures)) in
    let m : 2 * length (parts u) < t = omega (arith, fewer, c.decreases) in
    (m, (c.requires.names, ap has_all_in_range c.get.ensures ∙ in_Labelled has_part_in_range c.args.tree.now c.requires.numbers c.in-Labelled.label c.in-Labelled.pattern c.in-Labelled.is))

pub tree_patterns-tree_patterns-requires-in-Loose : goal.tree_patterns-tree_patterns-requires-in-Loose
tree_patterns-tree_patterns-requires-in-Loose t c =
    let u = c.get-in-Loose.result.now in
    let fewer = count_Loose c.args.tree.now u (c.in-Loose.is ∙ ap tree.Loose (sym c.get-in-Loose.ensures)) in
    let m : 2 * length (parts u) < t = omega (arith, fewer, c.decreases) in
    (m, (c.requires.names, ap has_all_in_range c.get-in-Loose.ensures ∙ in_Loose has_part_in_range c.args.tree.now c.requires.numbers c.in-Loose.inner c.in-Loose.is))

pub tree_patterns-tree_patterns-requires-in-Group : goal.tree_patterns-tree_patterns-requires-in-Group
tree_patterns-tree_patterns-requires-in-Group t c =
    let u = c.get-in-Group.result.now in
    let fewer = count_Group c.args.tree.now u (c.in-Group.is ∙ ap tree.Group (sym c.get-in-Group.ensures)) in
    let m : 2 * length (parts u) < t = omega (arith, fewer, c.decreases) in
    (m, (c.requires.names, ap has_all_in_range c.get-in-Group.ensures ∙ in_Group has_part_in_range c.args.tree.now c.requires.numbers c.in-Group.inner c.in-Group.is))

pub tree_patterns-returns-in_ok-inner-in-Labelled :
    goal.tree_patterns-returns-in_ok-inner-in-Labelled
tree_patterns-returns-in_ok-inner-in-Labelled t c =
    let declared = declared_in c.args.scope.now in let names = table_names c.args.names.now in let of = patterns_of declared names in
    let number = c.label_number.ensures ∙ ap (label_number names) c.as_slice-in-Labelled.ensures in
    let inner = c.in_ok-inner-in-Labelled.ensures ∙ ap of c.get.ensures in
    let e = ap (λ l. map (pattern.Label l) c.in_ok-inner-in-Labelled.inner.items) number
    ∙ ap (map (pattern.Label (label_number names c.in-Labelled.label))) inner
    ∙ sym (patterns_of-Labelled declared names c.in-Labelled.label c.in-Labelled.pattern) ∙ ap of (sym c.in-Labelled.is) in
    IfOk-weaker c.all_labelled.result _ _ (λ ps is. is ∙ e) c.all_labelled.ensures

pub choices_of-tree_patterns-requires : goal.choices_of-tree_patterns-requires
choices_of-tree_patterns-requires t c =
    let ts = c.args.members.now in let i = c.loop-member.member-index in let u = c.member-item.result in
    let fewer = count_member ts i u c.loop-member-test.true c.member-item.is in
    let m : 2 * length (parts u) < t = omega (arith, fewer, c.decreases) in
    (m, (c.requires.names, in_member has_part_in_range ts i u c.loop-member-test.true c.member-item.is c.requires.numbers))
