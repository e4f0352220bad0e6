use Rattle.std.proofs.Common.{rules, ◌≡◌, ℕ, List, sym, ap, ◌∙◌}
use Rattle.std.specs.Prelude.{IfOk}
use Rattle.std.proofs.lemmas.Result.{IfOk-weaker}
use Rattle.sled_parser.specs.declared.tree.PatternTree.{PatternTree}
use Rattle.sled_parser.specs.declared.tree.PatternTree.TheVariants.{Either, Chain, Both, Labelled, Loose, Group}
use Rattle.tree_meaning.specs.Scopes.{declared_in}
use Rattle.arm_meaning.specs.Bindings.{IsBindingsOf, AreBoundTogether, AreBoundApart}
use Rattle.arm_meaning.proofs.BindingsLemmas.{bindings-Either, bindings-Chain, bindings-Both, bindings-Loose, bindings-Group, labelled-Labelled, together_taken, apart_one, apart_taken}
use Rattle.arm_meaning.proofs.bindings.+bindings.Goals as goal

pub arm_bindings-returns-in-Either : goal.arm_bindings-returns-in-Either
arm_bindings-returns-in-Either t c =
    let d = declared_in c.args.scope.now in let ts = c.in-Either.sides in
    let told : IfOk c.apart.result (AreBoundApart d ts) = rw c.as_slice.ensures at c.apart.ensures in
    rw c.in-Either.is (IfOk-weaker c.apart.result (AreBoundApart d ts) (IsBindingsOf d (Either ts)) (bindings-Either d ts) told)

pub arm_bindings-returns-in-Chain : goal.arm_bindings-returns-in-Chain
arm_bindings-returns-in-Chain t c =
    let d = declared_in c.args.scope.now in let ts = c.in-Chain.parts in
    let told : IfOk c.together.result (AreBoundTogether d ts) = rw c.as_slice-in-Chain.ensures at c.together.ensures in
    rw c.in-Chain.is (IfOk-weaker c.together.result (AreBoundTogether d ts) (IsBindingsOf d (Chain ts)) (bindings-Chain d ts) told)

pub arm_bindings-returns-in-Both : goal.arm_bindings-returns-in-Both
arm_bindings-returns-in-Both t c =
    let d = declared_in c.args.scope.now in let ts = c.in-Both.parts in
    let told : IfOk c.together-in-Both.result (AreBoundTogether d ts) = rw c.as_slice-in-Both.ensures at c.together-in-Both.ensures in
    rw c.in-Both.is (IfOk-weaker c.together-in-Both.result (AreBoundTogether d ts) (IsBindingsOf d (Both ts)) (bindings-Both d ts) told)

pub arm_bindings-returns-in_ok-inner-in-Labelled : goal.arm_bindings-returns-in_ok-inner-in-Labelled
arm_bindings-returns-in_ok-inner-in-Labelled t c =
    let d = declared_in c.args.scope.now in let inner = c.in_ok-inner-in-Labelled.inner in
    let label : List ℕ = c.as_slice-in-Labelled.result.now in
    let told : IsBindingsOf d c.in-Labelled.pattern inner = rw c.get.ensures at c.in_ok-inner-in-Labelled.ensures in
    let is : c.args.tree.now ≡ Labelled label c.in-Labelled.pattern = c.in-Labelled.is ∙ ap (λ l. Labelled l c.in-Labelled.pattern) (sym c.as_slice-in-Labelled.ensures) in
    rw is (labelled-Labelled d c.labelled.result label c.in-Labelled.pattern inner told c.labelled.ensures.names c.labelled.ensures.once c.labelled.ensures.alike)

pub arm_bindings-returns-in-Loose : goal.arm_bindings-returns-in-Loose
arm_bindings-returns-in-Loose t c =
    let d = declared_in c.args.scope.now in let p = c.in-Loose.inner in
    let told : IfOk c.arm_bindings-in-Loose.result (IsBindingsOf d p) = rw c.get-in-Loose.ensures at c.arm_bindings-in-Loose.ensures in
    rw c.in-Loose.is (IfOk-weaker c.arm_bindings-in-Loose.result (IsBindingsOf d p) (IsBindingsOf d (Loose p)) (bindings-Loose d p) told)

pub arm_bindings-returns-in-Group : goal.arm_bindings-returns-in-Group
arm_bindings-returns-in-Group t c =
    let d = declared_in c.args.scope.now in let p = c.in-Group.inner in
    let told : IfOk c.arm_bindings-in-Group.result (IsBindingsOf d p) = rw c.get-in-Group.ensures at c.arm_bindings-in-Group.ensures in
    rw c.in-Group.is (IfOk-weaker c.arm_bindings-in-Group.result (IsBindingsOf d p) (IsBindingsOf d (Group p)) (bindings-Group d p) told)

pub together-loop-tree-preserved : goal.together-loop-tree-preserved
together-loop-tree-preserved t c =
    let e = c.in_ok-found.ensures in
    together_taken (declared_in c.args.scope.now) c.args.trees.now c.loop-tree.tree-index c.tree-item.result c.loop-tree-test.true c.tree-item.is
    c.loop-tree.found c.in_ok-next.next c.in_ok-found.found c.loop-tree.invariant c.in_ok-next.ensures e.names e.once e.alike

pub apart-loop-tree-init : goal.apart-loop-tree-init
apart-loop-tree-init t c =
    let first : PatternTree = c.in-Some.first.now in
    (first, (search rules, apart_one (declared_in c.args.scope.now) first c.in_ok-found.found c.in_ok-found.ensures))

pub apart-loop-tree-preserved : goal.apart-loop-tree-preserved
apart-loop-tree-preserved t c =
    let i = c.loop-tree.invariant in let e = c.in_ok-found-2.ensures in (
      i.0,
      (
        i.1.0,
        apart_taken (declared_in c.args.scope.now) i.0 c.in-Some.rest.now c.loop-tree.tree-index c.tree-item.result c.loop-tree-test.true c.tree-item.is
            c.loop-tree.found c.in_ok-side.side c.in_ok-found-2.found i.1.1 c.in_ok-side.ensures e.names e.once e.alike,
      ),
    )
