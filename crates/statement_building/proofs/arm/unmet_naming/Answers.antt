use Rattle.std.proofs.Common.{◌≡◌, true, false, sym, ◌∙◌, Bor}
use Rattle.sled_parser.specs.declared.tree.PatternTree.{PatternTree}
use Rattle.tree_meaning.specs.Parts.{labels, numbers_fit, generates_nothing, part_fits, has_one_number}
use Rattle.tree_meaning.specs.Patterns.{has_part_in_range}
use Rattle.tree_meaning.specs.Scopes.{declared_in}
use Rattle.tree_meaning.proofs.PartLaws.{all_parts, all_labels}
use Rattle.tree_meaning.specs.Names.{are_new}
use Rattle.arm_meaning.specs.Patterns.{are_known_in_arm, is_known_in_arm}
use Rattle.statement_building.proofs.ArmLemmas.{unmet_1, unmet_2, unmet_4, unmet_5, unmet_none}
use Rattle.statement_building.proofs.arm.unmet_naming.Goals as goal

pub returns-then-not-labels_are_new : goal.returns-then-not-labels_are_new
returns-then-not-labels_are_new c =
    let d = declared_in c.args.scope.now in let t = c.args.tree.now in let ts = c.args.parts.now in
    let new : are_new d.names (labels t) ≡ false = sym (all_labels d.names (λ (x : Bor PatternTree). x.now) ts t c.requires.parts) ∙ sym c.labels_are_new.ensures ∙ c.if-not-labels_are_new.true in
    unmet_1 (are_new d.names (labels t)) (are_known_in_arm c.args.spec.now d t) (numbers_fit c.args.spec.now.tokens d t) (generates_nothing t) new

pub returns-then-not-are_known_in_arm : goal.returns-then-not-are_known_in_arm
returns-then-not-are_known_in_arm c =
    let d = declared_in c.args.scope.now in let t = c.args.tree.now in let ts = c.args.parts.now in
    let new : are_new d.names (labels t) ≡ true = sym (all_labels d.names (λ (x : Bor PatternTree). x.now) ts t c.requires.parts) ∙ sym c.labels_are_new.ensures ∙ c.if-not-labels_are_new.false in
    let known : are_known_in_arm c.args.spec.now d t ≡ false = sym (all_parts (is_known_in_arm c.args.spec.now d) (λ (x : Bor PatternTree). x.now) ts t c.requires.parts) ∙ sym c.are_known_in_arm.ensures ∙ c.if-not-are_known_in_arm.true in
    unmet_2 (are_new d.names (labels t)) (are_known_in_arm c.args.spec.now d t) (numbers_fit c.args.spec.now.tokens d t) (generates_nothing t) new known

pub numbers_fit-requires-clause-numbers : goal.numbers_fit-requires-clause-numbers
numbers_fit-requires-clause-numbers c =
    all_parts has_part_in_range (λ (x : Bor PatternTree). x.now) c.args.parts.now c.args.tree.now c.requires.parts ∙ c.requires.numbers

pub returns-then-not-numbers_fit : goal.returns-then-not-numbers_fit
returns-then-not-numbers_fit c =
    let d = declared_in c.args.scope.now in let t = c.args.tree.now in let ts = c.args.parts.now in
    let new : are_new d.names (labels t) ≡ true = sym (all_labels d.names (λ (x : Bor PatternTree). x.now) ts t c.requires.parts) ∙ sym c.labels_are_new.ensures ∙ c.if-not-labels_are_new.false in
    let known : are_known_in_arm c.args.spec.now d t ≡ true = sym (all_parts (is_known_in_arm c.args.spec.now d) (λ (x : Bor PatternTree). x.now) ts t c.requires.parts) ∙ sym c.are_known_in_arm.ensures ∙ c.if-not-are_known_in_arm.false in
    let fit : numbers_fit c.args.spec.now.tokens d t ≡ false =
    sym (all_parts (part_fits c.args.spec.now.tokens d) (λ (x : Bor PatternTree). x.now) ts t c.requires.parts) ∙ sym c.numbers_fit.ensures ∙ c.if-not-numbers_fit.true in
    unmet_4 (are_new d.names (labels t)) (are_known_in_arm c.args.spec.now d t) (numbers_fit c.args.spec.now.tokens d t) (generates_nothing t) new known fit

pub returns-then-not-generate_nothing : goal.returns-then-not-generate_nothing
returns-then-not-generate_nothing c =
    let d = declared_in c.args.scope.now in let t = c.args.tree.now in let ts = c.args.parts.now in
    let new : are_new d.names (labels t) ≡ true = sym (all_labels d.names (λ (x : Bor PatternTree). x.now) ts t c.requires.parts) ∙ sym c.labels_are_new.ensures ∙ c.if-not-labels_are_new.false in
    let known : are_known_in_arm c.args.spec.now d t ≡ true = sym (all_parts (is_known_in_arm c.args.spec.now d) (λ (x : Bor PatternTree). x.now) ts t c.requires.parts) ∙ sym c.are_known_in_arm.ensures ∙ c.if-not-are_known_in_arm.false in
    let fit : numbers_fit c.args.spec.now.tokens d t ≡ true =
    sym (all_parts (part_fits c.args.spec.now.tokens d) (λ (x : Bor PatternTree). x.now) ts t c.requires.parts) ∙ sym c.numbers_fit.ensures ∙ c.if-not-numbers_fit.false in
    let one : generates_nothing t ≡ false = sym (all_parts has_one_number (λ (x : Bor PatternTree). x.now) ts t c.requires.parts) ∙ sym c.generate_nothing.ensures ∙ c.if-not-generate_nothing.true in
    unmet_5 (are_new d.names (labels t)) (are_known_in_arm c.args.spec.now d t) (numbers_fit c.args.spec.now.tokens d t) (generates_nothing t) new known fit one

pub returns : goal.returns
returns c =
    let d = declared_in c.args.scope.now in let t = c.args.tree.now in let ts = c.args.parts.now in
    let new : are_new d.names (labels t) ≡ true = sym (all_labels d.names (λ (x : Bor PatternTree). x.now) ts t c.requires.parts) ∙ sym c.labels_are_new.ensures ∙ c.if-not-labels_are_new.false in
    let known : are_known_in_arm c.args.spec.now d t ≡ true = sym (all_parts (is_known_in_arm c.args.spec.now d) (λ (x : Bor PatternTree). x.now) ts t c.requires.parts) ∙ sym c.are_known_in_arm.ensures ∙ c.if-not-are_known_in_arm.false in
    let fit : numbers_fit c.args.spec.now.tokens d t ≡ true =
    sym (all_parts (part_fits c.args.spec.now.tokens d) (λ (x : Bor PatternTree). x.now) ts t c.requires.parts) ∙ sym c.numbers_fit.ensures ∙ c.if-not-numbers_fit.false in
    let one : generates_nothing t ≡ true = sym (all_parts has_one_number (λ (x : Bor PatternTree). x.now) ts t c.requires.parts) ∙ sym c.generate_nothing.ensures ∙ c.if-not-generate_nothing.false in
    unmet_none (are_new d.names (labels t)) (are_known_in_arm c.args.spec.now d t) (numbers_fit c.args.spec.now.tokens d t) (generates_nothing t) new known fit one
