use Rattle.std.proofs.Common.{◌≡◌, ◌∙◌, ◌++◌, List, ℕ, Bor, ap, map, subst}
use Rattle.std.specs.List.{flat_map}
use Rattle.sled_parser.specs.declared.tree.PatternTree.{PatternTree}
use Rattle.tree_meaning.specs.Parts.{labels, part_labels}
use Rattle.operand_meaning.specs.Operands.{operand_names}
use Rattle.constructor_scopes.proofs.NewLemmas.{labels_of}
use Rattle.constructor_scopes.proofs.names.local_names.Goals as goal

pub returns : goal.returns
returns c =
    let now = λ (x : Bor (List ℕ)). x.now in
    let front : map now c.in_ok-names.names.items ≡ operand_names c.args.operands.now = c.in_ok-names.ensures in
    let more = flat_map (λ (x : Bor PatternTree). part_labels x.now) c.args.parts.now in
    let of_body : more ≡ labels c.args.body.now = labels_of (λ (x : Bor PatternTree). x.now) c.args.parts.now c.args.body.now c.requires in
    let all : map now c.push_labels.new.found.items ≡ map now c.in_ok-names.names.items ++ more = c.in_ok-push_labels.ensures in
    all ∙ ap (λ ns. ns ++ more) front ∙ ap (λ ms. operand_names c.args.operands.now ++ ms) of_body
