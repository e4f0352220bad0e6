use Rattle.std.proofs.Common.{◌≡◌, ◌∙◌, Bool, true, cond, List, Option, Some, None, sym, ap}
use Rattle.sled_model.specs.declared.constructor.OperandKind.{OperandKind}
use Rattle.sled_parser.specs.declared.tree.EqTree.{EqTree}
use Rattle.sled_parser.specs.declared.tree.OperandTree.{OperandTree}
use Rattle.tree_meaning.specs.NameTables.{table_names}
use Rattle.tree_meaning.specs.Parts.{labels}
use Rattle.tree_meaning.specs.Scopes.{Declared, declared_in}
use Rattle.operand_meaning.specs.Operands.{operands_are_known, operand_kinds, equations_are_known}
use Rattle.constructor_meaning.specs.Constructing.{Constructing, constructing}
use Rattle.constructor_meaning.proofs.ReadLemmas.{outside_known}
use Rattle.constructor_meaning.proofs.naming.known_kinds.Goals as goal

-- the kinds, or none where an operand is nothing
abbrev kinds_or_none : Declared → List EqTree → List OperandTree → Option (List OperandKind)
kinds_or_none d es os = cond (operands_are_known d es os) (Some (operand_kinds d es os)) None

kinds_at : (d : Declared) (es es' : List EqTree) (os os' : List OperandTree) (o : Option (List OperandKind)) → o ≡ kinds_or_none d es os → es ≡ es' → os ≡ os' → o ≡ kinds_or_none d es' os'
kinds_at d es es' os os' o is same same_operands = is ∙ ap (λ xs. kinds_or_none d xs os) same ∙ ap (kinds_or_none d es') same_operands

pub returns-then-known : goal.returns-then-known
returns-then-known c =
    let d = declared_in c.args.scope.now in let t = constructing c.args.tree.now in
    let known : c.in_ok-known.known ≡ equations_are_known d (labels t.body) t.operands t.equations =
    c.in_ok-known.ensures ∙ ap (λ ls. equations_are_known d ls c.as_slice-3.result.now c.as_slice-4.result.now) c.requires.labels
    ∙ ap (λ os. equations_are_known d (labels t.body) os c.as_slice-4.result.now) c.as_slice-3.ensures
    ∙ ap (equations_are_known d (labels t.body) t.operands) c.as_slice-4.ensures in
    outside_known d t c.in_ok-kinds.kinds
    (kinds_at d c.as_slice-2.result.now t.equations c.as_slice.result.now t.operands c.in_ok-kinds.kinds c.in_ok-kinds.ensures c.as_slice-2.ensures c.as_slice.ensures)
    (sym known ∙ c.if-known.true)
