use Rattle.std.proofs.Common.{◌≡◌, ◌∙◌, ℕ, List, Bor, ap, map, sym}
use Rattle.tree_meaning.specs.declared.scope.Meaning.{Meaning}
use Rattle.tree_meaning.specs.declared.scope.Meaning.TheVariants as meaning
use Rattle.tree_meaning.specs.Scopes.{Declared, declared_in}
use Rattle.constructor_scopes.specs.Bodies.{typed_operands}
use Rattle.constructor_scopes.proofs.TypedLemmas.{typed_apart, map-map, names_in}
use Rattle.constructor_scopes.proofs.operands.enter_operands.Goals as goal

pub enter_all-requires-clause-distinct : goal.enter_all-requires-clause-distinct
enter_all-requires-clause-distinct c =
    let d = declared_in c.args.scope.now in
    let seen : Bor (List ℕ) × ℕ → List ℕ × ℕ = λ n. (n.0.now, n.1) in
    let found : map seen c.as_slice.result.now ≡ typed_operands d c.args.operands.now = ap (map seen) c.as_slice.ensures.value ∙ c.in_ok-found.ensures in
    typed_apart d (λ (n : Bor (List ℕ) × ℕ). n.0.now) c.as_slice.result.now c.args.operands.now
    (sym (map-map (λ (n : List ℕ × ℕ). n.0) seen c.as_slice.result.now) ∙ ap (map (λ (n : List ℕ × ℕ). n.0)) found) c.requires.distinct

pub returns : goal.returns
returns c =
    let d = declared_in c.args.scope.now in
    let seen : Bor (List ℕ) × ℕ → List ℕ × ℕ = λ n. (n.0.now, n.1) in
    let xs = c.as_slice.result.now in
    let found : map seen xs ≡ typed_operands d c.args.operands.now = ap (map seen) c.as_slice.ensures.value ∙ c.in_ok-found.ensures in
    let names : map (λ (n : Bor (List ℕ) × ℕ). n.0.now) xs ≡ map (λ (n : List ℕ × ℕ). n.0) (typed_operands d c.args.operands.now) =
    sym (map-map (λ (n : List ℕ × ℕ). n.0) seen xs) ∙ ap (map (λ (n : List ℕ × ℕ). n.0)) found in
    let meanings : map (λ (n : Bor (List ℕ) × ℕ). meaning.Operand n.1) xs ≡ map (λ (n : List ℕ × ℕ). meaning.Operand n.1) (typed_operands d c.args.operands.now) =
    sym (map-map (λ (n : List ℕ × ℕ). meaning.Operand n.1) seen xs) ∙ ap (map (λ (n : List ℕ × ℕ). meaning.Operand n.1)) found in
    c.in_ok-enter_all.ensures
    ∙ ap (λ (ns : List (List ℕ)). record d { local_names = ns; local_meanings = map (λ (n : Bor (List ℕ) × ℕ). meaning.Operand n.1) xs }) names
    ∙ ap (λ (ms : List Meaning). record d { local_names = map (λ (n : List ℕ × ℕ). n.0) (typed_operands d c.args.operands.now); local_meanings = ms }) meanings
