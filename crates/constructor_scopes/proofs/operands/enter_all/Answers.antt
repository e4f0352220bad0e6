use Rattle.std.proofs.Common.{◌≡◌, ◌∙◌, ◌+◌, ℕ, List, [], Bor, false, ap, map, take, get_or, sym}
use Rattle.tree_meaning.specs.Names.{is_among}
use Rattle.tree_meaning.specs.Scopes.{Declared}
use Rattle.constructor_scopes.proofs.TypedLemmas.{fresh_at}
use Rattle.constructor_scopes.proofs.operands.enter_all.Goals as goal

pub enter-requires : goal.enter-requires
enter-requires c =
    let i = c.loop-named.named-index in let d : Bor (List ℕ) × ℕ = (record { ref_ptr = (0, 0); now = [] }, 0) in
    let name = λ (n : Bor (List ℕ) × ℕ). n.0.now in
    let before = ap (λ (x : Declared). x.local_names) c.loop-named.invariant in
    ap (λ names. is_among names (name (get_or c.args.typed.now i d))) before ∙ fresh_at name c.args.typed.now i d c.requires.distinct c.loop-named-test.true
