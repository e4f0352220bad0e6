use Rattle.std.proofs.Common.{◌≡◌, ◌∙◌, ◌+◌, ℕ, length, slice_set, ap, sym}
use Rattle.sled_model.specs.declared.pattern.Pattern.{Pattern}
use Rattle.tree_meaning.specs.declared.scope.Meaning.TheVariants as meaning
use Rattle.tree_meaning.specs.NameTables.{table_names}
use Rattle.tree_meaning.specs.Patterns.{patterns_of}
use Rattle.tree_meaning.specs.Scopes.{Declared, declared_in}
use Rattle.constructor_scopes.specs.Bodies.{first_of, with_last}
use Rattle.constructor_scopes.proofs.LocalLemmas.{set_is}
use Rattle.constructor_scopes.proofs.bodies.body_with.Goals as goal

-- the local name was set
set : (d new : Declared) (n : ℕ) (p q : Pattern) → length d.local_meanings ≡ n + 1 → new ≡ record d { local_meanings = slice_set d.local_meanings n (meaning.Pattern q) } → q ≡ p → new ≡ with_last d n p
set d new n p q h is same = is ∙ ap (λ (x : Pattern). record d { local_meanings = slice_set d.local_meanings n (meaning.Pattern x) }) same ∙ set_is d n h p

pub returns-clause-scope : goal.returns-clause-scope
returns-clause-scope c =
    set (declared_in c.args.scope.now) (declared_in c.set_local.new.self) c.args.at c.args.pattern.now c.in_ok-copy.field-0 c.requires.last c.set_local.ensures c.in_ok-copy.ensures

pub returns-clause-body : goal.returns-clause-body
returns-clause-body c =
    let is = set (declared_in c.args.scope.now) (declared_in c.set_local.new.self) c.args.at c.args.pattern.now c.in_ok-copy.field-0 c.requires.last c.set_local.ensures c.in_ok-copy.ensures in
    c.first_of.ensures ∙ ap first_of c.in_ok-patterns.ensures ∙ ap (λ (d : Declared). first_of (patterns_of d (table_names c.args.labels.now) c.args.body.now)) is
