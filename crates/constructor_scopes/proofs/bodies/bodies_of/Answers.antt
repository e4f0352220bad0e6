use Rattle.std.proofs.Common.{◌≡◌, ◌∙◌, ◌++◌, ◌∷◌, [], ap, sym, subst, map}
use Rattle.tree_meaning.specs.NameTables.{table_names}
use Rattle.tree_meaning.specs.Scopes.{Declared, declared_in}
use Rattle.tree_meaning.specs.Patterns.{patterns_of}
use Rattle.sled_model.specs.declared.pattern.Pattern.TheVariants.{Empty}
use Rattle.tree_meaning.specs.declared.scope.Meaning.TheVariants as meaning
use Rattle.constructor_scopes.specs.declared.members.Member.{Member}
use Rattle.constructor_scopes.specs.Bodies.{first_of, with_last, bodies_of}
use Rattle.constructor_scopes.specs.Views.{made, made_for, IsOfGroup}
use Rattle.constructor_scopes.proofs.LocalLemmas.{bodies_are}
use Rattle.constructor_scopes.proofs.bodies.bodies_of.Goals as goal

pub returns-in_ok-bodies-in-Members-clause-bodies : goal.returns-in_ok-bodies-in-Members-clause-bodies
returns-in_ok-bodies-in-Members-clause-bodies c =
    let d = declared_in c.args.scope.now in let at = c.len-at.result in let members = c.in-Members.members.items in
    let names = table_names c.args.labels.now in let body = c.args.body.now in
    let are : made c.args.makings.now ≡ map made_for members = ap made c.in-Members.is in
    c.in_ok-bodies-in-Members.ensures.bodies
    ∙ ap (map (λ (x : Member). first_of (patterns_of (with_last (declared_in c.enter.new.self) at x.pattern) names body))) c.as_slice.ensures.value
    ∙ ap (λ (s : Declared). map (λ (x : Member). first_of (patterns_of (with_last s at x.pattern) names body)) members) c.in_ok-enter-in-Members.ensures
    ∙ bodies_are d at c.len-at.ensures c.args.opcode.now (meaning.Pattern Empty) names body members
    ∙ sym (ap (bodies_of d c.args.opcode.now names body) are)

pub enter-requires : goal.enter-requires
enter-requires c = c.requires.fresh (subst IsOfGroup (sym c.in-Members.is) tt)
