use Rattle.std.proofs.Common.{◌≡◌, ◌∙◌, ◌+◌, ◌++◌, ◌∷◌, [], length, map, take, get_or, ap, sym, subst}
use Rattle.sled_model.specs.declared.pattern.Pattern.{Pattern}
use Rattle.tree_meaning.specs.NameTables.{table_names}
use Rattle.tree_meaning.specs.Patterns.{patterns_of}
use Rattle.tree_meaning.specs.Scopes.{Declared, declared_in}
use Rattle.constructor_scopes.specs.declared.members.Member.{Member}
use Rattle.constructor_scopes.specs.Bodies.{first_of, with_last, without_locals}
use Rattle.constructor_scopes.proofs.LocalLemmas.{again, as_many, mapped_more}
use Rattle.constructor_scopes.proofs.bodies.member_bodies.Goals as goal

pub loop-member-preserved : goal.loop-member-preserved
loop-member-preserved c =
    let old = declared_in c.args.scope.now in let now = declared_in c.loop-member.scope in let new = declared_in c.body_with.new.scope in
    let at = c.args.at in let m = c.member-item.result in let i = c.loop-member.member-index in let names = table_names c.args.labels.now in
    let of = λ (x : Member). first_of (patterns_of (with_last old at x.pattern) names c.args.body.now) in
    let is : new ≡ with_last now at m.pattern = c.in_ok-body_with.ensures.scope in
    let body : c.in_ok-body_with.field-0 ≡ of m =
    c.in_ok-body_with.ensures.body ∙ ap (λ (d : Declared). first_of (patterns_of d names c.args.body.now)) (c.loop-member.invariant.again m.pattern) in
    record {
      bodies = c.in_ok-push.ensures.ok ∙ ap (λ p. c.loop-member.bodies ++ p ∷ []) body ∙ ap (λ ps. ps ++ of m ∷ []) c.loop-member.invariant.bodies
          ∙ sym (mapped_more of c.args.members.now i m c.loop-member-test.true c.member-item.is);
      outside = ap without_locals is ∙ c.loop-member.invariant.outside;
      again = λ p. ap (λ (d : Declared). with_last d at p) is ∙ again now at c.loop-member.invariant.last m.pattern p ∙ c.loop-member.invariant.again p;
      last = ap (λ (d : Declared). length d.local_meanings) is ∙ as_many now at c.loop-member.invariant.last m.pattern;
    }
