use Rattle.std.proofs.Common.{Some, sym, ap, subst, arith}
use Rattle.std.proofs.lemmas.List.Elements.{All-get_or}
use Rattle.sled_elab.specs.Conditions.{IsLackOf, IsFirstLackFrom}
use Rattle.sled_elab.specs.Declarations.{Described, nothing}
use Rattle.sled_elab.specs.Descriptions.{described_in, HasNumbersInRange, HasPlainNames, IsReadOnce}
use Rattle.sled_elab.proofs.DeclarationLemmas.{made_more, lack_past, lack_here, next_within}
use Rattle.sled_elab.proofs.PlainNames.{plain_after, nothing_plain}
use Rattle.sled_elab.proofs.Readings.{read_after, nothing_read}
use Rattle.sled_elab.proofs.declarations.describe.Goals as goal

pub loop-decl-init : goal.loop-decl-init
loop-decl-init c =
    let none = c.new-description.ensures.nothing in
    record {
      made = none;
      sound = c.new-description.ensures.sound;
      plain = subst (λ (d : Described). HasPlainNames d.declared) (sym none) nothing_plain;
      read = subst (λ (d : Described). IsReadOnce d.spec) (sym none) nothing_read;
      types = c.new-types.ensures c.new-description.result.spec (ap (λ (d : Described). d.spec.type_names) none);
      lack = λ first h. subst (λ d. IsFirstLackFrom 1 d c.args.decls.now first) none h;
      small = omega arith;
    }

pub loop-decl-preserved : goal.loop-decl-preserved
loop-decl-preserved c =
    let decls = c.args.decls.now in let i = c.loop-decl.decl-index in let x = c.decl-item.result in
    let old = described_in c.loop-decl.description in let new = described_in c.declare.new.description in
    let made = c.in_ok-lack.ensures.made c.in_default.is in
    let met = subst (IsLackOf old x) c.in_default.is c.in_ok-lack.ensures.lack in
    record {
      made = made_more decls i x c.loop-decl-test.true c.decl-item.is nothing old new c.loop-decl.invariant.made made;
      sound = c.in_ok-lack.ensures.sound c.in_default.is;
      plain = subst (λ (d : Described). HasPlainNames d.declared) (sym made) (plain_after old x c.loop-decl.invariant.sound c.loop-decl.invariant.plain met);
      read = subst (λ (d : Described). IsReadOnce d.spec) (sym made)
          (read_after old x (subst HasNumbersInRange (sym c.decl-item.is) (All-get_or HasNumbersInRange decls i x c.loop-decl-test.true c.requires)) c.loop-decl.invariant.sound c.loop-decl.invariant.plain c.loop-decl.invariant.read met);
      types = c.in_ok-lack.ensures.types c.in_default.is;
      lack = λ first h. c.loop-decl.invariant.lack first
          (lack_past decls i x c.loop-decl-test.true c.decl-item.is c.loop-decl.number c.next_number-number.result old new first made c.next_number-number.ensures met h);
      small = omega (arith, c.next_number-number.ensures, next_within c.loop-decl.number x, c.loop-decl.invariant.small);
    }

pub returns-in-Some-clause-refused : goal.returns-in-Some-clause-refused
returns-in-Some-clause-refused c =
    let decls = c.args.decls.now in let x = c.decl-item.result in
    let old = described_in c.loop-decl.description in
    c.loop-decl.invariant.lack (Some (c.loop-decl.number, c.in-Some.lack))
    (lack_here decls c.loop-decl.decl-index x c.loop-decl-test.true c.decl-item.is c.loop-decl.number old c.in-Some.lack (subst (IsLackOf old x) c.in-Some.is c.in_ok-lack.ensures.lack))
