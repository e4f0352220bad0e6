use Rattle.std.proofs.Common.{◌≡◌, None, sym, ap, subst}
use Rattle.std.specs.Prelude.{IfOk}
use Rattle.sled_elab.specs.Conditions.{IsLackOf}
use Rattle.sled_elab.specs.Declarations.{Described, with_class}
use Rattle.sled_elab.specs.Descriptions.{described_in}
use Rattle.type_tables.specs.Tables.{IsTableOf}
use Rattle.sled_elab.proofs.TableLemmas.{class_table, same_table, if_ok_weaker}
use Rattle.sled_elab.proofs.declarations.declare.Goals as goal

pub returns-in-Class-clause-types : goal.returns-in-Class-clause-types
returns-in-Class-clause-types c =
    let d = described_in c.args.description.now in
    let made = with_class d c.in-Class.name c.in-Class.width c.in-Class.little c.in-Class.fields in
    let later = c.declare_class.new.description in
    if_ok_weaker c.declare_class.result (λ lack. lack ≡ None → described_in later ≡ made) (λ lack. lack ≡ None → IsTableOf later.spec c.args.types.now)
    (λ lack h none. same_table made.spec later.spec c.args.types.now (ap (λ (x : Described). x.spec) (h none))
    (class_table d c.requires.sound.spec c.in-Class.name c.in-Class.width c.in-Class.little c.in-Class.fields c.args.types.now c.requires.types))
    c.declare_class.ensures.made

pub returns-in-ConstructorDecl-clause-lack : goal.returns-in-ConstructorDecl-clause-lack
returns-in-ConstructorDecl-clause-lack c =
    let d = described_in c.args.description.now in
    subst (λ x. IfOk c.declare_constructor.result (IsLackOf d x)) (sym c.in-ConstructorDecl.is) c.declare_constructor.ensures.unmet
