use Rattle.std.proofs.Common.{◌≡◌, ◌≢◌, List, ℕ, Vec, Global, refl, sym, ◌∙◌, ap}
use Rattle.sled_base.specs.Names.{name_count}
use Rattle.sled_base.proofs.NamesLemmas.{name_count-push_same, name_count-push_other}
use Rattle.sled_base.proofs.fault_names.FaultNames.keep.Goals as goal

pub returns-clause-counted : goal.returns-clause-counted
returns-clause-counted c =
    ap (λ (names : List (Vec ℕ Global)). name_count names c.args.name.items) c.in-Ok.ensures.items
    ∙ name_count-push_same c.args.self.now.names.items c.args.name c.args.name.items refl

pub returns-clause-others : goal.returns-clause-others
returns-clause-others c other ne =
    ap (λ (names : List (Vec ℕ Global)). name_count names other) c.in-Ok.ensures.items
    ∙ name_count-push_other c.args.self.now.names.items c.args.name other (λ e. ne (sym e))
