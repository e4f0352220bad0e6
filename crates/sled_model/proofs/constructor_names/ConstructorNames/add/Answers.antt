use Rattle.std.proofs.Common.{◌≡◌, ◌≢◌, ◌∷◌, [], ◌++◌, List, ℕ, All, map, sym, ap, ◌∙◌, subst}
use Rattle.sled_model.proofs.NameTables.{insert_new}
use Rattle.sled_model.proofs.constructor_names.ConstructorNames.add.Goals as goal

pub returns-clause-added : goal.returns-clause-added
returns-clause-added c =
    let keys = c.self.inside.names.keys in let key = c.in_ok-copied.copied in
    let same : key.items ≡ c.args.name.now = c.in_ok-copied.ensures.items_if_clones_equal (λ x y e. e) in
    let fresh : All (λ other. other ≢ key.items) (map (λ name. name.items) keys) = rw (same, c.self.view_is) c.requires.fresh in
    ap (map (λ name. name.items)) c.in_ok-insert.ensures.keys ∙ insert_new (λ name. name.items) keys key fresh
    ∙ ap (λ names. names ++ key.items ∷ []) c.self.view_is ∙ ap (λ name. c.args.self.now ++ name ∷ []) same
