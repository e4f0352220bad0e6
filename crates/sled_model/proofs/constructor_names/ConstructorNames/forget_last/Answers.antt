use Rattle.std.proofs.Common.{◌≡◌, ◌-◌, ℕ, List, map, take, length, sym, ap, ◌∙◌}
use Rattle.std.proofs.lemmas.List.{take-map, length-map}
use Rattle.sled_model.proofs.constructor_names.ConstructorNames.forget_last.Goals as goal

pub returns : goal.returns
returns c =
    let keys = c.self.inside.names.keys in
    let long : length keys ≡ length c.args.self.now = sym (length-map keys (λ name. name.items)) ∙ ap length c.self.view_is in
    let count : c.saturating_sub.result ≡ length c.args.self.now - 1 = c.saturating_sub.ensures ∙ ap (λ n. n - 1) (c.len.ensures.len ∙ long) in
    ap (map (λ name. name.items)) c.truncate.ensures.keys ∙ sym (take-map (λ name. name.items) c.saturating_sub.result keys)
    ∙ ap (take c.saturating_sub.result) c.self.view_is ∙ ap (λ n. take n c.args.self.now) count
