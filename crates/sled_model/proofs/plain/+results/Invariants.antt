use Rattle.std.proofs.Common.{◌≡◌, ◌+◌, ◌∷◌, length, map, take}
use Rattle.std.specs.List.{flat_map, fold}
use Rattle.sled_model.specs.declared.pattern.Pattern.{Pattern}
use Rattle.sled_model.specs.Results.{results, chain, both, either, chain_match}
use Rattle.sled_model.specs.PatternContexts.{context_in}
use Rattle.sled_model.proofs.Within.{Within}
use Rattle.sled_model.proofs.plain.+results.Given as goal

abbrev pub invariant-all_chained-loop-a : goal.invariant-all_chained-loop-a
invariant-all_chained-loop-a l = record {
  value : l.found ≡ flat_map (λ a. map (chain_match a) (results (context_in l.near) l.part l.near.window.now (l.at + a.len))) (take l.a-index l.firsts);
  within : Within (length l.near.window.now) l.at l.found;
}

abbrev pub invariant-both_results-loop-part : goal.invariant-both_results-loop-part
invariant-both_results-loop-part l = (first : Pattern) × ((l.parts ≡ first ∷ l.rest)
    × (l.found ≡ fold both (results (context_in l.near) first) (map (results (context_in l.near)) (take l.part-index l.rest)) l.near.window.now l.at)
    × Within (length l.near.window.now) l.at l.found)

abbrev pub invariant-chain_results-loop-part : goal.invariant-chain_results-loop-part
invariant-chain_results-loop-part l = (first : Pattern) × ((l.parts ≡ first ∷ l.rest)
    × (l.found ≡ fold chain (results (context_in l.near) first) (map (results (context_in l.near)) (take l.part-index l.rest)) l.near.window.now l.at)
    × Within (length l.near.window.now) l.at l.found)

abbrev pub invariant-either_results-loop-part : goal.invariant-either_results-loop-part
invariant-either_results-loop-part l = (first : Pattern) × ((l.parts ≡ first ∷ l.rest)
    × (l.found ≡ fold either (results (context_in l.near) first) (map (results (context_in l.near)) (take l.part-index l.rest)) l.near.window.now l.at)
    × Within (length l.near.window.now) l.at l.found)
