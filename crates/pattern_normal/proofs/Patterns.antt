-- What stands for a pattern's parts stands for the pattern.
use Rattle.std.proofs.Common.{◌≡◌, ℕ, List, map, sum, sym, subst}
use Rattle.sled_model.specs.declared.pattern.Pattern.{Pattern}
use Rattle.sled_model.specs.declared.pattern.Pattern.TheVariants.{Both, Either, Chain, Label, Loose}
use Rattle.sled_model.specs.Measures.{product, greatest, operand_weight, operand_len}
use Rattle.sled_model.specs.Results.{results, both, either, chain, fold_meanings}
use Rattle.sled_model.proofs.Equations.{results-Both, results-Either, results-Chain, results-Loose, results-Label}
use Rattle.pattern_normal.specs.declared.alternative.Alternative.{Alternative}
use Rattle.pattern_normal.specs.Surroundings.{Surroundings, context_of, open_weights, open_weight, lens_of, len_in}
use Rattle.pattern_normal.specs.Alternatives.{StandFor, StandForPattern, label_alternative, loose_alternative}
use Rattle.sled_model.proofs.MeasureLaws as law
use Rattle.pattern_normal.proofs.Standing.{stand_as, stand_label, stand_loose}

module _ (near : Surroundings) where
  weight_Both : (ps : List Pattern) → open_weight near (Both ps) ≡ product (map (open_weight near) ps)
  weight_Both ps = law.weight-Both near.tokens (open_weights near.tokens near.constructors) (operand_weight (open_weights near.tokens near.constructors) near.kinds) ps

  weight_Either : (ps : List Pattern) → open_weight near (Either ps) ≡ sum (map (open_weight near) ps)
  weight_Either ps = law.weight-Either near.tokens (open_weights near.tokens near.constructors) (operand_weight (open_weights near.tokens near.constructors) near.kinds) ps

  weight_Chain : (ps : List Pattern) → open_weight near (Chain ps) ≡ product (map (open_weight near) ps)
  weight_Chain ps = law.weight-Chain near.tokens (open_weights near.tokens near.constructors) (operand_weight (open_weights near.tokens near.constructors) near.kinds) ps

  weight_Loose : (p : Pattern) → open_weight near (Loose p) ≡ open_weight near p
  weight_Loose p = law.weight-Loose near.tokens (open_weights near.tokens near.constructors) (operand_weight (open_weights near.tokens near.constructors) near.kinds) p

  weight_Label : (l : ℕ) (p : Pattern) → open_weight near (Label l p) ≡ open_weight near p
  weight_Label l p = law.weight-Label near.tokens (open_weights near.tokens near.constructors) (operand_weight (open_weights near.tokens near.constructors) near.kinds) l p

  len_Both : (ps : List Pattern) → len_in near (Both ps) ≡ greatest (map (len_in near) ps)
  len_Both ps = law.longest-Both near.tokens (lens_of near.tokens near.constructors) (operand_len (lens_of near.tokens near.constructors) near.kinds) ps

  len_Either : (ps : List Pattern) → len_in near (Either ps) ≡ greatest (map (len_in near) ps)
  len_Either ps = law.longest-Either near.tokens (lens_of near.tokens near.constructors) (operand_len (lens_of near.tokens near.constructors) near.kinds) ps

  len_Chain : (ps : List Pattern) → len_in near (Chain ps) ≡ sum (map (len_in near) ps)
  len_Chain ps = law.longest-Chain near.tokens (lens_of near.tokens near.constructors) (operand_len (lens_of near.tokens near.constructors) near.kinds) ps

  len_Loose : (p : Pattern) → len_in near (Loose p) ≡ len_in near p
  len_Loose p = law.longest-Loose near.tokens (lens_of near.tokens near.constructors) (operand_len (lens_of near.tokens near.constructors) near.kinds) p

  len_Label : (l : ℕ) (p : Pattern) → len_in near (Label l p) ≡ len_in near p
  len_Label l p = law.longest-Label near.tokens (lens_of near.tokens near.constructors) (operand_len (lens_of near.tokens near.constructors) near.kinds) l p

module _ (near : Surroundings) (at : ℕ) (p : Pattern) where
  module _ (ps qs : List Pattern) (cs : List Alternative) where
    pub of_both : p ≡ Both ps → qs ≡ ps → StandFor near.tokens (fold_meanings both (map (results (context_of near)) qs)) (product (map (open_weight near) qs)) (greatest (map (len_in near) qs)) at cs
        → StandForPattern near p at cs
    of_both e f s = subst (λ z. StandForPattern near z at cs) (sym e)
        (stand_as near.tokens _ _ _ _ _ _ at cs (λ w i. sym (results-Both (context_of near) w i ps)) (sym (weight_Both near ps)) (sym (len_Both near ps))
        (subst (λ zs. StandFor near.tokens (fold_meanings both (map (results (context_of near)) zs)) (product (map (open_weight near) zs)) (greatest (map (len_in near) zs)) at cs) f s))

    pub of_either : p ≡ Either ps → qs ≡ ps → StandFor near.tokens (fold_meanings either (map (results (context_of near)) qs)) (sum (map (open_weight near) qs)) (greatest (map (len_in near) qs)) at cs
        → StandForPattern near p at cs
    of_either e f s = subst (λ z. StandForPattern near z at cs) (sym e)
        (stand_as near.tokens _ _ _ _ _ _ at cs (λ w i. sym (results-Either (context_of near) w i ps)) (sym (weight_Either near ps)) (sym (len_Either near ps))
        (subst (λ zs. StandFor near.tokens (fold_meanings either (map (results (context_of near)) zs)) (sum (map (open_weight near) zs)) (greatest (map (len_in near) zs)) at cs) f s))

    pub of_chain : p ≡ Chain ps → qs ≡ ps → StandFor near.tokens (fold_meanings chain (map (results (context_of near)) qs)) (product (map (open_weight near) qs)) (sum (map (len_in near) qs)) at cs
        → StandForPattern near p at cs
    of_chain e f s = subst (λ z. StandForPattern near z at cs) (sym e)
        (stand_as near.tokens _ _ _ _ _ _ at cs (λ w i. sym (results-Chain (context_of near) w i ps)) (sym (weight_Chain near ps)) (sym (len_Chain near ps))
        (subst (λ zs. StandFor near.tokens (fold_meanings chain (map (results (context_of near)) zs)) (product (map (open_weight near) zs)) (sum (map (len_in near) zs)) at cs) f s))

  module _ (inner q : Pattern) (cs ds : List Alternative) where
    pub of_label : (l : ℕ) → p ≡ Label l inner → q ≡ inner → ds ≡ map (label_alternative l at) cs → StandForPattern near q at cs → StandForPattern near p at ds
    of_label l e f g s = subst (λ z. StandForPattern near z at ds) (sym e) (subst (λ zs. StandForPattern near (Label l inner) at zs) (sym g)
        (stand_as near.tokens _ _ _ _ _ _ at (map (label_alternative l at) cs) (λ w i. sym (results-Label (context_of near) w i l inner)) (sym (weight_Label near l inner)) (sym (len_Label near l inner))
        (stand_label near.tokens at _ _ _ cs (subst (λ z. StandForPattern near z at cs) f s) l)))

    pub of_loose : p ≡ Loose inner → q ≡ inner → ds ≡ map loose_alternative cs → StandForPattern near q at cs → StandForPattern near p at ds
    of_loose e f g s = subst (λ z. StandForPattern near z at ds) (sym e) (subst (λ zs. StandForPattern near (Loose inner) at zs) (sym g)
        (stand_as near.tokens _ _ _ _ _ _ at (map loose_alternative cs) (λ w i. sym (results-Loose (context_of near) w i inner)) (sym (weight_Loose near inner)) (sym (len_Loose near inner))
        (stand_loose near.tokens at _ _ _ cs (subst (λ z. StandForPattern near z at cs) f s))))
