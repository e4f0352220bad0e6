-- A pattern that holds neither an operand nor an application means what it means among no constructors, and has the same measures.
use Rattle.std.proofs.Common.{◌≡◌, ℕ, ◌+◌, List, [], ◌∷◌, sum, refl, ap, ◌∙◌}
use Rattle.std.proofs.Math.Path.{fun_ext}
use Rattle.token_bits.specs.declared.tokens.Tokens.{Tokens}
use Rattle.sled_model.specs.declared.pattern.Pattern.{Pattern, Row_of-Pattern, end_of-Pattern, more_of-Pattern}
use Rattle.sled_model.specs.declared.pattern.Pattern.TheVariants.{Token, Limit, Bind, Operand, Label', Both', Either', Chain', Loose', Apply', Empty}
use Rattle.sled_model.specs.Measures.{Weighed, Sized, Measured, weight, row_weights, size, row_sizes, longest, row_lens, boxed_number, product, greatest}
use Rattle.sled_model.specs.Leaves.{AllLeaves, AllLeavesOfRow, NamesNoConstructor}
use Rattle.sled_model.specs.Results.{Context, results, row_meanings, alone, fold_meanings, boxed_meaning, label_meaning, loose_meaning, both, either, chain}
use Rattle.pattern_normal.specs.Alone.{lone_weight, lone_size, lone_len}

module _ (tokens : Tokens) (known : List Weighed) (operands : ℕ → ℕ) where
  mutual
    pub same_weight : (p : Pattern) → AllLeaves NamesNoConstructor p → weight tokens known operands p ≡ lone_weight tokens p
    same_weight (Token c) h = refl
    same_weight (Limit f relation limit) h = refl
    same_weight (Bind f) h = refl
    same_weight (Operand k) h = absurd h
    same_weight (Label' l s p) h = ap boxed_number (same_weights p h)
    same_weight (Both' s ps) h = ap product (same_weights ps h)
    same_weight (Either' s ps) h = ap sum (same_weights ps h)
    same_weight (Chain' s ps) h = ap product (same_weights ps h)
    same_weight (Loose' s p) h = ap boxed_number (same_weights p h)
    same_weight (Apply' k s arguments) h = absurd h
    same_weight Empty h = refl

    same_weights : {n : _} (ps : Row_of-Pattern n) → AllLeavesOfRow NamesNoConstructor ps → row_weights tokens known operands ps ≡ row_weights tokens [] (λ k. 0) ps
    same_weights end_of-Pattern h = refl
    same_weights (more_of-Pattern p ps) h = ap (λ n. n ∷ row_weights tokens known operands ps) (same_weight p h.0) ∙ ap (λ ns. lone_weight tokens p ∷ ns) (same_weights ps h.1)

module _ (known : List Sized) (operands : ℕ → ℕ) where
  mutual
    pub same_size : (p : Pattern) → AllLeaves NamesNoConstructor p → size known operands p ≡ lone_size p
    same_size (Token c) h = refl
    same_size (Limit f relation limit) h = refl
    same_size (Bind f) h = refl
    same_size (Operand k) h = absurd h
    same_size (Label' l s p) h = ap (λ ns. 1 + boxed_number ns) (same_sizes p h)
    same_size (Both' s ps) h = ap sum (same_sizes ps h)
    same_size (Either' s ps) h = ap greatest (same_sizes ps h)
    same_size (Chain' s ps) h = ap sum (same_sizes ps h)
    same_size (Loose' s p) h = ap boxed_number (same_sizes p h)
    same_size (Apply' k s arguments) h = absurd h
    same_size Empty h = refl

    same_sizes : {n : _} (ps : Row_of-Pattern n) → AllLeavesOfRow NamesNoConstructor ps → row_sizes known operands ps ≡ row_sizes [] (λ k. 0) ps
    same_sizes end_of-Pattern h = refl
    same_sizes (more_of-Pattern p ps) h = ap (λ n. n ∷ row_sizes known operands ps) (same_size p h.0) ∙ ap (λ ns. lone_size p ∷ ns) (same_sizes ps h.1)

module _ (tokens : Tokens) (known : List Measured) (operands : ℕ → ℕ) where
  mutual
    pub same_len : (p : Pattern) → AllLeaves NamesNoConstructor p → longest tokens known operands p ≡ lone_len tokens p
    same_len (Token c) h = refl
    same_len (Limit f relation limit) h = refl
    same_len (Bind f) h = refl
    same_len (Operand k) h = absurd h
    same_len (Label' l s p) h = ap boxed_number (same_lens p h)
    same_len (Both' s ps) h = ap greatest (same_lens ps h)
    same_len (Either' s ps) h = ap greatest (same_lens ps h)
    same_len (Chain' s ps) h = ap sum (same_lens ps h)
    same_len (Loose' s p) h = ap boxed_number (same_lens p h)
    same_len (Apply' k s arguments) h = absurd h
    same_len Empty h = refl

    same_lens : {n : _} (ps : Row_of-Pattern n) → AllLeavesOfRow NamesNoConstructor ps → row_lens tokens known operands ps ≡ row_lens tokens [] (λ k. 0) ps
    same_lens end_of-Pattern h = refl
    same_lens (more_of-Pattern p ps) h = ap (λ n. n ∷ row_lens tokens known operands ps) (same_len p h.0) ∙ ap (λ ns. lone_len tokens p ∷ ns) (same_lens ps h.1)

module _ (cx : Context) where
  mutual
    pub same_results : (p : Pattern) → AllLeaves NamesNoConstructor p → (bytes : List ℕ) (i : ℕ) → results cx p bytes i ≡ results (alone cx.tokens) p bytes i
    same_results (Token c) h bytes i = refl
    same_results (Limit f relation limit) h bytes i = refl
    same_results (Bind f) h bytes i = refl
    same_results (Operand k) h bytes i = absurd h
    same_results (Label' l s p) h bytes i = ap (λ ms. label_meaning l (boxed_meaning ms) bytes i) (same_meanings p h)
    same_results (Both' s ps) h bytes i = ap (λ ms. fold_meanings both ms bytes i) (same_meanings ps h)
    same_results (Either' s ps) h bytes i = ap (λ ms. fold_meanings either ms bytes i) (same_meanings ps h)
    same_results (Chain' s ps) h bytes i = ap (λ ms. fold_meanings chain ms bytes i) (same_meanings ps h)
    same_results (Loose' s p) h bytes i = ap (λ ms. loose_meaning (boxed_meaning ms) bytes i) (same_meanings p h)
    same_results (Apply' k s arguments) h bytes i = absurd h
    same_results Empty h bytes i = refl

    same_meanings : {n : _} (ps : Row_of-Pattern n) → AllLeavesOfRow NamesNoConstructor ps → row_meanings cx ps ≡ row_meanings (alone cx.tokens) ps
    same_meanings end_of-Pattern h = refl
    same_meanings (more_of-Pattern p ps) h =
        ap (λ m. m ∷ row_meanings cx ps) (fun_ext (λ bytes. fun_ext (λ i. same_results p h.0 bytes i)))
        ∙ ap (λ ms. results (alone cx.tokens) p ∷ ms) (same_meanings ps h.1)
