-- Where alternatives end, and how many there are.
use Rattle.std.proofs.Common.{◌≡◌, ℕ, ◌≤◌, max, [], length, Option, Some, None, IfSome, arith}
use Rattle.std.specs.Option.{option_to_list}
use Rattle.std.proofs.lemmas.List.Elements.{All-nil, All-cons}
use Rattle.pattern_normal.specs.declared.alternative.Alternative.{Alternative}
use Rattle.pattern_normal.specs.Alternatives.{IsBetween, AreBetween}

pub ends_of_met : (least most : ℕ) (a b : Alternative) (o : Option Alternative) → IfSome o (λ c. c.bits.len ≡ max a.bits.len b.bits.len)
    → IsBetween least most a → IsBetween least most b → AreBetween least most (option_to_list o)
ends_of_met least most a b None h p q = All-nil (IsBetween least most)
ends_of_met least most a b (Some c) h p q = All-cons (IsBetween least most) c [] (omega (arith, h, p.0, q.0), omega (arith, h, p.1, q.1)) (All-nil (IsBetween least most))

pub ends_of_following : (least most : ℕ) (b : Alternative) (o : Option Alternative) → IfSome o (λ c. c.bits.len ≡ b.bits.len) → IsBetween least most b → AreBetween least most (option_to_list o)
ends_of_following least most b None h q = All-nil (IsBetween least most)
ends_of_following least most b (Some c) h q = All-cons (IsBetween least most) c [] (omega (arith, h, q.0), omega (arith, h, q.1)) (All-nil (IsBetween least most))

pub at_most_one : {A : Type 0} (o : Option A) → length (option_to_list o) ≤ 1
at_most_one None = omega arith
at_most_one (Some a) = omega arith
