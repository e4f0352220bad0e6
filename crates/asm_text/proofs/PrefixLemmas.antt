-- Prefixes of texts that are made of parts.
use Rattle.std.proofs.Common.{◌≡◌, ℕ, List, ◌++◌, ap, sym, ◌∙◌, append_assoc, Result, Ok, Err, OnErr}
use Rattle.asm_text.specs.Prefixes.{AppendsPrefix}

-- a prefix of the first part is one of the whole
pub prefix_first : (old new a b : List ℕ) → AppendsPrefix old new a → AppendsPrefix old new (a ++ b)
prefix_first old new a b h = record {
  front = h.front;
  rest = h.rest ++ b;
  parts = ap (λ t. t ++ b) h.parts ∙ append_assoc h.front h.rest b;
  text = h.text;
}

-- the first part and a prefix of the second are one of the whole
pub prefix_then : (old middle new a b : List ℕ) → middle ≡ old ++ a → AppendsPrefix middle new b → AppendsPrefix old new (a ++ b)
prefix_then old middle new a b e h = record {
  front = a ++ h.front;
  rest = h.rest;
  parts = ap (λ t. a ++ t) h.parts ∙ sym (append_assoc a h.front h.rest);
  text = h.text ∙ ap (λ t. t ++ h.front) e ∙ append_assoc old a h.front;
}

pub prefix_same : (old new a b : List ℕ) → a ≡ b → AppendsPrefix old new a → AppendsPrefix old new b
prefix_same old new a b e h = record { front = h.front; rest = h.rest; parts = sym e ∙ h.parts; text = h.text }

-- two texts behind one another
pub appended_then : (old middle new a b : List ℕ) → middle ≡ old ++ a → new ≡ middle ++ b → new ≡ old ++ (a ++ b)
appended_then old middle new a b e f = f ∙ ap (λ t. t ++ b) e ∙ append_assoc old a b

pub OnErr-always : {T E P : Type 0} (r : Result T E) → P → OnErr r P
OnErr-always (Ok x) h = tt
OnErr-always (Err e) h = h
