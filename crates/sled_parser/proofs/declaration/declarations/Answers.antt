use Rattle.std.proofs.Common.{rules, arith}
use Rattle.std.proofs.lemmas.Grind.{common_steps}
use Rattle.sled_parser.specs.DeclarationGrammar.{declarations_from, declaration_at, ReadsAll}
use Rattle.std.proofs.Common.{◌≡◌, ℕ, suc, false, List, Err, Option, Result, refl, ap, sym, ◌∙◌, subst}
use Rattle.std.specs.declared.vec.Vec.{Vec}
use Rattle.std.proofs.lemmas.Result.{err_from_is_err_and}
use Rattle.sled_parser.specs.declared.class.Class.TheVariants as class
use Rattle.sled_parser.specs.declared.fault.Fault.{Fault}
use Rattle.sled_parser.specs.declared.fault.Fault.TheVariants as fault
use Rattle.sled_parser.specs.declared.tree.Section.{Section}
use Rattle.sled_parser.specs.declared.tree.Decl.{Decl}
use Rattle.sled_parser.specs.Pieces.{Input, Outcome, Reads, sees}
use Rattle.sled_parser.proofs.Turns.{one_more}
use Rattle.sled_parser.proofs.declaration.declarations.Goals as goal

pub loop-turn-preserved : goal.loop-turn-preserved
unfolding declarations_from
loop-turn-preserved c =
    let e = one_more (λ n. declarations_from c.args.depth n c.loop-turn.section c.loop-turn.found.items c.loop-turn.cursor) _ c.loop-turn._turn c.loop-turn-test.true c.loop-turn.invariant in
    first_of (search rules, grind (arith, common_steps))

pub returns-then-sees : goal.returns-then-sees
unfolding declarations_from
returns-then-sees c =
    let e = one_more (λ n. declarations_from c.args.depth n c.loop-turn.section c.loop-turn.found.items c.loop-turn.cursor) _ c.loop-turn._turn c.loop-turn-test.true c.loop-turn.invariant in
    first_of (search rules, grind (arith, common_steps))

-- what a declaration refuses, the declarations refuse
refused : (depth n : ℕ) (s : Option Section) (found : List Decl) (i new : Input) (e : Fault) → sees class.End i ≡ false → Reads {A = Decl} (declaration_at depth s i) (Err e) new
    → Reads {A = List Decl} (declarations_from depth (suc n) s found i) (Err e) new
unfolding declarations_from
refused depth n s found i new fault.Syntax more e = rw (more, e) refl
refused depth n s found i new fault.NoMemory more e = tt

in_all : {Z : Type 0} (o : Outcome (List Decl)) (r : Result (Vec Decl Z) Fault) (e f : Fault) (new : Input) → r ≡ Err f → f ≡ e → Reads {A = List Decl} o (Err e) new → ReadsAll o r new
in_all o r fault.Syntax f new failed is h = subst (λ x. ReadsAll o x new) (sym (failed ∙ ap Err is)) h
in_all o r fault.NoMemory f new failed is h = subst (λ x. ReadsAll o x new) (sym (failed ∙ ap Err is)) h

pub returns-in_err-decl : goal.returns-in_err-decl
returns-in_err-decl c =
    let e = one_more (λ n. declarations_from c.args.depth n c.loop-turn.section c.loop-turn.found.items c.loop-turn.cursor) _ c.loop-turn._turn c.loop-turn-test.true c.loop-turn.invariant in
    let more : sees class.End c.loop-turn.cursor ≡ false = search rules in
    let p = err_from_is_err_and c.from_residual.result c.from_residual.ensures.1 in
    in_all _ c.from_residual.result c.in_err-decl.field-0.0 p.0 c.declaration.new.cursor p.1 p.2
    (subst (λ o. Reads {A = List Decl} o (Err c.in_err-decl.field-0.0) c.declaration.new.cursor) (sym e)
    (refused c.args.depth _ c.loop-turn.section c.loop-turn.found.items c.loop-turn.cursor c.declaration.new.cursor c.in_err-decl.field-0.0 more c.in_err-decl.ensures))
