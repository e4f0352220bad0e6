-- What accepted texts make can be matched.
use Rattle.std.proofs.Common.{ℕ, ◌≤◌, ◌^◌, List, length, sym, subst, arith}
use Rattle.sled_lexer.proofs.Counts.{few}
use Rattle.sled_parser.specs.Pieces.{pieces}
use Rattle.sled_parser.proofs.PiecesLemmas.{length_pieces}
use Rattle.sled_model.specs.declared.statement.Statement.{Statement}
use Rattle.match_meaning.specs.Matchable.{IsMatchable}
use Rattle.sled_elab.specs.Declarations.{Described}
use Rattle.acceptance_laws.specs.Laws.{IsWhole}
use Rattle.acceptance_laws.proofs.Descriptions.{accepted_sound}
use Rattle.acceptance_laws.proofs.Statements.{stated_matchable}
use Rattle.toolkit_cli.specs.Texts.{IsDescribed, IsStated}
use Rattle.toolkit_cli.proofs.RangeLemmas.{description_in_range}

pub accepted_matchable : (spec matching : List ℕ) (d : Described) (statement : Statement) → IsDescribed spec d → IsStated d matching statement → IsMatchable d.spec statement
accepted_matchable spec matching d statement makes states =
    let ls = makes.parsed.lexemes in
    let lexed = makes.parsed.lexed in
    let input = pieces spec ls in
    let short : length input ≤ 2 ^ 32 = omega (arith, length_pieces spec ls, few spec ls lexed.listed, lexed.short) in
    let numbers = description_in_range spec ls makes.tree lexed.range makes.parsed.reads in
    let whole : IsWhole d = subst IsWhole (sym makes.same) (accepted_sound input makes.tree short makes.parsed.reads numbers makes.met) in
    subst (IsMatchable d.spec) (sym states.same) (stated_matchable d whole states.tree states.met)
