use Rattle.std.proofs.Common.{◌≡◌, ◌++◌, List, ℕ, length, drop, ap, sym, subst, ◌∙◌, arith}
use Rattle.std.specs.Prelude.{MatchOption}
use Rattle.std.proofs.lemmas.List.{length-append}
use Rattle.change_file.specs.Files.{HintMove, file_moves, changes_head, moves_in}
use Rattle.change_file.proofs.Cuts.{length-head, with_head, with_none}
use Rattle.kept_changes.specs.Moves.{AreMovesOf, IsMovedOn}
use Rattle.kept_changes.proofs.Steps.{no_move}
use Rattle.kept_changes.proofs.files.rows_after.Goals as goal

pub returns-in_default : goal.returns-in_default
returns-in_default g c =
    subst (λ (ms : List HintMove). AreMovesOf c.args.plan.now ms × IsMovedOn c.args.plan.now c.args.index ms c.args.hint c.args.hint)
    (sym (with_none c.args.head_digest.now c.args.bytes.now c.args.hint.version c.in_default.ensures.none)) (tt, no_move c.args.plan.now c.args.index c.args.hint)

pub split_at-requires : goal.split_at-requires
split_at-requires g c =
    let digest : List ℕ = c.args.head_digest.now in
    omega (arith, ap length c.in-Some.ensures.some.1, length-append (changes_head digest) (drop 72 c.args.bytes.now), length-head digest c.told-head_digest)

pub returns : goal.returns
returns g c =
    let digest : List ℕ = c.args.head_digest.now in
    let bytes : List ℕ = c.args.bytes.now in
    let version : ℕ = c.args.hint.version in
    let all : moves_in c.in-Some.first.bytes version c.split_at.result.1.now ≡ file_moves digest version bytes =
    ap (λ (x : List ℕ). moves_in x version c.split_at.result.1.now) c.in-Some.ensures.some.0
    ∙ sym (with_head digest bytes c.split_at.result.1.now version c.told-head_digest
    (c.in-Some.ensures.some.1 ∙ ap (λ (x : List ℕ). changes_head digest ++ x) (sym c.split_at.ensures.back))) in
    subst (λ (ms : List HintMove). MatchOption c.rows_through.result (¬ AreMovesOf c.args.plan.now ms)
    (λ after. AreMovesOf c.args.plan.now ms × IsMovedOn c.args.plan.now c.args.index ms c.args.hint after)) all c.rows_through.ensures
