use Rattle.std.proofs.Common.{◌++◌, List, ℕ, refl, ap, sym, ◌∙◌}
use Rattle.change_file.specs.Files.{changes_head}
use Rattle.change_file.proofs.Walk.{is_end}
use Rattle.change_file.proofs.ends.end_in.Goals as goal

pub returns-clause-some : goal.returns-clause-some
returns-clause-some c = is_end c.args.hint_digest.now c.args.bytes.now c.split_at.result.1.now c.in_ok-first.first.bytes c.args.version c.args.count c.chain_end-end.result _
    c.told-hint_digest
    (c.in_ok-first.ensures.some.1 ∙ ap (λ (x : List ℕ). changes_head c.args.hint_digest.now ++ x) (sym c.split_at.ensures.back))
    c.in_ok-first.ensures.some.0 c.chain_end-end.ensures.end refl refl refl refl
