use Rattle.std.proofs.Common.{◌++◌, List, ℕ, length, ap, ◌∙◌, arith, length-append}
use Rattle.change_file.proofs.Cuts.{head_first, length-head}
use Rattle.change_file.proofs.heads.read_head.Goals as goal

pub returns-clause-some : goal.returns-clause-some
returns-clause-some c = (
  c.first_link.ensures,
  head_first c.args.hint_digest.now c.args.bytes.now c.in-Some._rest.now c.told-hint_digest
      (c.in-Some.ensures ∙ ap (λ (x : List ℕ). x ++ c.in-Some._rest.now) c.head_bytes-head.ensures),
)

pub returns-clause-room : goal.returns-clause-room
returns-clause-room c = omega (
  arith,
  ap length c.in-Some.ensures,
  length-append c.head_bytes-head.result c.in-Some._rest.now,
  ap length c.head_bytes-head.ensures,
  length-head c.args.hint_digest.now c.told-hint_digest,
)
