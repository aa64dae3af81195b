use Rattle.std.proofs.Common.{◌≡◌, ◌≤◌, ◌<◌, ◌+◌, ◌-◌, ◌^◌, ◌++◌, ◌∷◌, [], ℕ, List, length, take, drop, Some, None, Option, refl, sym, ap, subst, ◌∙◌, rules, arith, true, false, Bool}
use Rattle.byteorder.specs.Endian.{little_number}
use Rattle.publication_log.proofs.Numbers.{tail_is}
use Rattle.publication_log.proofs.Heads.{head_read}
use Rattle.publication_log.proofs.entries.head_len.Goals as goal

pub returns-clause-read : goal.returns-clause-read
returns-clause-read c = head_read c.args.bytes.now c.read_u32-len.result c.read_u32.result (λ i. omega (arith, c.type_inv.bytes i)) c.if-bytes-lt-HEAD_LEN.false c.read_u32-len.ensures
    (c.read_u32.ensures ∙ ap (little_number 4) (tail_is 4 c.args.bytes.now)) c.if-read_u32-len.false
