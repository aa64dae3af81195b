use Rattle.std.proofs.Common.{◌≡◌, ◌≤◌, ◌<◌, ◌+◌, ◌-◌, ◌^◌, ◌++◌, ◌∷◌, [], ℕ, List, length, take, drop, Some, None, Option, refl, sym, ap, subst, ◌∙◌, rules, arith, true, false, Bool}
use Rattle.std.proofs.lemmas.List.{length-drop}
use Rattle.byteorder.specs.Endian.{little_number}
use Rattle.publication_log.proofs.Numbers.{tail_is}
use Rattle.publication_log.proofs.Placings.{placed_len, placed_joined}
use Rattle.publication_log.proofs.changes.change_at.Goals as goal

pub returns-then-bytes-lt-CHANGE_HEAD_LEN-clause-none : goal.returns-then-bytes-lt-CHANGE_HEAD_LEN-clause-none
returns-then-bytes-lt-CHANGE_HEAD_LEN-clause-none c = λ d more is e.
    let l = placed_len c.args.bytes.now more d is e in
    absurd (omega (arith, l.1, c.if-bytes-lt-CHANGE_HEAD_LEN.true))

pub returns-then-rest-len-clause-none : goal.returns-then-rest-len-clause-none
returns-then-rest-len-clause-none c = λ d more is e.
    let l = placed_len c.args.bytes.now more d is e in
    let len : c.read_u16-len.result ≡ length d.bytes = c.read_u16-len.ensures ∙ ap (little_number 2) (tail_is 4 c.args.bytes.now) ∙ l.0 in
    absurd (omega (arith, len, l.1, ap length (tail_is 6 c.args.bytes.now), length-drop 6 c.args.bytes.now, c.if-rest-len.true))

pub returns-clause-some : goal.returns-clause-some
returns-clause-some c = (
  record { place = c.read_u32-place.type_inv; len = omega (arith, c.split_at.ensures.front_len, c.read_u16-len.type_inv) },
  placed_joined c.args.bytes.now (take (length c.args.bytes.now - 6) (drop 6 c.args.bytes.now)) c.split_at.result.0.now c.split_at.result.1.now c.read_u32-place.result c.read_u16-len.result
      (λ i. omega (arith, c.type_inv.bytes i)) c.if-bytes-lt-CHANGE_HEAD_LEN.false c.read_u32-place.ensures (c.read_u16-len.ensures ∙ ap (little_number 2) (tail_is 4 c.args.bytes.now))
      (tail_is 6 c.args.bytes.now) c.split_at.ensures.front c.split_at.ensures.back c.split_at.ensures.front_len,
)
