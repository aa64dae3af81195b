use Rattle.std.proofs.Common.{◌≡◌, ◌≤◌, ◌<◌, ◌+◌, ◌-◌, ◌^◌, ◌++◌, ◌∷◌, [], ℕ, List, length, take, drop, Some, None, Option, refl, sym, ap, subst, ◌∙◌, rules, arith, true, false, Bool}
use Rattle.std.proofs.lemmas.List.{length-drop}
use Rattle.publication_log.specs.Entries.{body_len_in}
use Rattle.publication_log.proofs.Numbers.{tail_is}
use Rattle.publication_log.proofs.Heads.{frame_head}
use Rattle.publication_log.proofs.Frames.{frame_len, frame_joined}
use Rattle.publication_log.proofs.entries.frame_at.Goals as goal

pub returns-in_err-len-clause-none : goal.returns-in_err-len-clause-none
returns-in_err-len-clause-none c = rw c.from_residual.ensures (λ body digest rest is count e.
    let none : None ≡ Some (length body) = c.in_err-len.ensures.value ∙ ap body_len_in e ∙ frame_head body (digest ++ rest) is in
    absurd (cc))

pub returns-then-rest-len-clause-none : goal.returns-then-rest-len-clause-none
returns-then-rest-len-clause-none c = λ body digest rest is count e.
    let l = frame_len c.args.bytes.now body digest rest c.in_ok-len.len is count e (sym c.in_ok-len.ensures.value) in
    absurd (omega (arith, l.1, ap length (tail_is 8 c.args.bytes.now), length-drop 8 c.args.bytes.now, c.if-rest-len.true))

pub returns-then-rest-lt-LINK_LEN-clause-none : goal.returns-then-rest-lt-LINK_LEN-clause-none
returns-then-rest-lt-LINK_LEN-clause-none c = λ body digest rest is count e.
    let l = frame_len c.args.bytes.now body digest rest c.in_ok-len.len is count e (sym c.in_ok-len.ensures.value) in
    absurd (omega (arith, l.1, ap length (tail_is 8 c.args.bytes.now), length-drop 8 c.args.bytes.now, c.split_at.ensures.back_len, c.if-rest-lt-LINK_LEN.true))

pub returns-clause-some : goal.returns-clause-some
returns-clause-some c = (
  omega (arith, c.split_at.ensures.front_len, c.in_ok-len.ensures.fits),
  c.split_at-2.ensures.front_len,
  frame_joined c.args.bytes.now (take (length c.args.bytes.now - 8) (drop 8 c.args.bytes.now)) c.split_at.result.0.now c.split_at.result.1.now c.split_at-2.result.0.now c.split_at-2.result.1.now
      c.in_ok-len.len c.in_ok-len.ensures.read (tail_is 8 c.args.bytes.now) c.split_at.ensures.front c.split_at.ensures.back c.split_at-2.ensures.front c.split_at-2.ensures.back
      c.split_at.ensures.front_len,
)
