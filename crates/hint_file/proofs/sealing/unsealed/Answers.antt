use Rattle.std.proofs.Common.{◌≡◌, ◌++◌, ◌-◌, length, arith, ap, sym, ◌∙◌}
use Rattle.std.proofs.lemmas.List.{take-append-drop, length-drop}
use Rattle.std.proofs.lemmas.Bool.Decides.{Decides-eqb, not_from_Decides}
use Rattle.std.proofs.lemmas.Slice.Eq.{slice_eq-Decides}
use Rattle.hint_file.proofs.Bytes.{length-sealed, sealed_parts}
use Rattle.hint_file.proofs.sealing.unsealed.Goals as goal

pub returns-then-bytes-lt-DIGEST_LEN : goal.returns-then-bytes-lt-DIGEST_LEN
returns-then-bytes-lt-DIGEST_LEN c = λ body e. absurd (omega (arith, c.if-bytes-lt-DIGEST_LEN.true, ap length e, length-sealed body))

pub returns-else-eq : goal.returns-else-eq
returns-else-eq c = λ body e.
    let whole : c.split_at.result.0.now ++ c.split_at.result.1.now ≡ c.args.bytes.now =
    rw (c.split_at.ensures.front, c.split_at.ensures.back) (take-append-drop _ c.args.bytes.now) in
    let last : length c.split_at.result.1.now ≡ 32 =
    omega (arith, ap length e, length-sealed body, ap length c.split_at.ensures.back, length-drop (length c.args.bytes.now - 32) c.args.bytes.now) in
    let parts = sealed_parts body c.split_at.result.0.now c.split_at.result.1.now last (whole ∙ e) in
    absurd (not_from_Decides c.eq.result (slice_eq-Decides Decides-eqb _ _ _ c.eq.ensures) c.if-eq.false
    (c.as_slice.ensures ∙ c.digest_of.ensures ∙ sym parts.1))
