use Rattle.std.proofs.Common.{◌≡◌, ◌≤◌, ◌<◌, ◌+◌, ◌-◌, ◌^◌, ◌++◌, ◌∷◌, [], ℕ, List, length, take, drop, Some, None, Option, Ok, Err, Result, refl, sym, ap, subst, ◌∙◌, append_assoc, rules, arith, true, false, Bool}
use Rattle.std.proofs.lemmas.List.{take-append-drop}
use Rattle.std.proofs.lemmas.Result.{err_from_is_err_and}
use Rattle.publication_log.specs.Publications.{Placed, log_number_bytes, changes_bytes}
use Rattle.publication_log.proofs.Numbers.{tail_is, number_read}
use Rattle.publication_log.proofs.Placings.{body_fault}
use Rattle.publication_log.proofs.changes.Publication.decode.Goals as goal

-- the version's bytes, and what is after them
parts : (bytes rest : List ℕ) (version : ℕ) → log_number_bytes 8 version ≡ take 8 bytes → rest ≡ drop 8 bytes → bytes ≡ log_number_bytes 8 version ++ rest
parts bytes rest version v r =
    sym (take-append-drop 8 bytes) ∙ ap (λ (x : List ℕ). x ++ drop 8 bytes) (sym v) ∙ ap (λ (x : List ℕ). log_number_bytes 8 version ++ x) (sym r)

pub returns-in_err-judge_changes-clause-refused : goal.returns-in_err-judge_changes-clause-refused
returns-in_err-judge_changes-clause-refused c =
    let p = err_from_is_err_and c.from_residual.result c.from_residual.ensures.1 in
    let bytes : List ℕ = c.args.body.now in
    let rest : List ℕ = take (length bytes - 8) (drop 8 bytes) in
    let version = number_read 8 c.read_u64-version.result bytes (λ i. omega (arith, c.type_inv.body i)) c.if-body-lt-VERSION_LEN.false c.read_u64-version.ensures in
    rw (p.1, p.2) (body_fault c.in_err-judge_changes.field-0.0 bytes (
      c.read_u64-version.result,
      rest,
      c.read_u64-version.type_inv,
      parts bytes rest c.read_u64-version.result version (tail_is 8 bytes),
      c.in_err-judge_changes.ensures.refused,
    ))

pub returns-clause-ok : goal.returns-clause-ok
returns-clause-ok c =
    let bytes : List ℕ = c.args.body.now in
    let rest : List ℕ = take (length bytes - 8) (drop 8 bytes) in
    let it = c.in_ok-judge_changes.ensures.ok in
    let version = number_read 8 c.read_u64-version.result bytes (λ i. omega (arith, c.type_inv.body i)) c.if-body-lt-VERSION_LEN.false c.read_u64-version.ensures in (
      it.0,
      c.read_u64-version.type_inv,
      it.1,
      it.2,
      parts bytes rest c.read_u64-version.result version (tail_is 8 bytes) ∙ ap (λ (x : List ℕ). log_number_bytes 8 c.read_u64-version.result ++ x) it.2,
    )
