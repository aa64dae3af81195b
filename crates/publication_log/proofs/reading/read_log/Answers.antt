use Rattle.std.proofs.Common.{◌≡◌, ◌≤◌, ◌<◌, ◌+◌, ◌-◌, ◌^◌, ◌++◌, ◌∷◌, [], ℕ, List, length, take, drop, Some, None, Option, Ok, Err, Result, refl, sym, ap, subst, ◌∙◌, append_assoc, rules, arith, true, false, Bool}
use Rattle.std.proofs.lemmas.Result.{err_from_is_err_and}
use Rattle.sha2.specs.Sha256.{sha256}
use Rattle.publication_log.specs.Entries.{chain_bytes, last_link}
use Rattle.publication_log.specs.Logs.{log_header_bytes, first_link, bodies_of, AreRead, HasCause, StopsBy}
use Rattle.publication_log.proofs.Readings.{cause_is, found_is}
use Rattle.publication_log.specs.declared.reading.BadLog.{BadLog}
use Rattle.publication_log.proofs.reading.read_log.Goals as goal

pub returns-in_err-ends-clause-bad : goal.returns-in_err-ends-clause-bad
returns-in_err-ends-clause-bad c = λ cause e.
    let p = err_from_is_err_and c.from_residual-in_err-ends.result c.from_residual-in_err-ends.ensures.1 in
    let why : BadLog = c.in_err-ends.field-0.0 in
    let same : why ≡ cause = cc (e, p.1, p.2) in
    let bad = c.in_err-ends.ensures.bad in
    let header = c.args.header.now in
    let prefix : c.deref.result.now ≡ log_header_bytes header = c.deref.ensures.value ∙ c.in_ok-prefix.ensures in
    let link : c.link_of.result ≡ first_link header = c.link_of.ensures ∙ ap sha256 (c.deref-2.ensures.value ∙ c.in_ok-prefix.ensures) in
    let whole = c.in-Some.ensures.some ∙ ap (λ (x : List ℕ). x ++ c.in-Some.rest.now) prefix in
    subst (λ (x : BadLog). HasCause header x c.args.bytes.now) same
    (cause_is header c.args.bytes.now c.in-Some.rest.now bad.1 bad.0 why whole bad.2
    (bad.3 ∙ ap (λ (x : List ℕ). chain_bytes x (bodies_of bad.0) ++ bad.1) link)
    (subst (λ (x : List ℕ). StopsBy (last_link x (bodies_of bad.0)) (header.version + length bad.0) why bad.1) link bad.4))

pub returns-clause-found : goal.returns-clause-found
returns-clause-found c =
    let header = c.args.header.now in
    let prefix : c.deref.result.now ≡ log_header_bytes header = c.deref.ensures.value ∙ c.in_ok-prefix.ensures in
    let link : c.link_of.result ≡ first_link header = c.link_of.ensures ∙ ap sha256 (c.deref-2.ensures.value ∙ c.in_ok-prefix.ensures) in
    let whole = c.in-Some.ensures.some ∙ ap (λ (x : List ℕ). x ++ c.in-Some.rest.now) prefix in
    let read = c.in_ok-ends.ensures.ok in (
      read.0,
      found_is header c.args.bytes.now c.in-Some.rest.now read.0 c.in_ok-ends.ends _ whole
          (subst (λ (x : List ℕ). AreRead x header.version c.in-Some.rest.now read.0 c.in_ok-ends.ends) link read.1) refl refl refl refl,
    )
