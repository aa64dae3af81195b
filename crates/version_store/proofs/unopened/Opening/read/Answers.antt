use Rattle.std.proofs.Common.{◌++◌, List, ℕ, append_assoc, rules, subst, sym, IfSome}
use Rattle.std.specs.Io.KnownBytes.{Consumes}
use Rattle.std.proofs.KnownBytes.{Consumes-trans}
use Rattle.sha2.specs.Sha256.{sha256}
use Rattle.snapshot_file.specs.declared.snapshot.Header.{Header}
use Rattle.snapshot_file.specs.Snapshots.{header_bytes, hashed_bytes}
use Rattle.snapshot_file.specs.Verdicts.{MayRefuse}
use Rattle.snapshot_file.proofs.Readings.{answers_fault}
use Rattle.version_store.specs.HeldRecords.{bytes_held_by}
use Rattle.version_store.proofs.unopened.Opening.read.Goals as goal

pub returns-in_err-header-clause-refused : goal.returns-in_err-header-clause-refused
returns-in_err-header-clause-refused g c =
    let e = c.in_err-header.ensures.err in
    let h : IfSome (g.R.Read.remaining c.args.reader.now) (λ bytes. MayRefuse c.in_err-header.field-0.0 bytes) = answers_fault _ _ _ e.0 e.1 e.2 in
    search (rules, h)

pub returns-in_err-held-clause-refused : goal.returns-in_err-held-clause-refused
returns-in_err-held-clause-refused g c =
    let e = c.in_err-held.ensures.err in
    let h : IfSome (g.R.Read.remaining c.args.reader.now) (λ bytes. MayRefuse c.in_err-held.field-0.0 bytes) =
    answers_fault _ _ _ (header_bytes c.in_ok-header.header ++ e.0) (Consumes-trans _ _ _ _ _ c.in_ok-header.ensures.ok.2 e.1) e.2 in
    search (rules, h)

pub returns-clause-read : goal.returns-clause-read
returns-clause-read g c =
    let h : Header = c.in_ok-header.header in
    let records : List ℕ = bytes_held_by c.in_ok-held.held in
    let e = c.in_ok-held.ensures.ok in (
      e.0,
      c.in_ok-held.ensures.digest,
      subst (Consumes _ _) (sym (append_assoc (header_bytes h) records (sha256 (hashed_bytes h records))))
          (Consumes-trans _ _ _ _ _ c.in_ok-header.ensures.ok.2 e.1),
      e.2,
    )
