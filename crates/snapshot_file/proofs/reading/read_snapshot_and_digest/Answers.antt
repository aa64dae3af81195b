use Rattle.std.proofs.Common.{◌≡◌, ◌++◌, List, ℕ, Option, Result, Ok, Err, IfSome, sym, subst, append_assoc}
use Rattle.std.specs.Prelude.{IfOk, IfErr}
use Rattle.std.proofs.lemmas.Result.{err_from_is_err_and}
use Rattle.std.specs.Io.KnownBytes.{Consumes, IsAtEnd}
use Rattle.std.proofs.KnownBytes.{Consumes-trans}
use Rattle.sha2.specs.Sha256.{sha256}
use Rattle.snapshot_file.specs.declared.snapshot.Header.{Header}
use Rattle.snapshot_file.specs.declared.snapshot.Snapshot.{Snapshot}
use Rattle.snapshot_file.specs.declared.snapshot.SnapshotFault.{SnapshotFault}
use Rattle.snapshot_file.specs.Verdicts.{MayRefuse, StopsReadingAt}
use Rattle.snapshot_file.specs.Snapshots.{header_of, header_bytes, hashed_bytes, snapshot_bytes, IsSnapshot}
use Rattle.snapshot_file.proofs.Readings.{answers_fault, whole_input}
use Rattle.snapshot_file.proofs.reading.read_snapshot_and_digest.Goals as goal

-- what is returned after a header may be returned for the whole input
module _ (h : Header) (before middle after : Option (List ℕ)) (first : Consumes before middle (header_bytes h)) where
  -- what stopped it
  pub stops : (r : Result (Snapshot × List ℕ) SnapshotFault) →
      IfErr r (λ fault. (read : List ℕ) × Consumes middle after read × StopsReadingAt fault (header_bytes h ++ read) after) →
      IfErr r (λ fault. (read : List ℕ) × Consumes before after read × StopsReadingAt fault read after)
  stops (Ok s) e = tt
  stops (Err fault) e = (header_bytes h ++ e.0, Consumes-trans _ _ _ _ _ first e.1, e.2)

  pub refused : (r : Result (Snapshot × List ℕ) SnapshotFault) →
      IfErr r (λ fault. (read : List ℕ) × Consumes middle after read × StopsReadingAt fault (header_bytes h ++ read) after) →
      IfErr r (λ fault. IfSome before (λ bytes. MayRefuse fault bytes))
  refused (Ok s) e = tt
  refused (Err fault) e = answers_fault _ _ _ (header_bytes h ++ e.0) (Consumes-trans _ _ _ _ _ first e.1) e.2

  -- what was read
  pub taken : (r : Result (Snapshot × List ℕ) SnapshotFault) → IfOk r (λ s. header_of s.0 ≡ h) →
      IfOk r (λ s. IsSnapshot h s.0.records.items × Consumes middle after (s.0.records.items ++ sha256 (hashed_bytes h s.0.records.items)) × IsAtEnd after) →
      IfOk r (λ s. Consumes before after (snapshot_bytes (header_of s.0) s.0.records.items) × IsAtEnd after)
  taken (Ok s) same e =
      let whole = append_assoc (header_bytes h) s.0.records.items (sha256 (hashed_bytes h s.0.records.items)) in
      let all = subst (Consumes before after) (sym whole) (Consumes-trans _ _ _ _ _ first e.1) in
      (subst (λ (k : Header). Consumes before after (snapshot_bytes k s.0.records.items)) (sym same) all, e.2)
  taken (Err fault) same e = tt

  pub accepted : (r : Result (Snapshot × List ℕ) SnapshotFault) → IfOk r (λ s. header_of s.0 ≡ h) →
      IfOk r (λ s. IsSnapshot h s.0.records.items × Consumes middle after (s.0.records.items ++ sha256 (hashed_bytes h s.0.records.items)) × IsAtEnd after) →
      IfOk r (λ s. IsSnapshot (header_of s.0) s.0.records.items)
  accepted (Ok s) same e = subst (λ (k : Header). IsSnapshot k s.0.records.items) (sym same) e.0
  accepted (Err fault) same e = tt

  pub digested : (r : Result (Snapshot × List ℕ) SnapshotFault) → IfOk r (λ s. header_of s.0 ≡ h) →
      IfOk r (λ s. s.1 ≡ sha256 (hashed_bytes h s.0.records.items)) → IfOk r (λ s. s.1 ≡ sha256 (hashed_bytes (header_of s.0) s.0.records.items))
  digested (Ok s) same e = subst (λ (k : Header). s.1 ≡ sha256 (hashed_bytes k s.0.records.items)) (sym same) e
  digested (Err fault) same e = tt

whole : (before after : Option (List ℕ)) (r : Result (Snapshot × List ℕ) SnapshotFault) →
    IfOk r (λ s. Consumes before after (snapshot_bytes (header_of s.0) s.0.records.items) × IsAtEnd after) →
    IfOk r (λ s. IfSome before (λ bytes. bytes ≡ snapshot_bytes (header_of s.0) s.0.records.items))
whole before after (Ok s) e = whole_input before after _ e.0 e.1
whole before after (Err fault) e = tt

pub returns-in_err-header : goal.returns-in_err-header
returns-in_err-header g c =
    let p = err_from_is_err_and c.from_residual.result c.from_residual.ensures.1 in
    let e = c.in_err-header.ensures.err in
    rw (p.1, p.2) record {
      accepted = tt;
      digest = tt;
      input = tt;
      refused = answers_fault _ _ _ e.0 e.1 e.2;
      taken = tt;
      stops = e;
    }

pub returns : goal.returns
returns g c =
    let r = c.read_after_header.result in
    let h : Header = c.in_ok-header.header in
    let before : Option (List ℕ) = g.R.Read.remaining c.args.reader.now in
    let middle : Option (List ℕ) = g.R.Read.remaining c.read_header.new.reader in
    let after : Option (List ℕ) = g.R.Read.remaining c.read_after_header.new.reader in
    let first = c.in_ok-header.ensures.ok.2 in
    let same = c.read_after_header.ensures.header in
    let read = taken h before middle after first r same c.read_after_header.ensures.ok in
    record {
      accepted = accepted h before middle after first r same c.read_after_header.ensures.ok;
      digest = digested h before middle after first r same c.read_after_header.ensures.digest;
      input = whole before after r read;
      refused = refused h before middle after first r c.read_after_header.ensures.err;
      taken = read;
      stops = stops h before middle after first r c.read_after_header.ensures.err;
    }
