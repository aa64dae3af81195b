use Rattle.std.proofs.Common.{◌≡◌, ◌++◌, List, [], ℕ, sym, ap, subst, ◌∙◌, append_assoc}
use Rattle.std.proofs.lemmas.Result.{err_from_is_err_and}
use Rattle.std.specs.Io.KnownBytes.{Consumes}
use Rattle.std.proofs.KnownBytes.{Consumes-trans, Consumes-nil}
use Rattle.sha2.specs.Sha256.{sha256}
use Rattle.snapshot_file.specs.declared.snapshot.Header.{Header}
use Rattle.snapshot_file.specs.declared.snapshot.SnapshotFault.TheVariants as faults
use Rattle.snapshot_file.specs.Snapshots.{header_bytes, hashed_bytes, IsFile}
use Rattle.snapshot_file.proofs.Readings.{kept_below, stops_in_records, stops_at_digest}
use Rattle.snapshot_file.proofs.Writings.{reported_as}
use Rattle.snapshot_file.proofs.receiving.read_records_into.Goals as goal

pub returns-in_err-hasher-clause-err : goal.returns-in_err-hasher-clause-err
returns-in_err-hasher-clause-err g c =
    reported_as _ faults.Memory _ c.from_residual.ensures.1 (
      [],
      Consumes-nil _,
      stops_in_records faults.Memory c.args.header.now [] (g.R.Read.remaining c.args.reader.now) c.requires.header c.requires.accepted tt,
    )

pub returns-in_err-good-clause-err : goal.returns-in_err-good-clause-err
returns-in_err-good-clause-err g c =
    let p = err_from_is_err_and c.from_residual-in_err-good.result c.from_residual-in_err-good.ensures.1 in
    let e = c.in_err-good.ensures.err in
    rw (p.1, p.2) (
      e.0,
      e.1,
      stops_in_records c.in_err-good.field-0.0 c.args.header.now e.0 _ c.requires.header c.requires.accepted (kept_below _ _ e.0 _ e.2),
    )

pub returns-in_err-read_digest-clause-err : goal.returns-in_err-read_digest-clause-err
returns-in_err-read_digest-clause-err g c =
    let p = err_from_is_err_and c.from_residual-in_err-read_digest.result c.from_residual-in_err-read_digest.ensures.1 in
    let e = c.in_err-read_digest.ensures.err in
    let records : List ℕ = g.S.RecordSink.taken c.receive_records.new.sink in
    let is : IsFile c.args.header.now records = record { header = c.requires.header; accepted = c.requires.accepted; len = c.in_ok-good.ensures.ok.0 } in
    let right : c.finalize-digest.result ≡ sha256 (hashed_bytes c.args.header.now records) =
    c.finalize-digest.ensures _ (c.in_ok-good.ensures.hashed (header_bytes c.args.header.now) c.in_ok-hasher.ensures) in
    rw (p.1, p.2) (
      records ++ e.0,
      Consumes-trans _ _ _ _ _ c.in_ok-good.ensures.ok.1 e.1,
      stops_at_digest c.in_err-read_digest.field-0.0 c.args.header.now records c.finalize-digest.result e.0 _ is right e.2,
    )

pub returns-then-not-good-clause-err : goal.returns-then-not-good-clause-err
returns-then-not-good-clause-err g c =
    let e = c.in_ok-read_digest.ensures.ok in
    let h : Header = c.args.header.now in
    let records : List ℕ = g.S.RecordSink.taken c.receive_records.new.sink in
    let is : IsFile h records = record { header = c.requires.header; accepted = c.requires.accepted; len = c.in_ok-good.ensures.ok.0 } in
    let right : c.finalize-digest.result ≡ sha256 (hashed_bytes h records) =
    c.finalize-digest.ensures _ (c.in_ok-good.ensures.hashed (header_bytes h) c.in_ok-hasher.ensures) in (
      records ++ sha256 (hashed_bytes h records),
      subst (Consumes _ _) (ap (λ (x : List ℕ). records ++ x) right) (Consumes-trans _ _ _ _ _ c.in_ok-good.ensures.ok.1 e.0),
      (
        (h, records, is, sym c.in_ok-good.ensures.slots ∙ c.if-not-good.true, sym (append_assoc (header_bytes h) records (sha256 (hashed_bytes h records)))),
        e.1,
      ),
    )

pub returns : goal.returns
returns g c =
    let e = c.in_ok-read_digest.ensures.ok in
    let h : Header = c.args.header.now in
    let records : List ℕ = g.S.RecordSink.taken c.receive_records.new.sink in
    let is : IsFile h records = record { header = c.requires.header; accepted = c.requires.accepted; len = c.in_ok-good.ensures.ok.0 } in
    let right : c.finalize-digest.result ≡ sha256 (hashed_bytes h records) =
    c.finalize-digest.ensures _ (c.in_ok-good.ensures.hashed (header_bytes h) c.in_ok-hasher.ensures) in
    record {
      ok = (
        record { file = is; slots = sym c.in_ok-good.ensures.slots ∙ c.if-not-good.false },
        subst (Consumes _ _) (ap (λ (x : List ℕ). records ++ x) right) (Consumes-trans _ _ _ _ _ c.in_ok-good.ensures.ok.1 e.0),
        e.1,
      );
      digest = right;
      shape = c.receive_records.ensures.shape;
      err = _;
    }
