use Rattle.std.proofs.Common.{◌≡◌, ◌++◌, List, [], ℕ, ap, subst, ◌∙◌}
use Rattle.std.proofs.lemmas.Result.{err_from_is_err_and}
use Rattle.std.specs.Io.KnownBytes.{Consumes}
use Rattle.std.proofs.KnownBytes.{Consumes-trans, Consumes-nil}
use Rattle.sha2.specs.Sha256.{sha256}
use Rattle.snapshot_file.specs.declared.snapshot.SnapshotFault.TheVariants as faults
use Rattle.snapshot_file.specs.Snapshots.{header_bytes, hashed_bytes, records_len, IsFile}
use Rattle.snapshot_file.proofs.Readings.{stops_in_records, stops_at_digest}
use Rattle.snapshot_file.proofs.Writings.{reported_as}
use Rattle.snapshot_file.proofs.reading.read_body.Goals as goal

pub returns-in_err-hasher-clause-err : goal.returns-in_err-hasher-clause-err
returns-in_err-hasher-clause-err g c =
    reported_as _ faults.Memory _ c.from_residual.ensures.1 (
      [],
      Consumes-nil _,
      stops_in_records faults.Memory c.args.header.now [] (g.R.Read.remaining c.args.reader.now) c.requires.header c.requires.accepted tt,
    )

pub returns-in_err-records-clause-err : goal.returns-in_err-records-clause-err
returns-in_err-records-clause-err g c =
    let p = err_from_is_err_and c.from_residual-in_err-records.result c.from_residual-in_err-records.ensures.1 in
    let e = c.in_err-records.ensures.err in
    rw (p.1, p.2) (
      e.0,
      e.1,
      stops_in_records c.in_err-records.field-0.0 c.args.header.now e.0 _ c.requires.header c.requires.accepted (rw c.records_len.ensures at e.2),
    )

pub returns-in_err-read_digest-clause-err : goal.returns-in_err-read_digest-clause-err
returns-in_err-read_digest-clause-err g c =
    let p = err_from_is_err_and c.from_residual-in_err-read_digest.result c.from_residual-in_err-read_digest.ensures.1 in
    let e = c.in_err-read_digest.ensures.err in
    let records : List ℕ = c.in_ok-records.records.items in
    let is : IsFile c.args.header.now records = record {
      header = c.requires.header;
      accepted = c.requires.accepted;
      len = c.in_ok-records.ensures.ok.0 ∙ c.records_len.ensures;
    } in
    let right : c.finalize-digest.result ≡ sha256 (hashed_bytes c.args.header.now records) =
    c.finalize-digest.ensures _ (c.update.ensures (header_bytes c.args.header.now) c.in_ok-hasher.ensures) in
    rw (p.1, p.2) (
      records ++ e.0,
      Consumes-trans _ _ _ _ _ c.in_ok-records.ensures.ok.1 e.1,
      stops_at_digest c.in_err-read_digest.field-0.0 c.args.header.now records c.finalize-digest.result e.0 _ is right e.2,
    )

pub returns : goal.returns
returns g c =
    let e = c.in_ok-read_digest.ensures.ok in
    let records : List ℕ = c.in_ok-records.records.items in
    let right : c.finalize-digest.result ≡ sha256 (hashed_bytes c.args.header.now records) =
    c.finalize-digest.ensures _ (c.update.ensures (header_bytes c.args.header.now) c.in_ok-hasher.ensures) in
    record {
      ok = (
        record { header = c.requires.header; accepted = c.requires.accepted; len = c.in_ok-records.ensures.ok.0 ∙ c.records_len.ensures },
        subst (Consumes _ _) (ap (λ (x : List ℕ). records ++ x) right) (Consumes-trans _ _ _ _ _ c.in_ok-records.ensures.ok.1 e.0),
        e.1,
      );
      digest = right;
      err = _;
    }
