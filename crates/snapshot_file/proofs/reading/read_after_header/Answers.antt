use Rattle.std.proofs.Common.{◌++◌, ◌∙◌, ap, List, ℕ, append_assoc, sym}
use Rattle.sha2.specs.Sha256.{sha256}
use Rattle.snapshot_file.specs.Snapshots.{header_bytes, hashed_bytes, has_slots}
use Rattle.snapshot_file.proofs.reading.read_after_header.Goals as goal

pub returns-then-not-has_slots-clause-err : goal.returns-then-not-has_slots-clause-err
returns-then-not-has_slots-clause-err g c =
    let records : List ℕ = c.in_ok-records.records.items in
    let body = c.in_ok-records.ensures.ok in (
      records ++ sha256 (hashed_bytes c.args.header records),
      body.1,
      (
        (
          c.args.header,
          records,
          body.0,
          ap (has_slots c.args.header) (sym c.deref.ensures.value) ∙ sym c.has_slots.ensures ∙ c.if-not-has_slots.true,
          sym (append_assoc (header_bytes c.args.header) records (sha256 (hashed_bytes c.args.header records))),
        ),
        body.2,
      ),
    )
