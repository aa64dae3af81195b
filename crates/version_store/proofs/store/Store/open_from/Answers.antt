use Rattle.std.proofs.Common.{◌≡◌, ◌++◌, ◌∙◌, List, ℕ, Option, Some, None, IfSome, append_assoc}
use Rattle.std.proofs.lemmas.Result.{err_from_is_err_and}
use Rattle.sha2.specs.Sha256.{sha256}
use Rattle.snapshot_file.specs.declared.snapshot.Header.{Header}
use Rattle.snapshot_file.specs.declared.snapshot.SnapshotFault.TheVariants as faults
use Rattle.snapshot_file.specs.Snapshots.{header_bytes, hashed_bytes, snapshot_bytes, IsSnapshot}
use Rattle.snapshot_file.specs.Verdicts.{HasHeader, MayRefuse}
use Rattle.snapshot_file.proofs.Readings.{whole_input}
use Rattle.version_store.proofs.store.Store.open_from.Goals as goal

-- a whole snapshot has an accepted header
has_header : (h : Header) (records : List ℕ) → IsSnapshot h records →
    (x : Header) × (rest : List ℕ) × HasHeader (snapshot_bytes h records) x rest
has_header h records is = (
  h,
  records ++ sha256 (hashed_bytes h records),
  (is.file.header, is.file.accepted, append_assoc (header_bytes h) records (sha256 (hashed_bytes h records))),
)

-- memory may be refused after a whole snapshot
may_refuse : (left : Option (List ℕ)) (h : Header) (records : List ℕ) → IsSnapshot h records → IfSome left (λ bytes. bytes ≡ snapshot_bytes h records) →
    IfSome left (λ bytes. MayRefuse faults.Memory bytes)
may_refuse None h records is e = tt
may_refuse (Some bytes) h records is e =
    let it = has_header h records is in
    (it.0, it.1, (it.2.0, it.2.1, e ∙ it.2.2))

pub returns-in_err-store-clause-refused : goal.returns-in_err-store-clause-refused
returns-in_err-store-clause-refused g c =
    let p = err_from_is_err_and c.from_residual-in_err-store.result c.from_residual-in_err-store.ensures.1 in
    let r = c.in_ok-opening.ensures.read in
    rw (p.1, p.2) (may_refuse _ c.in_ok-opening.opening.header c.in_ok-opening.opening.bytes r.0 (whole_input _ _ _ r.2 r.3))

pub returns-in_err-store-clause-stops : goal.returns-in_err-store-clause-stops
returns-in_err-store-clause-stops g c =
    let p = err_from_is_err_and c.from_residual-in_err-store.result c.from_residual-in_err-store.ensures.1 in
    let r = c.in_ok-opening.ensures.read in
    let h : Header = c.in_ok-opening.opening.header in
    let records : List ℕ = c.in_ok-opening.opening.bytes in
    rw (p.1, p.2) (snapshot_bytes h records, r.2, has_header h records r.0)
