use Rattle.std.proofs.Common.{refl}
use Rattle.std.proofs.KnownBytes.{Appends-nil}
use Rattle.std.proofs.lemmas.Result.{err_from_is_err_and}
use Rattle.snapshot_file.specs.declared.snapshot.WriteFault.TheVariants as faults
use Rattle.snapshot_file.proofs.Writings.{reported_as, nothing_shorter}
use Rattle.snapshot_file.proofs.streaming.write_snapshot_from.Goals as goal

pub returns-in_err-prefix-clause-part : goal.returns-in_err-prefix-clause-part
returns-in_err-prefix-clause-part g c =
    let p = err_from_is_err_and c.from_residual.result c.from_residual.ensures.1 in
    rw p.1 (0, nothing_shorter c.args.header.now (g.S.RecordSource.bytes c.args.source.now), Appends-nil _, λ _. refl)

pub returns-in_err-buffer-clause-part : goal.returns-in_err-buffer-clause-part
returns-in_err-buffer-clause-part g c =
    let p = err_from_is_err_and c.from_residual-in_err-buffer.result c.from_residual-in_err-buffer.ensures.1 in
    rw p.1 (0, nothing_shorter c.args.header.now (g.S.RecordSource.bytes c.args.source.now), Appends-nil _, λ _. refl)

pub returns-in_err-write_all_bytes-clause-part : goal.returns-in_err-write_all_bytes-clause-part
returns-in_err-write_all_bytes-clause-part g c =
    let e = c.in_err-write_all_bytes.ensures.part in
    reported_as _ faults.Write _ c.from_residual-in_err-write_all_bytes.ensures.1 (e.0, e.1, e.2, λ m. absurd (cc))
