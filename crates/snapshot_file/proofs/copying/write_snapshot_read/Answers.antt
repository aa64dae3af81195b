use Rattle.std.proofs.Common.{[], refl}
use Rattle.std.proofs.KnownBytes.{Consumes-nil}
use Rattle.snapshot_file.specs.declared.copying.CopyFault.TheVariants as faults
use Rattle.snapshot_file.proofs.Writings.{reported_as}
use Rattle.snapshot_file.proofs.copying.write_snapshot_read.Goals as goal

pub returns-in_err-prefix-clause-refused : goal.returns-in_err-prefix-clause-refused
returns-in_err-prefix-clause-refused g c = reported_as _ faults.Memory _ c.from_residual.ensures.1 ([], Consumes-nil _, refl)

pub returns-in_err-buffer-clause-refused : goal.returns-in_err-buffer-clause-refused
returns-in_err-buffer-clause-refused g c = reported_as _ faults.Memory _ c.from_residual-in_err-buffer.ensures.1 ([], Consumes-nil _, refl)

pub returns : goal.returns
returns g c = c.copy_all_bytes.ensures
