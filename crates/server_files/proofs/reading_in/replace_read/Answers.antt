use Rattle.std.proofs.Common.{[], refl}
use Rattle.std.proofs.KnownBytes.{Appends-nil}
use Rattle.safe_files.specs.declared.replacing.ReplaceFault.TheVariants.{Make, Write}
use Rattle.server_files.specs.declared.reading_in.Unwritten.{Unwritten}
use Rattle.server_files.specs.declared.reading_in.Unwritten.TheVariants.{Input, File}
use Rattle.server_files.specs.ReadIn.{EndsReplacement}
use Rattle.server_files.proofs.reading_in.replace_read.Goals as goal

-- whatever stops the writing ends the replacement there
ends_in_writing : (unwritten : Unwritten) → EndsReplacement unwritten Write
ends_in_writing (Input fault) = refl
ends_in_writing (File failure read) = _

pub returns-in_default-clause-refused : goal.returns-in_default-clause-refused
returns-in_default-clause-refused g c =
    ([], Make, _, (g.D.Disk.fresh, Appends-nil g.D.Disk.fresh, (c.make.new.self, c.in_default.ensures.did, refl)))

pub returns-in-Err-clause-refused : goal.returns-in-Err-clause-refused
returns-in-Err-clause-refused g c = (
  [],
  Write,
  ends_in_writing c.how_unwritten.result,
  (
    g.D.Disk.fresh,
    Appends-nil g.D.Disk.fresh,
    (c.make.new.self, c.in-Ok.ensures.did, (c.remove.new.self, c.remove.ensures.did, refl)),
  ),
)
