use Rattle.std.proofs.Common.{refl}
use Rattle.std.specs.Io.KnownBytes.{append_known}
use Rattle.safe_files.proofs.Courses.{shows_more}
use Rattle.safe_files.proofs.replacing.replace.Goals as goal

pub returns-in_default : goal.returns-in_default
returns-in_default g c = (
  append_known g.D.Disk.fresh (g.C.Content.bytes c.args.content.now),
  shows_more g.D.Disk.fresh (g.C.Content.bytes c.args.content.now),
  (c.make.new.self, c.in_default.ensures.did, refl),
)

pub returns-in-Err-Write : goal.returns-in-Err-Write
returns-in-Err-Write g c = (
  append_known g.D.Disk.fresh (g.C.Content.bytes c.args.content.now),
  shows_more g.D.Disk.fresh (g.C.Content.bytes c.args.content.now),
  (c.make.new.self, c.in-Ok.ensures.did, (c.remove.new.self, c.remove.ensures.did, refl)),
)

pub returns-in-Err-Memory : goal.returns-in-Err-Memory
returns-in-Err-Memory g c = (
  append_known g.D.Disk.fresh (g.C.Content.bytes c.args.content.now),
  shows_more g.D.Disk.fresh (g.C.Content.bytes c.args.content.now),
  (c.make.new.self, c.in-Ok.ensures.did, (c.remove-in-Err-Memory.new.self, c.remove-in-Err-Memory.ensures.did, refl)),
)
