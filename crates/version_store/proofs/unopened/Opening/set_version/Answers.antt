use Rattle.version_store.specs.HeldRecords.{bytes_held_by}
use Rattle.version_store.proofs.RecordsPut.{sound_version}
use Rattle.version_store.proofs.unopened.Opening.set_version.Goals as goal

pub invariant_of-self : goal.invariant_of-self
invariant_of-self c = record {
  sound = sound_version c.self.inside.header (bytes_held_by c.self.inside.held) c.args.version c.requires c.self.invariant.sound;
  kind = c.self.invariant.kind;
  shape = c.self.invariant.shape;
}
