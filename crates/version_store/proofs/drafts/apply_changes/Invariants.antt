use Rattle.std.proofs.Common.{◌≡◌, ℕ, length, Some}
use Rattle.std.specs.declared.vec.Vec.{Vec}
use Rattle.std.specs.declared.alloc.Global.{Global}
use Rattle.std.specs.BTreeMap.{btree_map_len}
use Rattle.digit_pack.specs.Layout.{digits_per_record, record_at}
use Rattle.pir_schemes.specs.Plans.{digits_at}
use Rattle.version_store.specs.Drafts.{change_at, draft_of, FitRecords}
use Rattle.version_store.specs.Editions.{version_shape, MarksChanges}
use Rattle.version_store.proofs.drafts.apply_changes.Given as goal

-- the draft stays, while changes go from the map into the records
abbrev pub invariant-loop-i : goal.invariant-loop-i
invariant-loop-i g l = record {
  layer : l.layer ≡ record l.fn.layer { records = l.layer.records };
  fit : FitRecords l.fn.layer l.changes.entries;
  count : length l.layer.records ≡ length l.fn.layer.records;
  room : length l.scratch ≡ digits_per_record (version_shape l.fn.layer);
  draft : draft_of l.layer.records l.changes.entries ≡ draft_of l.fn.layer.records l.fn.changes.entries;
  waiting : (k : ℕ) (v : Vec ℕ Global) → change_at l.changes.entries k ≡ Some v → record_at l.layer.records k ≡ record_at l.fn.layer.records k;
  marks : MarksChanges (digits_at l.fn.layer.plan l.fn.layer.records) (digits_at l.layer.plan l.layer.records) l.fn.marks l.marks;
}

abbrev pub decreases-loop-i : goal.decreases-loop-i
decreases-loop-i g l = btree_map_len l.changes
