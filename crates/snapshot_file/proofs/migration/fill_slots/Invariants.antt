use Rattle.std.proofs.Common.{◌≡◌, ◌<◌, ◌*◌, ℕ, length}
use Rattle.digit_pack.specs.Layout.{record_at, records_in}
use Rattle.digit_pack.specs.Slots.{slot_of}
use Rattle.snapshot_file.proofs.migration.fill_slots.Given as goal

-- the records before the next have their slots
abbrev pub invariant-loop-i : goal.invariant-loop-i
invariant-loop-i l =
    (length l.slots ≡ l.wide.count * l.wide.record_len)
    × ((k : ℕ) → k < l.i → record_at (records_in l.wide l.slots) k ≡ slot_of l.wide.record_len (record_at (records_in l.narrow l.records) k))
