use Rattle.std.proofs.Common.{◌≡◌, ◌<◌, ℕ, true}
use Rattle.digit_pack.specs.Layout.{record_at, records_in}
use Rattle.digit_pack.specs.Slots.{is_slot}
use Rattle.digit_pack.proofs.slots.are_slots.Given as goal

abbrev pub invariant-loop-i : goal.invariant-loop-i
invariant-loop-i l = (k : ℕ) → k < l.i → is_slot (record_at (records_in l.layout l.bytes) k) ≡ true
