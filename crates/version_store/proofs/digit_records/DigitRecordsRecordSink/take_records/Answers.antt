use Rattle.std.proofs.Common.{◌≡◌, ◌∙◌, ◌+◌, ◌*◌, ◌/◌, ◌++◌, ◌<◌, ◌≤◌, ◌^◌, ℕ, List, ap, sym, subst, length}
use Rattle.std.proofs.lemmas.List.Elements.{All-from_get_or}
use Rattle.digit_pack.specs.Layout.{Shape}
use Rattle.snapshot_file.proofs.Pieces.{batch_count}
use Rattle.version_store.specs.KeptRecords.{IsKept, KeptRecords, bytes_in_digits}
use Rattle.version_store.proofs.Batches.{few_more, kept_batch, bytes_batch}
use Rattle.version_store.proofs.digit_records.DigitRecordsRecordSink.take_records.Goals as goal

-- what is known of the bytes, by the layout inside
long_inside : (v : KeptRecords) (l : Shape) (old new : List ℕ) → record { shape = l; bytes = old } ≡ v → (m : ℕ) → length new ≡ m * v.shape.record_len →
    length new ≡ m * l.record_len
long_inside v l old new view m long = long ∙ ap (λ (w : KeptRecords). m * w.shape.record_len) (sym view)

room_inside : (v : KeptRecords) (l : Shape) (old new : List ℕ) → record { shape = l; bytes = old } ≡ v →
    length v.bytes + length new ≤ v.shape.count * v.shape.record_len → length old + length new ≤ l.count * l.record_len
room_inside v l old new view room =
    subst (λ (w : KeptRecords). length w.bytes + length new ≤ w.shape.count * w.shape.record_len) (sym view) room

module _ (l : Shape) (n : ℕ) (digits : _) (kept : IsKept l n digits) (v : KeptRecords)
    (view : record { shape = l; bytes = bytes_in_digits l n digits } ≡ v) (new : List ℕ) (whole : (m : ℕ) × (length new ≡ m * v.shape.record_len))
    (r : ℕ) (same : r ≡ l.record_len) where
  pub long : length new ≡ length new / r * l.record_len
  long =
      let is : length new ≡ whole.0 * l.record_len = long_inside v l (bytes_in_digits l n digits) new view whole.0 whole.1 in
      is ∙ ap (λ x. x * l.record_len) (sym (batch_count (length new) r l.record_len whole.0 is same kept.layout.record_len.0))

pub write_records-requires-clause-len : goal.write_records-requires-clause-len
write_records-requires-clause-len c =
    long c.self.inside.layout c.self.inside.taken c.self.inside.digits c.self.invariant c.args.self.now c.self.view_is c.args.bytes.now c.requires.whole
    c.record_len.result c.record_len.ensures.value

pub write_records-requires-clause-inside : goal.write_records-requires-clause-inside
write_records-requires-clause-inside c =
    few_more c.self.inside.layout c.self.inside.taken c.self.inside.digits c.self.invariant c.args.bytes.now (length c.args.bytes.now / c.record_len.result)
    (long c.self.inside.layout c.self.inside.taken c.self.inside.digits c.self.invariant c.args.self.now c.self.view_is c.args.bytes.now c.requires.whole
    c.record_len.result c.record_len.ensures.value)
    (room_inside c.args.self.now c.self.inside.layout (bytes_in_digits c.self.inside.layout c.self.inside.taken c.self.inside.digits) c.args.bytes.now
    c.self.view_is c.requires.room)

pub invariant_of-self : goal.invariant_of-self
invariant_of-self c =
    kept_batch c.self.inside.layout c.self.inside.taken c.self.inside.digits c.self.invariant c.args.bytes.now (length c.args.bytes.now / c.record_len.result)
    (long c.self.inside.layout c.self.inside.taken c.self.inside.digits c.self.invariant c.args.self.now c.self.view_is c.args.bytes.now c.requires.whole
    c.record_len.result c.record_len.ensures.value)
    (room_inside c.args.self.now c.self.inside.layout (bytes_in_digits c.self.inside.layout c.self.inside.taken c.self.inside.digits) c.args.bytes.now
    c.self.view_is c.requires.room)
    (All-from_get_or (λ x. x < 2 ^ 8) c.args.bytes.now 0 (λ i _. (c.type_inv.bytes i).fits)) c.write_records.new.digits c.write_records.ensures

pub returns-clause-taken : goal.returns-clause-taken
returns-clause-taken c =
    bytes_batch c.self.inside.layout c.self.inside.taken c.self.inside.digits c.self.invariant c.args.bytes.now (length c.args.bytes.now / c.record_len.result)
    (long c.self.inside.layout c.self.inside.taken c.self.inside.digits c.self.invariant c.args.self.now c.self.view_is c.args.bytes.now c.requires.whole
    c.record_len.result c.record_len.ensures.value)
    (room_inside c.args.self.now c.self.inside.layout (bytes_in_digits c.self.inside.layout c.self.inside.taken c.self.inside.digits) c.args.bytes.now
    c.self.view_is c.requires.room)
    (All-from_get_or (λ x. x < 2 ^ 8) c.args.bytes.now 0 (λ i _. (c.type_inv.bytes i).fits)) c.write_records.new.digits c.write_records.ensures
    ∙ ap (λ (v : KeptRecords). v.bytes ++ c.args.bytes.now) c.self.view_is
