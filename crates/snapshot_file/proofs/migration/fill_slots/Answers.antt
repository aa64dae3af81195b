use Rattle.std.proofs.Common.{◌≡◌, ◌∙◌, ◌<◌, ℕ, List, length, slice_set, sym, ap, arith}
use Rattle.std.proofs.lemmas.List.FromFn.{length-map-range_with_len}
use Rattle.digit_pack.specs.Layout.{record_at, records_in}
use Rattle.digit_pack.specs.Slots.{slot_of}
use Rattle.snapshot_file.proofs.Migrating.{one_more, all_there}
use Rattle.snapshot_file.proofs.migration.fill_slots.Goals as goal

pub loop-i-init : goal.loop-i-init
loop-i-init c = (c.requires.slots, λ k lt. absurd (omega (arith, lt)))

pub loop-i-preserved : goal.loop-i-preserved
loop-i-preserved c =
    let xs : List (List ℕ) = records_in c.args.narrow.now c.args.records.now in
    let ys : List (List ℕ) = records_in c.args.wide.now c.loop-i.slots in
    let many : length ys ≡ c.args.wide.now.count = length-map-range_with_len _ 0 c.args.wide.now.count in
    let len : ℕ = c.args.wide.now.record_len in
    let written : records_in c.args.wide.now c.write_slot.new.bytes ≡ slice_set ys c.loop-i.i (slot_of len (record_at xs c.loop-i.i)) =
    c.write_slot.ensures ∙ ap (λ (b : List ℕ). slice_set ys c.loop-i.i (slot_of len b)) c.nth_record.ensures.value in
    let inside : c.loop-i.i < length ys = omega (arith, many, c.loop-i-test.true, c.count-i-end.ensures.value, c.requires.count) in (
      omega (arith, c.write_slot.auto.bytes, c.loop-i.invariant.0),
      λ k lt. ap (λ (zs : List (List ℕ)). record_at zs k) written
          ∙ one_more ys (λ n. slot_of len (record_at xs n)) c.loop-i.i inside c.loop-i.invariant.1 k lt,
    )

pub returns : goal.returns
returns c =
    let xs : List (List ℕ) = records_in c.args.narrow.now c.args.records.now in
    let ys : List (List ℕ) = records_in c.args.wide.now c.loop-i.slots in
    let few : length xs ≡ c.args.narrow.now.count = length-map-range_with_len _ 0 c.args.narrow.now.count in
    let many : length ys ≡ c.args.wide.now.count = length-map-range_with_len _ 0 c.args.wide.now.count in
    all_there xs ys (slot_of c.args.wide.now.record_len) (many ∙ c.requires.count ∙ sym few)
    (λ k lt. c.loop-i.invariant.1 k (omega (arith, lt, few, c.loop-i-test.false, c.count-i-end.ensures.value)))
