use Rattle.std.proofs.Common.{ap, ◌∙◌, sym, arith, ◌≡◌, ◌≤◌, take, drop, List, ℕ, length, ◌*◌, ◌+◌, ◌-◌}
use Rattle.std.specs.Prelude.{slice_set}
use Rattle.std.proofs.lemmas.List.{length-take-le, length-drop}
use Rattle.std.proofs.lemmas.Nat.{row_fits}
use Rattle.digit_pack.specs.Layout.{records_in}
use Rattle.digit_pack.specs.Slots.{slot_of}
use Rattle.digit_pack.proofs.RecordLemmas.{written_record}
use Rattle.digit_pack.proofs.SlotLemmas.{slot_size}
use Rattle.digit_pack.proofs.slots.write_slot.Goals as goal

pub returns : goal.returns
returns c =
    let len : ℕ = c.record_len-len.result in
    let n : ℕ = c.args.i * len + len - c.args.i * len in
    let cut : n ≡ len = omega arith in
    let ys : List ℕ = c.fill_slot.new.slot in
    let size : ℕ = c.args.layout.now.record_len in
    let room : c.args.i * size + size ≤ c.args.layout.now.count * size = row_fits c.args.i size c.args.layout.now.count size c.requires.index (omega arith) in
    let long : length (take n (drop (c.args.i * len) c.args.bytes.now)) ≡ size =
    ap (λ (k : ℕ). length (take (c.args.i * k + k - c.args.i * k) (drop (c.args.i * k) c.args.bytes.now))) c.record_len-len.ensures.value
    ∙ length-take-le _ (drop (c.args.i * size) c.args.bytes.now) (omega (arith, room, c.requires.count, length-drop (c.args.i * size) c.args.bytes.now))
    ∙ omega arith in
    let is : ys ≡ slot_of c.args.layout.now.record_len c.args.written.now = c.fill_slot.ensures ∙ ap (λ (k : ℕ). slot_of k c.args.written.now) long in
    written_record c.args.layout.now c.args.bytes.now ys c.args.i len n c.record_len-len.ensures.value cut c.requires.count c.requires.index
    (ap length is ∙ slot_size c.args.layout.now.record_len c.args.written.now c.requires.fits ∙ sym c.record_len-len.ensures.value)
    ∙ ap (λ (b : List ℕ). slice_set (records_in c.args.layout.now c.args.bytes.now) c.args.i b) is
