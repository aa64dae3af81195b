use Rattle.std.proofs.Common.{◌≡◌, ◌∙◌, ℕ, true, sym, ap, subst, length, inl, inr, arith}
use Rattle.std.proofs.lemmas.Bool.{cases_lt}
use Rattle.matrix_u32.proofs.Products.{length-list_of}
use Rattle.digit_pack.specs.Layout.{record_at, records_in}
use Rattle.digit_pack.specs.Slots.{is_slot}
use Rattle.digit_pack.proofs.SlotLemmas.{each_passes}
use Rattle.digit_pack.proofs.slots.are_slots.Goals as goal

pub loop-i-init : goal.loop-i-init
loop-i-init c = λ k lt. absurd (omega arith)

pub loop-i-preserved : goal.loop-i-preserved
loop-i-preserved c = λ k lt.
    let records = records_in c.args.layout.now c.args.bytes.now in
    let here : is_slot (record_at (records_in c.args.layout.now c.args.bytes.now) c.loop-i.i) ≡ true =
    ap is_slot (sym c.nth_record.ensures.value) ∙ sym c.is_slot.ensures ∙ c.if-not-is_slot.false in
    elim (cases_lt k c.loop-i.i) [
      | inl less ↦ c.loop-i.invariant k less
      | inr ge ↦
          let e : c.loop-i.i ≡ k = omega (arith, lt, ge) in
          subst (λ (n : ℕ). is_slot (record_at (records_in c.args.layout.now c.args.bytes.now) n) ≡ true) e here
    ]

pub returns : goal.returns
returns c =
    let count : length (records_in c.args.layout.now c.args.bytes.now) ≡ c.args.layout.now.count = length-list_of c.args.layout.now.count _ in
    sym (each_passes is_slot (records_in c.args.layout.now c.args.bytes.now)
    (λ k lt. c.loop-i.invariant k (omega (arith, lt, count, c.loop-i-test.false, c.count-i-end.ensures.value))))
