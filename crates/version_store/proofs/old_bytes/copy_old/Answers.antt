use Rattle.std.proofs.Common.{◌∙◌, arith, ap, replicate}
use Rattle.digit_pack.specs.Layout.{Shape}
use Rattle.version_store.proofs.OldSlots.{slot_blank, slot_there}
use Rattle.version_store.proofs.old_bytes.copy_old.Goals as goal

pub returns-then-i-count : goal.returns-then-i-count
returns-then-i-count c n more lt =
    c.copy_slot.ensures.place ∙ slot_there c.args.layer.now n c.args.i more
    (omega (arith, c.if-i-count.true, c.count.ensures.value, ap (λ (s : Shape). s.count) c.layout.ensures.value)) c.bytes_len.ensures.records

pub returns-else-i-count : goal.returns-else-i-count
returns-else-i-count c n more lt =
    c.fill.ensures.after (λ y e. e)
    ∙ ap (λ k. replicate k 0) c.requires.room
    ∙ slot_blank c.args.layer.now.plan n c.args.i c.args.layer.now.records c.layout.ensures.plan.form
    (omega (arith, c.if-i-count.false, c.count.ensures.value, ap (λ (s : Shape). s.count) c.layout.ensures.value)) lt
