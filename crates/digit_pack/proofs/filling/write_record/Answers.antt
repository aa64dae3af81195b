use Rattle.std.proofs.Common.{ap, ◌∙◌, sym, arith, ◌≡◌, List, ℕ, length, ◌*◌, ◌+◌, ◌-◌}
use Rattle.std.specs.Prelude.{slice_set}
use Rattle.digit_pack.specs.Layout.{records_in}
use Rattle.digit_pack.proofs.RecordLemmas.{written_record}
use Rattle.digit_pack.proofs.filling.write_record.Goals as goal

pub returns : goal.returns
returns c =
    let len : ℕ = c.record_len-len.result in
    let n : ℕ = c.args.i * len + len - c.args.i * len in
    let cut : n ≡ len = omega arith in
    let ys : List ℕ = c.copy_from_slice.new.self in
    let is : ys ≡ c.args.written.now = c.copy_from_slice.ensures.after in
    written_record c.args.layout.now c.args.bytes.now ys c.args.i len n c.record_len-len.ensures.value cut c.requires.count c.requires.index
    (ap length is ∙ c.requires.len ∙ sym c.record_len-len.ensures.value)
    ∙ ap (λ (b : List ℕ). slice_set (records_in c.args.layout.now c.args.bytes.now) c.args.i b) is
