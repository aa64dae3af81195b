use Rattle.std.proofs.Common.{◌∙◌, ◌*◌, [], ap, sym, ℕ, List, take, drop}
use Rattle.matrix_u32.proofs.Products.{at-list_of_any}
use Rattle.digit_pack.specs.Layout.{Shape}
use Rattle.version_store.specs.HeldRecords.{bytes_held_by}
use Rattle.version_store.proofs.held_records.HeldRecords.copy_record.Goals as goal

pub returns-in-Bytes : goal.returns-in-Bytes
returns-in-Bytes c =
    let l : Shape = c.args.layout.now in
    c.copy_from_slice.ensures.after
    ∙ c.nth_record.ensures.value
    ∙ at-list_of_any l.count (λ k. take l.record_len (drop (k * l.record_len) c.deref.result.now)) c.args.i [] c.requires.index
    ∙ ap (λ (b : List ℕ). take l.record_len (drop (c.args.i * l.record_len) b)) (c.deref.ensures.value ∙ sym (ap bytes_held_by c.in-Bytes.is))
