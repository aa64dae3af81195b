use Rattle.std.proofs.Common.{◌<◌, ℕ, List, slice_index, take, arith, ap, ◌∙◌, refl}
use Rattle.std.proofs.lemmas.List.{take_rest}
use Rattle.byteorder.specs.Endian.{little_number}
use Rattle.snapshot_file.proofs.Headers.{header_read}
use Rattle.snapshot_file.proofs.header.header_in.Goals as goal

pub returns-clause-bytes : goal.returns-clause-bytes
returns-clause-bytes c =
    let fields : List ℕ = c.args.fields.now in
    let bytes : (i : ℕ) → slice_index c.args.fields.now i < 256 = λ i. omega (arith, c.type_inv.fields i) in
    header_read _ c.args.fields.now bytes c.requires.len refl
    (c.read_u16.ensures ∙ ap (little_number 2) (take_rest c.args.fields.now 1))
    (c.read_u16-2.ensures ∙ ap (little_number 2) (take_rest c.args.fields.now 3))
    (c.read_u32.ensures ∙ ap (little_number 4) (take_rest c.args.fields.now 5))
    (c.read_u16-3.ensures ∙ ap (little_number 2) (take_rest c.args.fields.now 9))
    (c.read_u64.ensures ∙ ap (little_number 8) (take_rest c.args.fields.now 11))
    (c.first_32.ensures ∙ ap (take 32) (take_rest c.args.fields.now 19))
    (c.first_32-2.ensures ∙ ap (take 32) (take_rest c.args.fields.now 51))
