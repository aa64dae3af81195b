use Rattle.std.proofs.Common.{◌<◌, ℕ, slice_index, take, sym, ap, ◌∙◌, refl, arith}
use Rattle.std.proofs.lemmas.List.{take_rest}
use Rattle.byteorder.specs.Endian.{little_number}
use Rattle.hint_file.proofs.Fields.{fields_read, scheme_named}
use Rattle.hint_file.proofs.FieldsBack.{no_scheme}
use Rattle.hint_file.proofs.heads.fields_in.Goals as goal

pub returns-clause-read : goal.returns-clause-read
returns-clause-read c =
    let bytes : (i : ℕ) → slice_index c.args.bytes.now i < 256 = λ i. omega (arith, c.type_inv.bytes i) in
    fields_read _ c.args.bytes.now bytes c.requires
    c.read_u16.ensures
    refl
    (c.read_u16-2.ensures ∙ ap (little_number 2) (take_rest c.args.bytes.now 3))
    (c.read_u16-3.ensures ∙ ap (little_number 2) (take_rest c.args.bytes.now 5))
    (c.read_u16-4.ensures ∙ ap (little_number 2) (take_rest c.args.bytes.now 7))
    (c.first_32.ensures ∙ ap (take 32) (take_rest c.args.bytes.now 9))
    (c.read_u32.ensures ∙ ap (little_number 4) (take_rest c.args.bytes.now 41))
    (c.read_u64.ensures ∙ ap (little_number 8) (take_rest c.args.bytes.now 45))
    (scheme_named c.in-Some.scheme _ (sym c.of_byte.ensures ∙ c.in-Some.is))
    (c.read_u64-2.ensures ∙ ap (little_number 8) (take_rest c.args.bytes.now 54))
    (c.read_u64-3.ensures ∙ ap (little_number 8) (take_rest c.args.bytes.now 62))
    (c.read_u64-4.ensures ∙ ap (little_number 8) (take_rest c.args.bytes.now 70))

pub returns-in_default-clause-none : goal.returns-in_default-clause-none
returns-in_default-clause-none c = λ f len e. no_scheme f c.args.bytes.now len e (sym c.of_byte.ensures ∙ c.in_default.is)
