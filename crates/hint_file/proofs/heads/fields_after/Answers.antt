use Rattle.std.proofs.Common.{◌≡◌, ◌++◌, ◌∙◌, length, take, ap, arith}
use Rattle.std.proofs.lemmas.List.{length-append, take_at}
use Rattle.hint_file.specs.Files.{field_bytes}
use Rattle.hint_file.proofs.FieldsBack.{length-fields}
use Rattle.hint_file.proofs.HeadBytes.{after_front}
use Rattle.hint_file.proofs.heads.fields_after.Goals as goal

pub returns-then-rest-lt-FIELDS_LEN-clause-none : goal.returns-then-rest-lt-FIELDS_LEN-clause-none
returns-then-rest-lt-FIELDS_LEN-clause-none c = λ f rest seed e.
    let tail : c.in-Some.rest.now ≡ field_bytes f ++ rest =
    after_front c.args.front.now c.args.bytes.now c.in-Some.rest.now (field_bytes f ++ rest) c.in-Some.ensures.cases e in
    absurd (omega (arith, c.if-rest-lt-FIELDS_LEN.true, ap length tail, length-append (field_bytes f) rest, length-fields f seed))

pub returns-in_default-fields_in-clause-none : goal.returns-in_default-fields_in-clause-none
returns-in_default-fields_in-clause-none c = λ f rest seed e.
    let tail : c.in-Some.rest.now ≡ field_bytes f ++ rest =
    after_front c.args.front.now c.args.bytes.now c.in-Some.rest.now (field_bytes f ++ rest) c.in-Some.ensures.cases e in
    c.in_default-fields_in.ensures.none f seed
    (c.split_at.ensures.front ∙ ap (take 78) tail ∙ take_at (field_bytes f) rest 78 (length-fields f seed))
