use Rattle.std.proofs.Common.{◌≡◌, ◌++◌, ◌∙◌, ◌+◌, ◌*◌, ◌≤◌, ℕ, length, take, drop, refl, sym, ap, arith, rules}
use Rattle.std.proofs.lemmas.List.{length-append, length-drop, take_at, take-append-drop}
use Rattle.hint_file.specs.Files.{field_bytes, head_after, part_count}
use Rattle.hint_file.proofs.Bytes.{length-sealed}
use Rattle.hint_file.proofs.HeadBytes.{inside, as_many, fields_of_head, head_read, length-head}
use Rattle.hint_file.proofs.heads.head_after.Goals as goal

pub returns-in_default-digests_len-clause-damaged : goal.returns-in_default-digests_len-clause-damaged
returns-in_default-digests_len-clause-damaged c = λ h f digests rest k d e.
    let same : field_bytes c.in-Some.fields ≡ field_bytes f =
    fields_of_head c.args.front.now c.args.bytes.now _ digests rest c.in-Some.fields f c.in-Some.ensures.seed k c.in-Some.ensures.read.1 e in
    absurd (omega (arith, c.in_default-digests_len.ensures, k.small, as_many c.in-Some.fields f c.in-Some.ensures.sizes.0 c.in-Some.ensures.sizes.1 k same))

pub returns-then-bytes-end-clause-damaged : goal.returns-then-bytes-end-clause-damaged
returns-then-bytes-end-clause-damaged c = λ h f digests rest k d e.
    let same : field_bytes c.in-Some.fields ≡ field_bytes f =
    fields_of_head c.args.front.now c.args.bytes.now _ digests rest c.in-Some.fields f c.in-Some.ensures.seed k c.in-Some.ensures.read.1 e in
    let len : c.in-Some-digests_len.len ≡ length digests = c.in-Some-digests_len.ensures.0
    ∙ ap (λ (n : ℕ). 32 * part_count (4 * n)) (as_many c.in-Some.fields f c.in-Some.ensures.sizes.0 c.in-Some.ensures.sizes.1 k same) ∙ sym d in
    absurd (omega (
      arith,
      c.if-bytes-end.true,
      ap length e,
      length-append (head_after c.args.front.now f digests) rest,
      length-head c.args.front.now digests f k.seed,
      len,
    ))

pub returns-in_default-unsealed-clause-damaged : goal.returns-in_default-unsealed-clause-damaged
returns-in_default-unsealed-clause-damaged c = λ h f digests rest k d e.
    let same : field_bytes c.in-Some.fields ≡ field_bytes f =
    fields_of_head c.args.front.now c.args.bytes.now _ digests rest c.in-Some.fields f c.in-Some.ensures.seed k c.in-Some.ensures.read.1 e in
    let len : c.in-Some-digests_len.len ≡ length digests = c.in-Some-digests_len.ensures.0
    ∙ ap (λ (n : ℕ). 32 * part_count (4 * n)) (as_many c.in-Some.fields f c.in-Some.ensures.sizes.0 c.in-Some.ensures.sizes.1 k same) ∙ sym d in
    let place : length (head_after c.args.front.now f digests) ≡ length c.args.front.now + 78 + c.in-Some-digests_len.len + 32 =
    omega (arith, length-head c.args.front.now digests f k.seed, len) in
    c.in_default-unsealed.ensures (inside c.args.front.now f digests)
    (c.split_at.ensures.front ∙ ap (take (length c.args.front.now + 78 + c.in-Some-digests_len.len + 32)) e
    ∙ take_at (head_after c.args.front.now f digests) rest _ place)

pub split_at-requires-2 : goal.split_at-requires-2
split_at-requires-2 c =
    omega (arith, ap length c.in-Some-unsealed.ensures, length-sealed c.in-Some-unsealed.body.now, c.split_at.ensures.front_len)

pub returns-clause-read : goal.returns-clause-read
returns-clause-read c =
    let whole : c.split_at.result.0.now ++ c.split_at.result.1.now ≡ c.args.bytes.now =
    rw (c.split_at.ensures.front, c.split_at.ensures.back) (take-append-drop _ c.args.bytes.now) in
    let long : length c.args.front.now + 78 ≤ length c.in-Some-unsealed.body.now =
    omega (arith, ap length c.in-Some-unsealed.ensures, length-sealed c.in-Some-unsealed.body.now, c.split_at.ensures.front_len) in
    let digests : c.in_ok-digests.digests.items ≡ drop (length c.args.front.now + 78) c.in-Some-unsealed.body.now = search rules in (
      c.split_at.result.1.now,
      head_read c.args.front.now c.args.bytes.now c.split_at.result.0.now c.split_at.result.1.now c.in-Some-unsealed.body.now c.in_ok-digests.digests.items _
          c.in-Some.fields _ c.in-Some.ensures.seed whole c.in-Some-unsealed.ensures refl long c.in-Some.ensures.read.1 digests,
    )

pub returns-clause-keepable : goal.returns-clause-keepable
returns-clause-keepable c =
    let digests : c.in_ok-digests.digests.items ≡ drop (length c.args.front.now + 78) c.in-Some-unsealed.body.now = search rules in
    let count : length c.in_ok-digests.digests.items ≡ 32 * part_count (4 * (c.in-Some.fields.rows * c.in-Some.fields.cols)) = omega (
      arith,
      ap length digests,
      length-drop (length c.args.front.now + 78) c.in-Some-unsealed.body.now,
      ap length c.in-Some-unsealed.ensures,
      length-sealed c.in-Some-unsealed.body.now,
      c.split_at.ensures.front_len,
      c.in-Some-digests_len.ensures.0,
    ) in (
      record {
        seed = c.in-Some.ensures.seed;
        rows = c.in-Some.ensures.sizes.0;
        cols = c.in-Some.ensures.sizes.1;
        small = c.in-Some-digests_len.ensures.1;
      },
      count,
    )
