use Rattle.std.proofs.Common.{◌≡◌, ◌<◌, ◌+◌, ◌∙◌, ◌++◌, length, append_assoc}
use Rattle.std.proofs.KnownBytes.{Consumes-trans}
use Rattle.hint_file.proofs.HeadBytes.{same_fault}
use Rattle.hint_file.proofs.WholeRead.{HasNoHead, as_fields, some_more, left_of_all, whatever_is_left, too_short, no_fields, too_large, cut_short, other_head, head_consumed}
use Rattle.hint_file.proofs.reading.read_head.Goals as goal

pub returns-in-Err-clause-damaged : goal.returns-in-Err-clause-damaged
returns-in-Err-clause-damaged g c = λ h.
    some_more _ (λ bytes. length bytes < 78) (HasNoHead c.args.front.now) (c.in-Err.ensures.damaged (same_fault c.in-Err.fault _ h))
    (λ bytes short. too_short c.args.front.now bytes short)

pub returns-in_default-clause-damaged : goal.returns-in_default-clause-damaged
returns-in_default-clause-damaged g c = λ h.
    whatever_is_left _ _ c.in-Ok.named.items (HasNoHead c.args.front.now) c.in-Ok.ensures.read
    (λ ys. no_fields c.args.front.now c.in-Ok.named.items ys c.in-Ok.ensures.count
    (λ f seed e. c.in_default.ensures.none f seed (c.deref.ensures.value ∙ e)))

pub returns-in_default-digests_len-clause-damaged : goal.returns-in_default-digests_len-clause-damaged
returns-in_default-digests_len-clause-damaged g c = λ h.
    let is = as_fields c.in-Ok.named.items c.deref.result.now c.in-Some.fields c.deref.ensures.value c.in-Some.ensures.seed c.in-Some.ensures.sizes
    c.in-Some.ensures.read in
    whatever_is_left _ _ c.in-Ok.named.items (HasNoHead c.args.front.now) c.in-Ok.ensures.read
    (λ ys. too_large c.args.front.now c.in-Ok.named.items ys c.in-Some.fields is c.in_default-digests_len.ensures)

pub returns-in-Err-read_bytes-clause-damaged : goal.returns-in-Err-read_bytes-clause-damaged
returns-in-Err-read_bytes-clause-damaged g c = λ h.
    let is = as_fields c.in-Ok.named.items c.deref.result.now c.in-Some.fields c.deref.ensures.value c.in-Some.ensures.seed c.in-Some.ensures.sizes
    c.in-Some.ensures.read in
    left_of_all _ _ c.in-Ok.named.items (HasNoHead c.args.front.now) (λ ys. length ys < c.in-Some-digests_len.len + 32) c.in-Ok.ensures.read
    (c.in-Err-read_bytes.ensures.damaged (same_fault c.in-Err-read_bytes.fault _ h))
    (λ ys short. cut_short c.args.front.now c.in-Ok.named.items ys c.in-Some.fields c.in-Some-digests_len.len is c.in-Some-digests_len.ensures.0 short)

pub returns-clause-read : goal.returns-clause-read
returns-clause-read g c =
    let is = as_fields c.in-Ok.named.items c.deref.result.now c.in-Some.fields c.deref.ensures.value c.in-Some.ensures.seed c.in-Some.ensures.sizes
    c.in-Some.ensures.read in
    let made : c.deref-4.result.now ≡ (c.args.front.now ++ c.in-Ok.named.items) ++ c.in-Ok-read_bytes.others.items = cc (
      c.deref-4.ensures.value,
      c.in_ok-extend_from_slice-2.ensures.items,
      c.deref-3.ensures.value,
      c.in_ok-extend_from_slice.ensures.items,
      c.deref-2.ensures.value,
      c.in_ok-bytes.ensures.items_if_clones_equal (λ x y e. e),
    ) in
    let all : c.deref-4.result.now ≡ c.args.front.now ++ (c.in-Ok.named.items ++ c.in-Ok-read_bytes.others.items) =
    made ∙ append_assoc c.args.front.now c.in-Ok.named.items c.in-Ok-read_bytes.others.items in
    head_consumed c.head_after.result c.args.front.now c.in-Ok.named.items c.in-Ok-read_bytes.others.items c.deref-4.result.now c.in-Some.fields
    c.in-Some-digests_len.len _ _ is c.in-Some-digests_len.ensures.0 all c.in-Ok-read_bytes.ensures.count
    (Consumes-trans _ _ _ _ _ c.in-Ok.ensures.read c.in-Ok-read_bytes.ensures.read) c.head_after.ensures.read c.head_after.ensures.keepable

pub returns-clause-damaged : goal.returns-clause-damaged
returns-clause-damaged g c = λ h.
    let is = as_fields c.in-Ok.named.items c.deref.result.now c.in-Some.fields c.deref.ensures.value c.in-Some.ensures.seed c.in-Some.ensures.sizes
    c.in-Some.ensures.read in
    let made : c.deref-4.result.now ≡ (c.args.front.now ++ c.in-Ok.named.items) ++ c.in-Ok-read_bytes.others.items = cc (
      c.deref-4.ensures.value,
      c.in_ok-extend_from_slice-2.ensures.items,
      c.deref-3.ensures.value,
      c.in_ok-extend_from_slice.ensures.items,
      c.deref-2.ensures.value,
      c.in_ok-bytes.ensures.items_if_clones_equal (λ x y e. e),
    ) in
    let all : c.deref-4.result.now ≡ c.args.front.now ++ (c.in-Ok.named.items ++ c.in-Ok-read_bytes.others.items) =
    made ∙ append_assoc c.args.front.now c.in-Ok.named.items c.in-Ok-read_bytes.others.items in
    whatever_is_left _ _ (c.in-Ok.named.items ++ c.in-Ok-read_bytes.others.items) (HasNoHead c.args.front.now)
    (Consumes-trans _ _ _ _ _ c.in-Ok.ensures.read c.in-Ok-read_bytes.ensures.read)
    (λ ys. other_head c.args.front.now c.in-Ok.named.items c.in-Ok-read_bytes.others.items c.deref-4.result.now ys c.in-Some.fields c.in-Some-digests_len.len is
    c.in-Some-digests_len.ensures.0 all c.in-Ok-read_bytes.ensures.count (c.head_after.ensures.damaged h))
