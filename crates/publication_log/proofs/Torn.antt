-- Entries that are later in bytes, and torn bytes.
use Rattle.std.proofs.Common.{◌≡◌, ◌⊎◌, inl, inr, ℕ, suc, ◌+◌, ◌-◌, ◌^◌, ◌<◌, ◌≤◌, Option, Some, None, List, [], ◌∷◌, ◌++◌, length, take, drop, refl, sym, ap, subst, ◌∙◌, append_assoc, append-nil, arith}
use Rattle.std.proofs.Math.ListN.{drop_of_length-le}
use Rattle.std.proofs.lemmas.Bool.{cases_lt}
use Rattle.std.proofs.lemmas.List.{length-append, length-drop, length-take-le, take-append-drop, take_at, drop_at, drop-append-le}
use Rattle.publication_log.specs.Entries.{body_len_in, entry_head, framed, next_link, log_entry, after_head, after_body, IsBody, HasNoEntry, HasEntry, IsFollowed, HasLater, IsTorn}
use Rattle.publication_log.proofs.Heads.{head_long, head_more, frame_head}
use Rattle.publication_log.proofs.Frames.{length-entry, length-next, length-framed, entry_parts, one_frame, one_entry}

-- a link and a whole entry take 72 bytes
pub entry_len : (bytes : List ℕ) → HasEntry bytes → 72 ≤ length bytes
entry_len bytes (before, link, body, more, count, is, e) =
    omega (arith, ap length e, length-append before (link ++ (log_entry link body ++ more)), length-append link (log_entry link body ++ more), length-append (log_entry link body) more, length-entry link body, count)

-- an entry stays there whatever follows
pub entry_more : (x y : List ℕ) → HasEntry x → HasEntry (x ++ y)
entry_more x y (before, link, body, more, count, is, e) = (
  before,
  link,
  body,
  more ++ y,
  count,
  is,
  ap (λ (z : List ℕ). z ++ y) e
      ∙ append_assoc before (link ++ (log_entry link body ++ more)) y
      ∙ ap (λ (z : List ℕ). before ++ z) (append_assoc link (log_entry link body ++ more) y ∙ ap (λ (z : List ℕ). link ++ z) (append_assoc (log_entry link body) more y)),
)

-- an entry after the first byte is one in all
pub entry_back : (bytes : List ℕ) → HasEntry (drop 1 bytes) → HasEntry bytes
entry_back [] h = h
entry_back (b ∷ bytes) (before, link, body, more, count, is, e) = (b ∷ before, link, body, more, count, is, ap (λ (z : List ℕ). b ∷ z) e)

-- an entry after the first link
pub entry_here : (bytes link after body more : List ℕ) → 32 ≤ length bytes → link ≡ take 32 bytes → after ≡ drop 32 bytes → IsBody body → after ≡ log_entry link body ++ more → HasEntry bytes
entry_here bytes link after body more long l a is e = (
  [],
  link,
  body,
  more,
  ap length l ∙ length-take-le 32 bytes long,
  is,
  sym (take-append-drop 32 bytes) ∙ ap (λ (z : List ℕ). z ++ drop 32 bytes) (sym l) ∙ ap (λ (z : List ℕ). link ++ z) (sym a ∙ e),
)

-- an entry that is not after the first link is after the first byte
pub entry_on : (bytes link after : List ℕ) → link ≡ take 32 bytes → after ≡ drop 32 bytes → HasNoEntry link after → HasEntry bytes → HasEntry (drop 1 bytes)
entry_on bytes link after l a none ([], first, body, more, count, is, e) =
    let same : link ≡ first = l ∙ ap (take 32) e ∙ take_at first (log_entry first body ++ more) 32 count in
    let rest : after ≡ log_entry first body ++ more = a ∙ ap (drop 32) e ∙ drop_at first (log_entry first body ++ more) 32 count in
    absurd (none body more is (rest ∙ ap (λ (z : List ℕ). log_entry z body ++ more) (sym same)))
entry_on bytes link after l a none (b ∷ before, first, body, more, count, is, e) = (before, first, body, more, count, is, ap (drop 1) e)

-- the bytes after a length that there is room for or not
pub after_less : (bytes : List ℕ) (n : ℕ) → length (drop n (drop 8 bytes)) ≡ length bytes - 8 - n
after_less bytes n = length-drop n (drop 8 bytes) ∙ ap (λ (x : ℕ). x - n) (length-drop 8 bytes)

-- what is after the first body goes on, if an entry is in it
after_more : (x y : List ℕ) (head : Option ℕ) → body_len_in x ≡ head → HasEntry (after_head head x) → HasEntry (after_head head (x ++ y))
after_more x y None h has = entry_more x y has
after_more x y (Some len) h has =
    let long : 8 ≤ length x = head_long x len h in
    let room : len ≤ length (drop 8 x) = omega (arith, long, entry_len (drop len (drop 8 x)) has, after_less x len, length-drop 8 x) in
    let e : drop len (drop 8 (x ++ y)) ≡ drop len (drop 8 x) ++ y = ap (drop len) (drop-append-le 8 x y long) ∙ drop-append-le len (drop 8 x) y room in
    subst HasEntry (sym e) (entry_more (drop len (drop 8 x)) y has)

after_short : (x : List ℕ) (head : Option ℕ) → HasEntry (after_head head x) → 72 ≤ length x
after_short x None has = entry_len x has
after_short x (Some len) has = omega (arith, entry_len (drop len (drop 8 x)) has, after_less x len)

-- a later entry is there whatever follows
later_more : (link x y : List ℕ) → HasLater link x → HasLater link (x ++ y)
later_more link x y (inl has) =
    let long : 72 ≤ length x = after_short x (body_len_in x) has in
    inl (subst (λ (head : Option ℕ). HasEntry (after_head head (x ++ y))) (sym (head_more x y (omega (arith, long)))) (after_more x y (body_len_in x) refl has))
later_more link x y (inr (body, digest, next, more, is, count, also, e)) = inr (
  body,
  digest,
  next,
  more ++ y,
  is,
  count,
  also,
  ap (λ (z : List ℕ). z ++ y) e
      ∙ append_assoc (framed body) (digest ++ (log_entry (next_link link body) next ++ more)) y
      ∙ ap (λ (z : List ℕ). framed body ++ z)
      (append_assoc digest (log_entry (next_link link body) next ++ more) y ∙ ap (λ (z : List ℕ). digest ++ z) (append_assoc (log_entry (next_link link body) next) more y)),
)

-- torn bytes stay torn when fewer of them are there
pub torn_less : (link x y : List ℕ) → IsTorn link (x ++ y) → IsTorn link x
torn_less link x y torn = record {
  first = λ body more is e. torn.first body (more ++ y) is (ap (λ (z : List ℕ). z ++ y) e ∙ append_assoc (log_entry link body) more y);
  later = λ later. torn.later (later_more link x y later);
}

pub torn_prefix : (link rest : List ℕ) (n : ℕ) → IsTorn link rest → IsTorn link (take n rest)
torn_prefix link rest n torn = torn_less link (take n rest) (drop n rest) (subst (IsTorn link) (sym (take-append-drop n rest)) torn)

pub none_empty : (link : List ℕ) → HasNoEntry link []
none_empty link body more is e = absurd (omega (arith, ap length e, length-append (log_entry link body) more, length-entry link body))

goes_len : (link rest : List ℕ) → IsFollowed link rest → 80 ≤ length rest
goes_len link rest (body, digest, next, more, is, count, also, e) =
    omega (
      arith,
      ap length e,
      length-append (framed body) (digest ++ (log_entry (next_link link body) next ++ more)),
      length-append digest (log_entry (next_link link body) next ++ more),
      length-append (log_entry (next_link link body) next) more,
      length-entry (next_link link body) next,
      length-framed body,
      count,
    )

pub torn_empty : (link : List ℕ) → IsTorn link []
torn_empty link = record {
  first = none_empty link;
  later = λ later. elim later [
    | inl has ↦ absurd (omega (arith, after_short [] (body_len_in []) has))
    | inr on ↦ absurd (omega (arith, goes_len link [] on))
  ];
}

-- what is after the body in a part of one entry
part_after : (link body x y : List ℕ) (head : Option ℕ) → IsBody body → log_entry link body ≡ x ++ y → length x < length body + 40 → body_len_in x ≡ head → HasEntry (after_head head x) → ⊥
part_after link body x y None is e lt h has =
    let long : 72 ≤ length x = entry_len x has in
    let some : body_len_in x ≡ Some (length body) =
    sym (head_more x y (omega (arith, long))) ∙ ap body_len_in (sym e) ∙ frame_head body (next_link link body) is in
    let none : None ≡ Some (length body) = sym h ∙ some in
    absurd (cc)
part_after link body x y (Some len) is e lt h has =
    let long : 8 ≤ length x = head_long x len h in
    let some : Some len ≡ Some (length body) = sym h ∙ sym (head_more x y long) ∙ ap body_len_in (sym e) ∙ frame_head body (next_link link body) is in
    let same : len ≡ length body = cc in
    absurd (omega (arith, same, lt, entry_len (drop len (drop 8 x)) has, after_less x len))

part_goes : (link body x y : List ℕ) → IsBody body → log_entry link body ≡ x ++ y → length x < length body + 40 → IsFollowed link x → ⊥
part_goes link body x y is e lt (other, digest, next, more, io, count, also, f) =
    let beyond : List ℕ = (log_entry (next_link link other) next ++ more) ++ y in
    let all : framed body ++ (next_link link body ++ []) ≡ framed other ++ (digest ++ beyond) =
    sym (entry_parts link body []) ∙ append-nil (log_entry link body) ∙ e ∙ ap (λ (z : List ℕ). z ++ y) f
    ∙ append_assoc (framed other) (digest ++ (log_entry (next_link link other) next ++ more)) y
    ∙ ap (λ (z : List ℕ). framed other ++ z) (append_assoc digest (log_entry (next_link link other) next ++ more) y) in
    let same = one_frame body other (next_link link body) digest [] beyond is io (length-next link body) count all in
    absurd (omega (arith, ap length same.2, length-append (log_entry (next_link link other) next ++ more) y, length-append (log_entry (next_link link other) next) more, length-entry (next_link link other) next))

-- a part of one entry is torn
pub torn_part : (link body x y : List ℕ) → IsBody body → log_entry link body ≡ x ++ y → length x < length (log_entry link body) → IsTorn link x
torn_part link body x y is e lt =
    let less : length x < length body + 40 = omega (arith, lt, length-entry link body) in record {
      first = λ other more io f.
          let whole : log_entry link other ++ (more ++ y) ≡ log_entry link body ++ [] =
          sym (append_assoc (log_entry link other) more y) ∙ ap (λ (z : List ℕ). z ++ y) (sym f) ∙ sym e ∙ sym (append-nil (log_entry link body)) in
          let same = one_entry link other body (more ++ y) [] io is whole in
          absurd (omega (arith, ap length f, length-append (log_entry link other) more, length-entry link other, ap length same.0, less));
      later = λ later. elim later [
        | inl has ↦ part_after link body x y (body_len_in x) is e less refl has
        | inr on ↦ part_goes link body x y is e less on
      ];
    }

pub torn_start : (link body : List ℕ) (n : ℕ) → IsBody body → n < length (log_entry link body) → IsTorn link (take n (log_entry link body))
torn_start link body n is lt =
    torn_part link body (take n (log_entry link body)) (drop n (log_entry link body)) is (sym (take-append-drop n (log_entry link body)))
    (omega (arith, lt, length-take-le n (log_entry link body) (omega (arith, lt))))
