use Rattle.std.proofs.Common.{◌≡◌, ◌<◌, ◌*◌, ◌∙◌, ◌++◌, ℕ, List, length, refl, sym, ap, arith, rules}
use Rattle.std.proofs.KnownBytes.{Consumes-trans, Consumes-whole}
use Rattle.std.proofs.lemmas.Bool.Decides.{Decides-eqb, not_from_Decides}
use Rattle.std.proofs.lemmas.Slice.Eq.{slice_eq-Decides}
use Rattle.frame_codec.specs.Numbers.{word_bytes}
use Rattle.hint_file.specs.Files.{head_after, part_digests}
use Rattle.hint_file.proofs.HeadBytes.{file_read, same_fault}
use Rattle.hint_file.proofs.WholeRead.{HasNoHead, IsNoFile, some_more, left_of_all, no_file, gone_on, other_count, more_after, other_digests}
use Rattle.hint_file.proofs.reading.read_after.Goals as goal

pub returns-in-Err-clause-damaged : goal.returns-in-Err-clause-damaged
returns-in-Err-clause-damaged g c = λ h.
    some_more _ (HasNoHead c.args.front.now) (IsNoFile c.args.front.now) (c.in-Err.ensures.damaged (same_fault c.in-Err.fault _ h))
    (no_file c.args.front.now)

pub returns-in-Err-read_words-clause-damaged : goal.returns-in-Err-read_words-clause-damaged
returns-in-Err-read_words-clause-damaged g c = λ h.
    let (rest, is, taken) = c.in-Ok.ensures.read in
    left_of_all _ _ rest (IsNoFile c.args.front.now) (λ ys. length ys < 4 * (c.in-Ok.head.fields.rows * c.in-Ok.head.fields.cols)) taken
    (c.in-Err-read_words.ensures.damaged (same_fault c.in-Err-read_words.fault _ h))
    (λ ys short. other_count c.args.front.now rest c.in-Ok.head.digests.items ys c.in-Ok.head.fields is c.in-Ok.ensures.keepable.0 c.in-Ok.ensures.keepable.1
    (λ e. absurd (omega (arith, short, e))))

pub returns-in-Err-read_end-clause-damaged : goal.returns-in-Err-read_end-clause-damaged
returns-in-Err-read_end-clause-damaged g c = λ h.
    let (rest, is, taken) = c.in-Ok.ensures.read in
    left_of_all _ _ (rest ++ word_bytes c.in-Ok-read_words.words.items) (IsNoFile c.args.front.now) (λ ys. 0 < length ys)
    (Consumes-trans _ _ _ _ _ taken c.in-Ok-read_words.ensures.read) (c.in-Err-read_end.ensures.damaged (same_fault c.in-Err-read_end.fault _ h))
    (λ ys some. more_after c.args.front.now rest c.in-Ok.head.digests.items c.in-Ok-read_words.words.items ys c.in-Ok.head.fields is c.in-Ok.ensures.keepable.0
    c.in-Ok.ensures.keepable.1 c.in-Ok-read_words.ensures.count some)

pub returns-then-ne-clause-damaged : goal.returns-then-ne-clause-damaged
returns-then-ne-clause-damaged g c = λ h.
    let (rest, is, taken) = c.in-Ok.ensures.read in
    let digests : c.in_ok-digests.digests.items ≡ part_digests (word_bytes c.in-Ok-read_words.words.items) =
    c.in_ok-digests.ensures ∙ ap (λ (x : List ℕ). part_digests (word_bytes x)) c.deref.ensures.value in
    Consumes-whole _ _ (rest ++ word_bytes c.in-Ok-read_words.words.items) (IsNoFile c.args.front.now)
    (Consumes-trans _ _ _ _ _ taken c.in-Ok-read_words.ensures.read) c.in-Ok-read_end.ensures.read
    (other_digests c.args.front.now rest c.in-Ok.head.digests.items (word_bytes c.in-Ok-read_words.words.items) c.in-Ok.head.fields is
    c.in-Ok.ensures.keepable.0 c.in-Ok.ensures.keepable.1 (λ e.
    let lists : c.as_slice.result.now ≡ c.as_slice-2.result.now = c.as_slice.ensures.value ∙ digests ∙ sym e ∙ sym c.as_slice-2.ensures.value in
    absurd (not_from_Decides _ (slice_eq-Decides Decides-eqb c.as_slice.result.now c.as_slice-2.result.now _ refl) (grind (arith, c.if-ne.ensures)) lists)))

pub returns-clause-read : goal.returns-clause-read
returns-clause-read g c =
    let (rest, is, taken) = c.in-Ok.ensures.read in
    let digests : c.in_ok-digests.digests.items ≡ part_digests (word_bytes c.in-Ok-read_words.words.items) =
    c.in_ok-digests.ensures ∙ ap (λ (x : List ℕ). part_digests (word_bytes x)) c.deref.ensures.value in
    let same : c.in_ok-digests.digests.items ≡ c.in-Ok.head.digests.items = search rules in
    Consumes-whole _ _ (rest ++ word_bytes c.in-Ok-read_words.words.items) _
    (Consumes-trans _ _ _ _ _ taken c.in-Ok-read_words.ensures.read) c.in-Ok-read_end.ensures.read
    (file_read c.args.front.now _ c.in-Ok.head.digests.items (word_bytes c.in-Ok-read_words.words.items) c.in-Ok-read_words.words.items c.in-Ok.head.fields _
    (gone_on c.args.front.now rest (head_after c.args.front.now c.in-Ok.head.fields c.in-Ok.head.digests.items) (word_bytes c.in-Ok-read_words.words.items) is)
    (sym same ∙ digests) refl (search rules))
