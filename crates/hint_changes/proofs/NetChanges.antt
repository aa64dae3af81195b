-- Changes that lead from some records to others, in any order.
use Rattle.std.proofs.Common.{◌≡◌, ◌≢◌, ℕ, ◌<◌, ◌/◌, ◌%◌, ◌+◌, ◌*◌, ap, ◌∙◌, sym, inl, inr, All, List, [], ◌∷◌, length, arith, get_or-set_same, get_or-set_other}
use Rattle.std.proofs.lemmas.Bool.{cases_eq}
use Rattle.std.proofs.lemmas.List.{length-set}
use Rattle.std.proofs.lemmas.List.Elements.{All-head, All-tail, All-cons}
use Rattle.std.specs.Prelude.{slice_set}
use Rattle.matrix_u32.specs.Matrix.{entry, product}
use Rattle.matrix_u32.proofs.Changes.{same-matrix_of}
use Rattle.matrix_u32.proofs.Products.{entry-matrix_of}
use Rattle.lane_kernels.specs.Digit.{digit}
use Rattle.digit_pack.specs.Digits.{number_of}
use Rattle.digit_pack.specs.Layout.{Shape, digit_at, digit_rows, digit_cols, digits_per_record, record_at}
use Rattle.hint_changes.specs.Changes.{ChangedRecord, AreChangesOf, IsChangeBetween, LeadTo, moved, word_after, records_after}
use Rattle.hint_changes.specs.Laws.{ChangesMoveTheHint, ChangesAreMadeOneByOne}
use Rattle.hint_changes.proofs.SeveralChanges.{hint_moves}

-- each change holds between the records after the first one, too
still : (l : Shape) (c : ChangedRecord) (more : List ChangedRecord) (before after : List (List ℕ)) → c.index < length before →
    All (λ d. c.index ≢ d.index) more → All (IsChangeBetween l before after) more → All (IsChangeBetween l (slice_set before c.index c.new) after) more
still l c [] before after there apart each = λ k d h. absurd (omega arith)
still l c (e ∷ more) before after there apart each =
    let is : IsChangeBetween l before after e = All-head (IsChangeBetween l before after) e more each in
    let ne : c.index ≢ e.index = All-head (λ d. c.index ≢ d.index) e more apart in
    All-cons (IsChangeBetween l (slice_set before c.index c.new) after) e more (record {
      inside = is.inside;
      there = omega (arith, is.there, length-set before c.index c.new);
      old = get_or-set_other before c.index e.index c.new [] (λ same. ne (sym same)) ∙ is.old;
      new = is.new;
    }) (still l c more before after there (All-tail (λ d. c.index ≢ d.index) e more apart) (All-tail (IsChangeBetween l before after) e more each))

after_first : (l : Shape) (c : ChangedRecord) (more : List ChangedRecord) (before after : List (List ℕ)) → LeadTo l (c ∷ more) before after →
    LeadTo l more (slice_set before c.index c.new) after
after_first l c more before after lead =
    let first : IsChangeBetween l before after c = All-head (IsChangeBetween l before after) c more lead.each in
    record {
      each = still l c more before after first.there lead.once.0
          (All-tail (IsChangeBetween l before after) c more lead.each);
      once = lead.once.1;
      others = λ i apart. elim (cases_eq i c.index) [
        | inl same ↦
            ap (record_at after) same ∙ first.new ∙ sym (get_or-set_same before c.index c.new [] first.there)
            ∙ ap (record_at (slice_set before c.index c.new)) (sym same)
        | inr other ↦
            lead.others i (All-cons (λ (d : ChangedRecord). d.index ≢ i) c more (λ e. other (sym e)) apart)
            ∙ sym (get_or-set_other before c.index i c.new [] other)
      ];
    }

one_by_one : (l : Shape) (changes : List ChangedRecord) (before after : List (List ℕ)) → LeadTo l changes before after → AreChangesOf l changes before
one_by_one l [] before after lead = tt
one_by_one l (c ∷ more) before after lead =
    let first : IsChangeBetween l before after c = All-head (IsChangeBetween l before after) c more lead.each in
    (first.inside, first.there, first.old, one_by_one l more (slice_set before c.index c.new) after (after_first l c more before after lead))

ends_there : (l : Shape) (changes : List ChangedRecord) (before after : List (List ℕ)) → LeadTo l changes before after → (i : ℕ) →
    record_at (records_after changes before) i ≡ record_at after i
ends_there l [] before after lead i = sym (lead.others i (λ k d h. absurd (omega arith)))
ends_there l (c ∷ more) before after lead i = ends_there l more (slice_set before c.index c.new) after (after_first l c more before after lead) i

pub changes_lead : ChangesMoveTheHint
changes_lead l changes before after a1 s inner lead =
    hint_moves l changes before a1 s inner (one_by_one l changes before after lead)
    ∙ ap (λ d. product d a1) (same-matrix_of (digit_rows l) (digit_cols l) (digit_at l (records_after changes before)) (digit_at l after) (λ r j _ _.
    ap (λ b. digit l.width (number_of 8 b) (r % digits_per_record l)) (ends_there l changes before after lead (j * l.groups + r / digits_per_record l))))

pub made_one_by_one : ChangesAreMadeOneByOne
made_one_by_one l a1 hint c more =
    same-matrix_of hint.rows hint.cols (λ r k. word_after l a1 r k (c ∷ more) (entry hint r k))
    (λ r k. word_after l a1 r k more (entry (moved l a1 (c ∷ []) hint) r k)) (λ r k p q.
    ap (word_after l a1 r k more) (sym (entry-matrix_of hint.rows hint.cols (λ r k. word_after l a1 r k (c ∷ []) (entry hint r k)) r k p q)))
