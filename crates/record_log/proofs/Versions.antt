-- Old records of several publications.
use Rattle.std.proofs.Common.{◌≡◌, ℕ, zero, suc, ◌+◌, ◌-◌, ◌≤◌, ap, ◌∙◌, sym, subst, refl, inl, inr, arith, true, List, [], ◌∷◌, ◌++◌, length, drop}
use Rattle.std.proofs.lemmas.Bool.{and_parts, cases_Bool, cases_lt, cond-true, cond-false, leb-true}
use Rattle.std.proofs.lemmas.List.{get_or_append_left, get_or-append_right, length-append, length-drop}
use Rattle.std.specs.Prelude.{nat_le}
use Rattle.digit_pack.specs.Layout.{record_at}
use Rattle.record_log.specs.OldRecords.{OldRecord, undone}
use Rattle.record_log.specs.Logs.{AreNewestOf, AreOldOfAll, are_within, kept_within, newest, nth_version, total_bytes, undone_all}
use Rattle.record_log.specs.Laws.{KeptListsAreTheNewest, LogsLeadBack, OldBytesStayWithBlanks}
use Rattle.record_log.proofs.Undoing.{old_bytes_undo}

-- ---- versions
-- what the oldest changed can be left out
still : (versions : List (List (List ℕ))) (k : ℕ) (lists : List (List OldRecord)) → AreOldOfAll versions lists → AreOldOfAll versions (drop k lists)
still versions zero lists all = all
still versions (suc k) [] all = tt
still versions (suc k) (oldest ∷ newer) all = still versions k newer all.1

all_undone : (versions : List (List (List ℕ))) (lists : List (List OldRecord)) → AreOldOfAll versions lists →
    undone_all lists (nth_version versions 0) ≡ nth_version versions (length lists)
all_undone versions [] all = refl
all_undone versions (oldest ∷ newer) all =
    let long : length newer + 1 ≡ length (oldest ∷ newer) = omega arith in
    ap (undone oldest) (all_undone versions newer all.1)
    ∙ old_bytes_undo (nth_version versions (length newer + 1)) (nth_version versions (length newer)) oldest all.0
    ∙ ap (nth_version versions) long

length-newest : (n : ℕ) (lists : List (List OldRecord)) → n ≤ length lists → length (newest n lists) ≡ n
length-newest n lists h = omega (arith, h, length-drop (length lists - n) lists)

pub logs_lead_back : LogsLeadBack
logs_lead_back versions lists all n h =
    all_undone versions (newest n lists) (still versions (length lists - n) lists all)
    ∙ ap (nth_version versions) (length-newest n lists h)

-- ---- what is kept
newest_more : (n : ℕ) (oldest : List OldRecord) (newer : List (List OldRecord)) → n ≤ length newer → newest n newer ≡ newest n (oldest ∷ newer)
newest_more n oldest newer h =
    let place : suc (length newer - n) ≡ length (oldest ∷ newer) - n = omega (arith, h) in
    ap (λ k. drop k (oldest ∷ newer)) place

newest_all : (lists : List (List OldRecord)) → lists ≡ newest (length lists) lists
newest_all lists =
    let none : 0 ≡ length lists - length lists = omega arith in
    ap (λ k. drop k lists) none

-- publications that are few are their own newest
few_are : (len most : ℕ) (lists : List (List OldRecord)) → are_within len most lists ≡ true → AreNewestOf lists lists
few_are len most lists within = record {
  few = leb-true (length lists) 16 (and_parts (nat_le (length lists) 16) (nat_le (total_bytes len lists) most) within).0;
  inside = omega arith;
  same = newest_all lists;
  each = λ n h. refl;
}

-- the newest of all but the oldest are the newest of all
one_older : (oldest : List OldRecord) (newer kept : List (List OldRecord)) → AreNewestOf newer kept → AreNewestOf (oldest ∷ newer) kept
one_older oldest newer kept are = record {
  few = are.few;
  inside = omega (arith, are.inside);
  same = are.same ∙ newest_more (length kept) oldest newer are.inside;
  each = λ n h. are.each n h ∙ newest_more n oldest newer (omega (arith, h, are.inside));
}

pub kept_are_the_newest : KeptListsAreTheNewest
kept_are_the_newest len most [] = record { few = omega arith; inside = omega arith; same = refl; each = λ n h. refl }
kept_are_the_newest len most (oldest ∷ newer) = elim (cases_Bool (are_within len most (oldest ∷ newer))) [
  | inl within ↦
      subst (AreNewestOf (oldest ∷ newer)) (sym (cond-true (are_within len most (oldest ∷ newer)) (oldest ∷ newer) (kept_within len most newer) within))
      (few_are len most (oldest ∷ newer) within)
  | inr over ↦
      subst (AreNewestOf (oldest ∷ newer)) (sym (cond-false (are_within len most (oldest ∷ newer)) (oldest ∷ newer) (kept_within len most newer) over))
      (one_older oldest newer (kept_within len most newer) (kept_are_the_newest len most newer))
]

-- ---- records that come after
-- records that are the same, with the same ones after them
same_with_more : (before after more : List (List ℕ)) (i : ℕ) → length before ≡ length after → record_at after i ≡ record_at before i →
    record_at (after ++ more) i ≡ record_at (before ++ more) i
same_with_more before after more i long same = elim (cases_lt i (length after)) [
  | inl inside ↦
      get_or_append_left after more [] i inside ∙ same ∙ sym (get_or_append_left before more [] i (omega (arith, inside, long)))
  | inr past ↦
      get_or-append_right after more (length after) i [] refl past
      ∙ sym (get_or-append_right before more (length after) i [] long past)
]

pub old_bytes_stay : OldBytesStayWithBlanks
old_bytes_stay before after more olds all = record {
  count = omega (arith, all.count, length-append before more, length-append after more);
  each = λ k d h.
      let there = all.each k d h in
      (omega (arith, there.0, length-append after more), get_or_append_left before more [] _ (omega (arith, there.0, all.count)) ∙ there.1);
  others = λ i apart. same_with_more before after more i all.count (all.others i apart);
}
