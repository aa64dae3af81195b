-- The walk over the records that some publications changed.
use Rattle.std.proofs.Common.{◌≡◌, ℕ, ◌+◌, ◌-◌, ◌<◌, ◌≤◌, ap, ◌∙◌, sym, arith, cond, false, List, [], ◌++◌, length, take, drop}
use Rattle.std.proofs.lemmas.Bool.{cond-false}
use Rattle.std.proofs.lemmas.List.{drop-map, length-map, take_rest}
use Rattle.std.specs.List.{range_with_len}
use Rattle.digit_pack.specs.Layout.{record_at}
use Rattle.matrix_u32.proofs.Products.{at-list_of_any, length-list_of}
use Rattle.hint_changes.specs.Changes.{ChangedRecord, changes_at, changes_between}
use Rattle.record_log.specs.OldRecords.{OldBytes, OldRecord, entries_bytes}
use Rattle.record_log.specs.Logs.{is_listed, newest, nth_bytes, oldest_bytes, records_of_bytes, undone_all}
use Rattle.record_log.specs.Steps.{change_or_none, next_entry, olds_of}
use Rattle.record_log.proofs.Undoing.{record_undone_all}
use Rattle.record_log.proofs.Between.{entries-append, none_up_to, not_longer, one_more}

-- the changes of the records before one
abbrev pub changes_below : List (List OldRecord) → ℕ → ℕ → List ℕ → ℕ → List ChangedRecord
changes_below lists len count bytes n =
    changes_at (undone_all lists (records_of_bytes len count bytes)) (records_of_bytes len count bytes) (range_with_len 0 n)

-- the changes of all records
abbrev pub all_changes : List (List OldRecord) → ℕ → ℕ → List ℕ → List ChangedRecord
all_changes lists len count bytes = changes_between (undone_all lists (records_of_bytes len count bytes)) (records_of_bytes len count bytes)

module _ (lists : List (List OldRecord)) (len count : ℕ) (bytes : List ℕ) where
  many : length (records_of_bytes len count bytes) ≡ count
  many = length-list_of count (nth_bytes len bytes)

  new_is : (n : ℕ) → n < count → record_at (records_of_bytes len count bytes) n ≡ nth_bytes len bytes n
  new_is n h = at-list_of_any count (nth_bytes len bytes) n [] h

  old_is : (n : ℕ) → n < count →
      record_at (undone_all lists (records_of_bytes len count bytes)) n
      ≡ cond (is_listed lists n) (oldest_bytes lists n) (nth_bytes len bytes n)
  old_is n h =
      record_undone_all lists (records_of_bytes len count bytes) n (omega (arith, h, many))
      ∙ ap (cond (is_listed lists n) (oldest_bytes lists n)) (new_is n h)

  same : (n : ℕ) → n < count → is_listed lists n ≡ false →
      record_at (undone_all lists (records_of_bytes len count bytes)) n ≡ record_at (records_of_bytes len count bytes) n
  same n h none =
      old_is n h ∙ cond-false (is_listed lists n) (oldest_bytes lists n) (nth_bytes len bytes n) none ∙ sym (new_is n h)

  -- the next record that is listed, and none before it
  step_to : (least n : ℕ) → least ≤ n → n < count → ((i : ℕ) → least ≤ i → i < n → is_listed lists i ≡ false) →
      entries_bytes (changes_below lists len count bytes (n + 1))
      ≡ entries_bytes (changes_below lists len count bytes least) ++ next_entry lists len bytes n
  step_to least n from h none =
      let after : List (List ℕ) = records_of_bytes len count bytes in
      let before : List (List ℕ) = undone_all lists after in
      let done : List ChangedRecord = changes_below lists len count bytes least in
      ap entries_bytes (one_more before after n)
      ∙ ap (λ (cs : List ChangedRecord). entries_bytes (cs ++ change_or_none n (record_at before n) (record_at after n)))
      (none_up_to before after least n from (λ i p q. same i (omega (arith, q, h)) (none i p q)))
      ∙ entries-append done (change_or_none n (record_at before n) (record_at after n))
      ∙ ap (λ (b : List ℕ). entries_bytes done ++ entries_bytes (change_or_none n b (record_at after n))) (old_is n h)
      ∙ ap (λ (b : List ℕ). entries_bytes done ++ entries_bytes (change_or_none n (cond (is_listed lists n) (oldest_bytes lists n) (nth_bytes len bytes n)) b))
      (new_is n h)

  -- the entries of the records before one, and that of the next record that is listed
  pub with_next : (written : List ℕ) (least n : ℕ) → written ≡ entries_bytes (changes_below lists len count bytes least) → least ≤ n → n < count →
      ((i : ℕ) → least ≤ i → i < n → is_listed lists i ≡ false) →
      written ++ next_entry lists len bytes n ≡ entries_bytes (changes_below lists len count bytes (n + 1))
  with_next written least n is from h none =
      ap (λ (b : List ℕ). b ++ next_entry lists len bytes n) is ∙ sym (step_to least n from h none)

  -- no record is listed any more
  pub all_done : (least : ℕ) → least ≤ count → ((i : ℕ) → least ≤ i → is_listed lists i ≡ false) →
      entries_bytes (changes_below lists len count bytes least) ≡ entries_bytes (all_changes lists len count bytes)
  all_done least low none =
      let after : List (List ℕ) = records_of_bytes len count bytes in
      let before : List (List ℕ) = undone_all lists after in
      sym (ap entries_bytes (none_up_to before after least (length after) (omega (arith, low, many)) (λ i p q. same i (omega (arith, q, many)) (none i p))))

  -- what is written with the next entry is too long if it has too many bytes
  pub too_long : (written : List ℕ) (most n : ℕ) → n ≤ count → written ≡ entries_bytes (changes_below lists len count bytes n) → most < length written →
      most < length (entries_bytes (all_changes lists len count bytes))
  too_long written most n h is over =
      let after : List (List ℕ) = records_of_bytes len count bytes in
      omega (arith, over, ap length is, not_longer (undone_all lists after) after n (length after) (omega (arith, h, many)))

-- the lists of the newest n publications, as a slice has them
pub slice_is : (items : List OldBytes) (lists : List (List OldRecord)) (n m : ℕ) → olds_of items ≡ lists → m ≡ length items →
    olds_of (take (length items - (m - n)) (drop (m - n) items)) ≡ newest n lists
slice_is items lists n m is all =
    let many : length items ≡ length lists = sym (length-map items (λ (o : OldBytes). o.records)) ∙ ap length is in
    ap olds_of (take_rest items (m - n))
    ∙ sym (drop-map (λ (o : OldBytes). o.records) (m - n) items)
    ∙ ap (drop (m - n)) is
    ∙ ap (λ k. drop (k - n) lists) (all ∙ many)
