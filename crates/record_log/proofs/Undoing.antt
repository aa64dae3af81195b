-- Records with the bytes that they had before.
use Rattle.std.proofs.Common.{◌≡◌, ◌≢◌, ℕ, ◌<◌, ap, ◌∙◌, sym, refl, inl, inr, arith, All, Bool, true, false, cond, ◌||◌, List, [], ◌∷◌, length, get_or, set}
use Rattle.std.proofs.lemmas.Bool.{cases_eq, cases_Bool, cond-true, cond-false, eq-eqb, ne_eqb, both_ways}
use Rattle.std.proofs.lemmas.List.{ext_get_or, length-set, get_or-set_same, get_or-set_other}
use Rattle.std.proofs.lemmas.List.Elements.{All-head, All-tail}
use Rattle.std.proofs.lemmas.List.Folds.{list_any_at}
use Rattle.std.specs.Prelude.{nat_eq}
use Rattle.digit_pack.specs.Layout.{record_at}
use Rattle.record_log.specs.OldRecords.{OldRecord, has_old, old_bytes_in, undone}
use Rattle.record_log.specs.Logs.{is_listed, oldest_bytes, undone_all}
use Rattle.record_log.specs.Laws.{OldBytesUndo}

pub length-undone : (olds : List OldRecord) (records : List (List ℕ)) → length (undone olds records) ≡ length records
length-undone [] records = refl
length-undone (old ∷ more) records = length-set (undone more records) old.index old.bytes ∙ length-undone more records

-- a record after those that are listed have their old bytes again
pub record_undone : (olds : List OldRecord) (records : List (List ℕ)) (i : ℕ) → i < length records →
    record_at (undone olds records) i ≡ cond (has_old olds i) (old_bytes_in olds i) (record_at records i)
record_undone [] records i h = refl
record_undone (old ∷ more) records i h =
    let answer : Bool → List ℕ = λ b. cond (b || has_old more i) (cond b old.bytes (old_bytes_in more i)) (record_at records i) in
    elim (cases_eq old.index i) [
      | inl same ↦
          ap (λ j. record_at (set (undone more records) j old.bytes) i) same
          ∙ get_or-set_same (undone more records) i old.bytes [] (omega (arith, h, length-undone more records))
          ∙ sym (ap answer (eq-eqb old.index i same))
      | inr apart ↦
          get_or-set_other (undone more records) old.index i old.bytes [] (λ e. apart (sym e))
          ∙ record_undone more records i h
          ∙ sym (ap answer (ne_eqb old.index i apart))
    ]

pub length-undone_all : (lists : List (List OldRecord)) (records : List (List ℕ)) → length (undone_all lists records) ≡ length records
length-undone_all [] records = refl
length-undone_all (olds ∷ newer) records = length-undone olds (undone_all newer records) ∙ length-undone_all newer records

-- two choices one after another
two_choices : (b c : Bool) (x y z : List ℕ) → cond b x (cond c y z) ≡ cond (b || c) (cond b x y) z
two_choices true c x y z = refl
two_choices false c x y z = refl

-- a record before all publications: the oldest bytes, if some changed it
pub record_undone_all : (lists : List (List OldRecord)) (records : List (List ℕ)) (i : ℕ) → i < length records →
    record_at (undone_all lists records) i ≡ cond (is_listed lists i) (oldest_bytes lists i) (record_at records i)
record_undone_all [] records i h = refl
record_undone_all (olds ∷ newer) records i h =
    record_undone olds (undone_all newer records) i (omega (arith, h, length-undone_all newer records))
    ∙ ap (cond (has_old olds i) (old_bytes_in olds i)) (record_undone_all newer records i h)
    ∙ two_choices (has_old olds i) (is_listed newer i) (old_bytes_in olds i) (oldest_bytes newer i) (record_at records i)

-- no number in a list is that of a record that it doesn't have
not_there : (olds : List OldRecord) (i : ℕ) → has_old olds i ≡ false → All (λ (old : OldRecord). old.index ≢ i) olds
not_there olds i none = λ k d h same.
    both_ways (has_old olds i) none (list_any_at (λ (old : OldRecord). nat_eq old.index i) olds k d h (eq-eqb (get_or olds k d).index i same))

-- the old bytes in a list are those of the records before, if all of them are
old_bytes_are : (before : List (List ℕ)) (olds : List OldRecord) (i : ℕ) →
    All (λ (old : OldRecord). record_at before old.index ≡ old.bytes) olds → has_old olds i ≡ true → old_bytes_in olds i ≡ record_at before i
old_bytes_are before [] i each there = cc
old_bytes_are before (old ∷ more) i each there = elim (cases_eq old.index i) [
  | inl same ↦
      cond-true (nat_eq old.index i) old.bytes (old_bytes_in more i) (eq-eqb old.index i same)
      ∙ sym (All-head (λ (old : OldRecord). record_at before old.index ≡ old.bytes) old more each)
      ∙ ap (record_at before) same
  | inr apart ↦
      let other : nat_eq old.index i ≡ false = ne_eqb old.index i apart in
      cond-false (nat_eq old.index i) old.bytes (old_bytes_in more i) other
      ∙ old_bytes_are before more i (All-tail (λ (old : OldRecord). record_at before old.index ≡ old.bytes) old more each)
      (sym (ap (λ b. b || has_old more i) other) ∙ there)
]

pub old_bytes_undo : OldBytesUndo
old_bytes_undo before after olds all =
    let long : length (undone olds after) ≡ length after = length-undone olds after in
    ext_get_or [] (undone olds after) before (omega (arith, long, all.count)) (λ i h.
    record_undone olds after i (omega (arith, h, long))
    ∙ elim (cases_Bool (has_old olds i)) [
      | inl there ↦
          cond-true (has_old olds i) (old_bytes_in olds i) (record_at after i) there
          ∙ old_bytes_are before olds i (λ k d l. (all.each k d l).1) there
      | inr none ↦
          cond-false (has_old olds i) (old_bytes_in olds i) (record_at after i) none
          ∙ all.others i (not_there olds i none)
    ])
