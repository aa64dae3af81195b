-- The laws of what logs make of stores and of snapshots.
use Rattle.std.proofs.Common.{◌≡◌, ◌∙◌, ℕ, suc, ◌+◌, ◌<◌, ◌≤◌, List, [], ◌∷◌, ◌++◌, Bool, true, false, length, take, refl, sym, ap, subst, arith, cond, lit≤, inl, inr}
use Rattle.std.specs.Prelude.{nat_lt, slice_set}
use Rattle.std.proofs.lemmas.Bool.{cases_Bool, cases_lt}
use Rattle.std.proofs.lemmas.List.{append-nil, take-take}
use Rattle.digit_pack.specs.Layout.{is_wide}
use Rattle.pir_schemes.specs.declared.plan.Plan.{Plan}
use Rattle.record_log.specs.OldRecords.{OldRecord}
use Rattle.publication_log.specs.Publications.{Placed, Published}
use Rattle.snapshot_file.specs.declared.snapshot.Header.{Header}
use Rattle.version_store.specs.Histories.{StoreState, held_edited, held_appended, held_published, held_after, draft_rows, without_draft}
use Rattle.version_store.specs.OldRecords.{olds_replaced, with_olds}
use Rattle.version_store.proofs.OldsKept.{ordinary_keeps}
use Rattle.version_store.specs.Openings.{held_of, plan_held, records_for}
use Rattle.log_replay.specs.Replays.{record_changed, records_replayed, edits_and_appends, replayed, replayed_all}
use Rattle.log_replay.specs.Records.{AreRecordsReplayed}
use Rattle.log_replay.specs.Laws.{ReplayedIsPublished, DraftIsReplayed, RecordsReplayAlike, LastSixteenSuffice, with_logs}
use Rattle.log_replay.proofs.OldsMeet.{MeetAfter, few_kept, met, one_more_kept}
use Rattle.log_replay.proofs.ChangeLemmas.{held_change, held_first}

-- ---- a publication is that of a draft

-- a store with this draft
abbrev drafted : StoreState → List (List ℕ) → Bool → StoreState
drafted s draft marked = record s { draft = draft; marked = marked }

-- a change makes a store with another draft
changed_only : (s : StoreState) (c : Placed) → held_change s c ≡ drafted s (record_changed s.draft c) true
unfolding held_change
changed_only s c = by_place (nat_lt c.place (length s.draft))
  where
    by_place : (b : Bool) → cond b (held_edited c.place c.bytes s) (held_appended c.bytes s)
        ≡ drafted s (cond b (slice_set s.draft c.place c.bytes) (s.draft ++ c.bytes ∷ [])) true
    by_place true = refl
    by_place false = refl

pub is_published : ReplayedIsPublished
is_published p s = by_changes p.changes s
  where
    by_changes : (cs : List Placed) (s : StoreState) → held_published (held_after (edits_and_appends (length s.draft) cs) s)
        ≡ held_published (record s { draft = records_replayed s.draft cs })
    by_changes [] s = refl
    by_changes (c ∷ cs) s =
        ap held_published (held_first s c cs)
        ∙ by_changes cs (held_change s c)
        ∙ ap (λ (t : StoreState). held_published (record t { draft = records_replayed t.draft cs })) (changed_only s c)

pub draft_replayed : DraftIsReplayed
draft_replayed s p is =
    is_published p (without_draft s)
    ∙ ap (λ (d : List (List ℕ)). held_published (record (without_draft s) { draft = d })) is.made

-- ---- snapshots

abbrev opened : Header → List (List ℕ) → StoreState
opened h records = record {
  version = h.version;
  edition = record { plan = plan_held h; records = records };
  draft = records;
  marked = false;
  publisher = h.publisher;
  log = [];
  olds = [];
}

one_alike : (h h' : Header) (bytes bytes' : List ℕ) (p : Published) → AreRecordsReplayed h bytes p h' bytes' →
    held_of h' bytes' ≡ with_logs [] [] (replayed p (held_of h bytes))
one_alike h h' bytes bytes' p is =
    let rs : List (List ℕ) = records_replayed (records_for h bytes) p.changes in
    ap (opened h') is.held ∙ ap (λ (k : Header). opened k rs) is.header ∙ ap (with_logs [] []) (sym (is_published p (held_of h bytes)))

-- ---- logs of changed rows

-- the rows that a publication changes
abbrev rows_of : Published → StoreState → List ℕ
rows_of p s = draft_rows (record s { draft = records_replayed s.draft p.changes })

abbrev logged : Published → StoreState → List (List ℕ) → List (List ℕ)
logged p s log = take 16 (rows_of p s ∷ log)

-- the old bytes that are kept with those of a publication
abbrev kept : Published → StoreState → List (List OldRecord) → List (List OldRecord)
kept p s olds = with_olds s.edition.plan olds (olds_replaced s.edition.plan s.edition.records (records_replayed s.draft p.changes))

-- a store with other logs differs after a publication in its logs alone
other_logs : (p : Published) (s : StoreState) (log : List (List ℕ)) (olds : List (List OldRecord)) →
    replayed p (with_logs log olds s) ≡ with_logs (logged p s log) (kept p s olds) (replayed p s)
other_logs p s log olds = is_published p (with_logs log olds s) ∙ ap (with_logs (logged p s log) (kept p s olds)) (sym (is_published p s))

log_is : (p : Published) (s : StoreState) → (replayed p s).log ≡ logged p s s.log
log_is p s = ap (λ (t : StoreState). t.log) (is_published p s)

olds_is : (p : Published) (s : StoreState) → (replayed p s).olds ≡ kept p s s.olds
olds_is p s = ap (λ (t : StoreState). t.olds) (is_published p s)

plan_is : (p : Published) (s : StoreState) → (replayed p s).edition.plan ≡ s.edition.plan
plan_is p s = ap (λ (t : StoreState). t.edition.plan) (is_published p s)

logs_apart : (ps : List Published) (s : StoreState) (log : List (List ℕ)) (olds : List (List OldRecord)) →
    with_logs [] [] (replayed_all ps (with_logs log olds s)) ≡ with_logs [] [] (replayed_all ps s)
logs_apart [] s log olds = refl
logs_apart (p ∷ ps) s log olds =
    ap (λ (t : StoreState). with_logs [] [] (replayed_all ps t)) (other_logs p s log olds)
    ∙ logs_apart ps (replayed p s) (logged p s log) (kept p s olds)

pub records_alike : RecordsReplayAlike
records_alike h h' bytes bytes' [] is =
    ap (λ (k : Header). held_of k bytes') is.0 ∙ ap (held_of h) is.1
records_alike h h' bytes bytes' (p ∷ ps) (mid, between, first, rest) =
    records_alike mid h' between bytes' ps rest
    ∙ ap (λ (t : StoreState). with_logs [] [] (replayed_all ps t)) (one_alike h mid bytes between p first)
    ∙ logs_apart ps (replayed p (held_of h bytes)) [] []

-- ---- the latest sixteen

-- no more are logged
few_logged : (ps : List Published) (s : StoreState) → take 16 s.log ≡ s.log → take 16 (replayed_all ps s).log ≡ (replayed_all ps s).log
few_logged [] s few = few
few_logged (p ∷ ps) s few =
    few_logged ps (replayed p s)
    (ap (take 16) (log_is p s) ∙ take-take 16 16 (rows_of p s ∷ s.log) (lit≤ tt) ∙ sym (log_is p s))

same_log : (s : StoreState) (log : List (List ℕ)) (n : ℕ) → take n log ≡ take n s.log → take 16 log ≡ log → take 16 s.log ≡ s.log → 16 ≤ n → log ≡ s.log
same_log s log n same few fewer le =
    sym few ∙ sym (take-take 16 n log le) ∙ ap (take 16) same ∙ take-take 16 n s.log le ∙ fewer

-- lists with one more before them are the same for one more
one_more : (x : List ℕ) (xs ys : List (List ℕ)) (n : ℕ) → take n xs ≡ take n ys → n < 16 → take (suc n) (take 16 (x ∷ xs)) ≡ take (suc n) (take 16 (x ∷ ys))
one_more x xs ys n same lt =
    take-take (suc n) 16 (x ∷ xs) (omega (arith, lt))
    ∙ ap (λ (zs : List (List ℕ)). x ∷ zs) same
    ∙ sym (take-take (suc n) 16 (x ∷ ys) (omega (arith, lt)))

few_olds : (p : Published) (s : StoreState) → length s.olds ≤ 16 → length (replayed p s).olds ≤ 16
few_olds p s few =
    omega (
      arith,
      ap length (olds_is p s),
      few_kept s.edition.plan s.olds (olds_replaced s.edition.plan s.edition.records (records_replayed s.draft p.changes)) few,
    )

all_few : (ps : List Published) (s : StoreState) → length s.olds ≤ 16 → length (replayed_all ps s).olds ≤ 16
all_few [] s few = few
all_few (p ∷ ps) s few = all_few ps (replayed p s) (few_olds p s few)

-- an ordinary store keeps no old bytes
none_kept : (ps : List Published) (s : StoreState) → (is_wide s.edition.plan.form ≡ false → s.olds ≡ []) →
    is_wide (replayed_all ps s).edition.plan.form ≡ false → (replayed_all ps s).olds ≡ []
none_kept [] s none = none
none_kept (p ∷ ps) s none =
    none_kept ps (replayed p s) (λ ordinary.
    let still : is_wide s.edition.plan.form ≡ false = ap (λ (q : Plan). is_wide q.form) (sym (plan_is p s)) ∙ ordinary in
    olds_is p s
    ∙ ordinary_keeps s.edition.plan s.olds (olds_replaced s.edition.plan s.edition.records (records_replayed s.draft p.changes)) still
    ∙ none still)

meet_next : (p : Published) (s : StoreState) (olds : List (List OldRecord)) (n : ℕ) → MeetAfter s.edition.plan n olds s.olds →
    MeetAfter (replayed p s).edition.plan (suc n) (kept p s olds) (replayed p s).olds
meet_next p s olds n meet =
    subst (λ (q : Plan). MeetAfter q (suc n) (kept p s olds) (replayed p s).olds) (sym (plan_is p s))
    (subst (MeetAfter s.edition.plan (suc n) (kept p s olds)) (sym (olds_is p s))
    (one_more_kept s.edition.plan n olds s.olds (olds_replaced s.edition.plan s.edition.records (records_replayed s.draft p.changes)) meet))

same_logs : (s : StoreState) (log : List (List ℕ)) (olds : List (List OldRecord)) → log ≡ s.log → olds ≡ s.olds → with_logs log olds s ≡ s
same_logs s log olds rows bytes =
    ap (λ (l : List (List ℕ)). with_logs l olds s) rows ∙ ap (λ (o : List (List OldRecord)). with_logs s.log o s) bytes

-- stores that differ in their logs, which are the same for so many, keep the same once enough
-- publications came
logs_meet : (ps : List Published) (s : StoreState) (log : List (List ℕ)) (olds : List (List OldRecord)) (n : ℕ) → take n log ≡ take n s.log →
    take 16 log ≡ log → take 16 s.log ≡ s.log → MeetAfter s.edition.plan n olds s.olds → length s.olds ≤ 16 →
    16 ≤ n + length ps → replayed_all ps (with_logs log olds s) ≡ replayed_all ps s
logs_meet [] s log olds n same few fewer meet small enough =
    same_logs s log olds (same_log s log n same few fewer (omega (arith, enough))) (met s.edition.plan n olds s.olds meet (omega (arith, enough)) small)
logs_meet (p ∷ ps) s log olds n same few fewer meet small enough = elim (cases_lt n 16) [
  | inl lt ↦
      ap (replayed_all ps) (other_logs p s log olds)
      ∙ logs_meet ps (replayed p s) (logged p s log) (kept p s olds) (suc n)
      (one_more (rows_of p s) log s.log n same lt ∙ ap (take (suc n)) (sym (log_is p s)))
      (take-take 16 16 (rows_of p s ∷ log) (lit≤ tt))
      (few_logged (p ∷ []) s fewer)
      (meet_next p s olds n meet)
      (few_olds p s small)
      (omega (arith, enough))
  | inr le ↦
      ap (replayed_all (p ∷ ps))
      (same_logs s log olds (same_log s log n same few fewer le) (met s.edition.plan n olds s.olds meet le small))
]

-- a store without logs, and one with those of all publications
begins : (s : StoreState) → (is_wide s.edition.plan.form ≡ false → s.olds ≡ []) → MeetAfter s.edition.plan 0 [] s.olds
begins s none = elim (cases_Bool (is_wide s.edition.plan.form)) [
  | inl wide ↦ inr (wide, omega arith, s.olds, sym (append-nil s.olds))
  | inr ordinary ↦ inl (sym (none ordinary))
]

replayed_parts : (ps qs : List Published) (s : StoreState) → replayed_all (ps ++ qs) s ≡ replayed_all qs (replayed_all ps s)
replayed_parts [] qs s = refl
replayed_parts (p ∷ ps) qs s = replayed_parts ps qs (replayed p s)

pub last_sixteen : LastSixteenSuffice
last_sixteen h h' bytes bytes' earlier latest is enough =
    let s : StoreState = replayed_all earlier (held_of h bytes) in
    ap (replayed_all latest) (records_alike h h' bytes bytes' earlier is)
    ∙ logs_meet latest s [] [] 0 refl refl (few_logged earlier (held_of h bytes) refl) (begins s (none_kept earlier (held_of h bytes) (λ _. refl)))
    (all_few earlier (held_of h bytes) (omega arith)) (omega (arith, enough))
    ∙ sym (replayed_parts earlier latest (held_of h bytes))
