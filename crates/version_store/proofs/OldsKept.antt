-- Old bytes that are kept of publications, and the versions that they lead back to.
use Rattle.std.proofs.Common.{◌≡◌, ◌∙◌, ℕ, zero, suc, ◌+◌, ◌-◌, ◌<◌, ◌≤◌, All, Bool, true, false, cond, Option, Some, None, IfSome, List, [], ◌∷◌, ◌++◌, length, get_or, drop, replicate, refl, sym, ap, subst, arith, inl, inr}
use Rattle.std.proofs.lemmas.Bool.{cases_Bool, cond-true, cond-false}
use Rattle.std.proofs.lemmas.List.{append_assoc, drop_all, drop-append-le, get_or-map, length-map, length_push, replicate-append-replicate}
use Rattle.std.proofs.lemmas.List.Elements.{All-drop, All-map, All-push, All-weaker}
use Rattle.digit_pack.specs.Layout.{Shape, is_wide, record_at}
use Rattle.digit_pack.specs.Slots.{is_form}
use Rattle.hint_changes.specs.Changes.{ChangedRecord, LeadTo, changes_between}
use Rattle.hint_changes.proofs.Between.{between_lead}
use Rattle.pir_schemes.specs.declared.plan.Plan.{Plan}
use Rattle.pir_schemes.specs.Plans.{slot, slots}
use Rattle.record_log.specs.OldRecords.{AreOldOf, OldBytes, OldRecord, undone}
use Rattle.record_log.specs.Logs.{AreInside, AreNewestOf, KeptLog, kept_within, newest, undone_all}
use Rattle.record_log.proofs.Undoing.{old_bytes_undo}
use Rattle.record_log.proofs.Versions.{kept_are_the_newest, old_bytes_stay}
use Rattle.version_store.specs.Editions.{Records, grown}
use Rattle.version_store.specs.Histories.{AreGrowing, History, current_version, version_records}
use Rattle.version_store.specs.OldRecords.{IsOldsLog, draft_olds, kept_olds, most_old_bytes, old_of, olds_between, olds_replaced, slots_with_blanks, with_newest, with_olds}
use Rattle.version_store.proofs.Grown.{grown-same, length-grown, slots-grown}
use Rattle.version_store.proofs.LoggedRows.{at_back, records_back}

-- ---- the old bytes of what differs

-- what differs between two lists of as many records, by old bytes
pub olds_are : (before after : List (List ℕ)) → length before ≡ length after → AreOldOf before after (olds_between before after)
olds_are before after long =
    let l : Shape = record { side = 0; width = 0; record_len = 0; groups = 0; count = length after } in
    let changes : List ChangedRecord = changes_between before after in
    let lead : LeadTo l changes before after = between_lead l before after long (omega arith) in
    record {
      count = long;
      each = All-map (λ (old : OldRecord). (old.index < length after) × (record_at before old.index ≡ old.bytes)) old_of changes (λ k d h.
          let is = lead.each k d h in (omega (arith, is.there, long), is.old));
      others = λ i apart. lead.others i (λ k d h same.
          apart k (old_of d) (omega (arith, h, length-map changes old_of)) (ap (λ (old : OldRecord). old.index) (get_or-map old_of changes k d (old_of d) h) ∙ same));
    }

length-slots : (p : Plan) (n : ℕ) (records : List (List ℕ)) → length records ≤ n → length (slots_with_blanks p n records) ≡ n
length-slots p n records le = length-map (grown p n records) (slot p) ∙ length-grown p n records le

-- each is of a record of the version
pub replaced_inside : (p : Plan) (before after : List (List ℕ)) → length before ≤ length after →
    All (λ (old : OldRecord). old.index < length after) (olds_replaced p before after)
unfolding olds_replaced
replaced_inside p before after le =
    let n : ℕ = length after in
    let all : AreOldOf (slots_with_blanks p n before) (slots p after) (olds_between (slots_with_blanks p n before) (slots p after)) =
    olds_are (slots_with_blanks p n before) (slots p after) (length-slots p n before le ∙ sym (length-map after (slot p))) in
    λ k d h. omega (arith, (all.each k d h).0, length-map after (slot p))

-- more blanks after some
more_blanks : (p : Plan) (n m : ℕ) (records : List (List ℕ)) → is_form p.form p.record_len ≡ true → length records ≤ n → n ≤ m →
    slots_with_blanks p m records ≡ slots_with_blanks p n records ++ replicate (m - n) (replicate p.record_len 0)
more_blanks p n m records form low high =
    let zeros : List ℕ = replicate p.record_len 0 in
    let a : ℕ = n - length records in
    let b : ℕ = m - n in
    let all : m - length records ≡ a + b = omega (arith, low, high) in
    slots-grown p m records form
    ∙ ap (λ k. slots p records ++ replicate k zeros) all
    ∙ ap (λ (xs : List (List ℕ)). slots p records ++ xs) (sym (replicate-append-replicate a b zeros))
    ∙ sym (append_assoc (slots p records) (replicate a zeros) (replicate b zeros))
    ∙ ap (λ (xs : List (List ℕ)). xs ++ replicate b zeros) (sym (slots-grown p n records form))

as_many : (p : Plan) (records : List (List ℕ)) → slots_with_blanks p (length records) records ≡ slots p records
as_many p records = ap (slots p) (grown-same p records)

-- a version with the old bytes of what it changed is the one before it
pub one_undone : (p : Plan) (m : ℕ) (before after : List (List ℕ)) → is_form p.form p.record_len ≡ true → length before ≤ length after → length after ≤ m →
    undone (olds_replaced p before after) (slots_with_blanks p m after) ≡ slots_with_blanks p m before
unfolding olds_replaced
one_undone p m before after form low high =
    let n : ℕ = length after in
    let old : List (List ℕ) = slots_with_blanks p n before in
    let new : List (List ℕ) = slots p after in
    let more : List (List ℕ) = replicate (m - n) (replicate p.record_len 0) in
    let olds : List OldRecord = olds_between old new in
    ap (undone olds) (slots-grown p m after form)
    ∙ old_bytes_undo (old ++ more) (new ++ more) olds
    (old_bytes_stay old new more olds (olds_are old new (length-slots p n before low ∙ sym (length-map after (slot p)))))
    ∙ sym (more_blanks p n m before form low high)

-- ---- the newest of those that are kept

none_newest : (lists : List (List OldRecord)) → newest 0 lists ≡ []
none_newest lists = drop_all (length lists - 0) lists (omega arith)

newest_pushed : (n : ℕ) (lists : List (List OldRecord)) (last : List OldRecord) → n ≤ length lists →
    newest (suc n) (lists ++ last ∷ []) ≡ newest n lists ++ last ∷ []
newest_pushed n lists last h =
    let place : length (lists ++ last ∷ []) - suc n ≡ length lists - n = omega (arith, h, length_push lists last) in
    ap (λ k. drop k (lists ++ last ∷ [])) place ∙ drop-append-le (length lists - n) lists (last ∷ []) (omega arith)

last_undone : (lists : List (List OldRecord)) (last : List OldRecord) (records : List (List ℕ)) →
    undone_all (lists ++ last ∷ []) records ≡ undone_all lists (undone last records)
last_undone [] last records = refl
last_undone (oldest ∷ newer) last records = ap (undone oldest) (last_undone newer last records)

pub wide_keeps : (p : Plan) (lists : List (List OldRecord)) (last : List OldRecord) → is_wide p.form ≡ true →
    with_olds p lists last ≡ kept_within p.record_len (most_old_bytes p) (lists ++ last ∷ [])
unfolding with_olds
wide_keeps p lists last wide = cond-true (is_wide p.form) (kept_within p.record_len (most_old_bytes p) (lists ++ last ∷ [])) lists wide

pub ordinary_keeps : (p : Plan) (lists : List (List OldRecord)) (last : List OldRecord) → is_wide p.form ≡ false → with_olds p lists last ≡ lists
unfolding with_olds
ordinary_keeps p lists last ordinary = cond-false (is_wide p.form) (kept_within p.record_len (most_old_bytes p) (lists ++ last ∷ [])) lists ordinary

pub kept_are : (p : Plan) (lists : List (List OldRecord)) (last : List OldRecord) → is_wide p.form ≡ true →
    AreNewestOf (lists ++ last ∷ []) (with_olds p lists last)
kept_are p lists last wide =
    subst (AreNewestOf (lists ++ last ∷ [])) (sym (wide_keeps p lists last wide))
    (kept_are_the_newest p.record_len (most_old_bytes p) (lists ++ last ∷ []))

-- an ordinary store keeps none
pub none_kept : (p : Plan) (current : List (List ℕ)) (past : List (List (List ℕ))) → is_wide p.form ≡ false → kept_olds p current past ≡ []
unfolding kept_olds
none_kept p current [] ordinary = refl
none_kept p current (before ∷ past) ordinary =
    ordinary_keeps p (kept_olds p before past) (olds_replaced p before current) ordinary ∙ none_kept p before past ordinary

-- a store that keeps some is wide
wide_kept : (p : Plan) (current : List (List ℕ)) (past : List (List (List ℕ))) (n : ℕ) → suc n ≤ length (kept_olds p current past) → is_wide p.form ≡ true
wide_kept p current past n h = elim (cases_Bool (is_wide p.form)) [
  | inl wide ↦ wide
  | inr ordinary ↦ absurd (omega (arith, h, ap length (none_kept p current past ordinary)))
]

-- those that are kept of a history with one more version
pub one_more : (p : Plan) (before current : List (List ℕ)) (past : List (List (List ℕ))) →
    kept_olds p current (before ∷ past) ≡ with_olds p (kept_olds p before past) (olds_replaced p before current)
unfolding kept_olds
one_more p before current past = refl

none_published : (p : Plan) (current : List (List ℕ)) → kept_olds p current [] ≡ []
unfolding kept_olds
none_published p current = refl

-- the old bytes of the newest n publications lead back to the version before them
pub lead_back : (p : Plan) (current : List (List ℕ)) (past : List (List (List ℕ))) (n m : ℕ) → is_form p.form p.record_len ≡ true →
    AreGrowing current past → n ≤ length (kept_olds p current past) → length current ≤ m →
    undone_all (newest n (kept_olds p current past)) (slots_with_blanks p m current) ≡ slots_with_blanks p m (at_back (current ∷ past) n)
unfolding at_back
lead_back p current past zero m form growing h high =
    ap (λ (lists : List (List OldRecord)). undone_all lists (slots_with_blanks p m current)) (none_newest (kept_olds p current past))
lead_back p current [] (suc n) m form growing h high = absurd (omega (arith, h, ap length (none_published p current)))
lead_back p current (before ∷ past) (suc n) m form growing h high =
    let lists : List (List OldRecord) = kept_olds p before past in
    let last : List OldRecord = olds_replaced p before current in
    let all : List (List OldRecord) = lists ++ last ∷ [] in
    let wide : is_wide p.form ≡ true = wide_kept p current (before ∷ past) n h in
    let is : kept_olds p current (before ∷ past) ≡ with_olds p lists last = one_more p before current past in
    let are : AreNewestOf all (with_olds p lists last) = kept_are p lists last wide in
    let few : suc n ≤ length (with_olds p lists last) = omega (arith, h, ap length is) in
    let fewer : n ≤ length lists = omega (arith, few, are.inside, length_push lists last) in
    ap (λ (xs : List (List OldRecord)). undone_all (newest (suc n) xs) (slots_with_blanks p m current)) is
    ∙ ap (λ (xs : List (List OldRecord)). undone_all xs (slots_with_blanks p m current)) (are.each (suc n) few ∙ newest_pushed n lists last fewer)
    ∙ last_undone (newest n lists) last (slots_with_blanks p m current)
    ∙ ap (undone_all (newest n lists)) (one_undone p m before current form growing.0 high)
    ∙ lead_back p before past n m form growing.1 fewer (omega (arith, growing.0, high))

-- so those since a version lead from the current one to it
pub back_to : (p : Plan) (h : History) (since n : ℕ) → is_form p.form p.record_len ≡ true → AreGrowing h.current h.past →
    since + n ≡ current_version h → n ≤ length (kept_olds p h.current h.past) →
    undone_all (newest n (kept_olds p h.current h.past)) (slots p h.current) ≡ slots_with_blanks p (length h.current) (version_records h since)
back_to p h since n form growing is few =
    let lists : List (List OldRecord) = kept_olds p h.current h.past in
    ap (undone_all (newest n lists)) (sym (as_many p h.current))
    ∙ lead_back p h.current h.past n (length h.current) form growing few (omega arith)
    ∙ ap (slots_with_blanks p (length h.current)) (sym (records_back h since n is))

-- ---- a log of old bytes

-- what a publication adds to a log
pub newest_kept : (e : Records) (draft : List (List ℕ)) (log : KeptLog) → IsOldsLog e log →
    with_newest log (draft_olds e draft) ≡ record log { lists = with_olds e.plan log.lists (olds_replaced e.plan e.records draft) }
newest_kept e draft log of =
    let last : List OldRecord = olds_replaced e.plan e.records draft in
    let with : List (List OldRecord) → KeptLog = λ lists. record log { lists = lists } in
    elim (cases_Bool (is_wide e.plan.form)) [
      | inl wide ↦
          ap (with_newest log) (cond-true (is_wide e.plan.form) _ _ wide)
          ∙ ap (λ len. with (kept_within len log.most (log.lists ++ last ∷ []))) of.record_len
          ∙ ap (λ most. with (kept_within e.plan.record_len most (log.lists ++ last ∷ []))) of.most
          ∙ ap with (sym (wide_keeps e.plan log.lists last wide))
      | inr ordinary ↦
          ap (with_newest log) (cond-false (is_wide e.plan.form) _ _ ordinary) ∙ ap with (sym (ordinary_keeps e.plan log.lists last ordinary))
    ]

-- what is kept after a publication is of records of the new version
kept_inside : (p : Plan) (n : ℕ) (lists : List (List OldRecord)) (last : List OldRecord) → AreInside n lists →
    All (λ (old : OldRecord). old.index < n) last → AreInside n (with_olds p lists last)
kept_inside p n lists last inside new =
    let Inside : List OldRecord → Type 0 = All (λ (old : OldRecord). old.index < n) in
    elim (cases_Bool (is_wide p.form)) [
      | inl wide ↦
          let are : AreNewestOf (lists ++ last ∷ []) (with_olds p lists last) = kept_are p lists last wide in
          subst (All Inside) (sym are.same)
          (All-drop Inside (length (lists ++ last ∷ []) - length (with_olds p lists last)) (lists ++ last ∷ []) (All-push Inside lists last inside new))
      | inr ordinary ↦ subst (All Inside) (sym (ordinary_keeps p lists last ordinary)) inside
    ]

-- a log stays one of a version's records after its publication
pub log_after : (old new : Records) (draft : List (List ℕ)) (log log2 : KeptLog) → new ≡ record old { records = draft } → length old.records ≤ length draft →
    IsOldsLog old log → log2 ≡ with_newest log (draft_olds old draft) → IsOldsLog new log2
log_after old new draft log log2 is more of added =
    let last : List OldRecord = olds_replaced old.plan old.records draft in
    let kept : List (List OldRecord) = with_olds old.plan log.lists last in
    let now : log2 ≡ record log { lists = kept } = added ∙ newest_kept old draft log of in
    let inside : AreInside (length draft) kept =
    kept_inside old.plan (length draft) log.lists last
    (λ k d h. All-weaker (λ (r : OldRecord). r.index < length old.records) (λ (r : OldRecord). r.index < length draft) (λ x lt. omega (arith, lt, more)) (get_or log.lists k d) (of.inside k d h))
    (replaced_inside old.plan old.records draft more) in
    subst (IsOldsLog new) (sym now) (subst (λ (e : Records). IsOldsLog e (record log { lists = kept })) (sym is)
    (record { record_len = of.record_len; most = of.most; inside = inside }))

-- what a draft changes fits a log of its version
pub newest_fits : (e : Records) (draft : List (List ℕ)) (log : KeptLog) (olds : Option OldBytes) → IsOldsLog e log → olds ≡ draft_olds e draft →
    IfSome olds (λ newest. newest.record_len ≡ log.record_len)
newest_fits e draft log olds of is =
    let last : OldBytes = record { record_len = e.plan.record_len; records = olds_replaced e.plan e.records draft } in
    subst (λ o. IfSome o (λ newest. newest.record_len ≡ log.record_len)) (sym is) (by (is_wide e.plan.form) last (sym of.record_len))
  where
    by : (b : Bool) (last : OldBytes) → last.record_len ≡ log.record_len → IfSome (cond b (Some last) None) (λ newest. newest.record_len ≡ log.record_len)
    by true last e = e
    by false last e = tt
