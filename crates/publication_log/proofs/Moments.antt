-- What is read after a crash.
use Rattle.std.specs.Prelude.{⊤}
use Rattle.std.proofs.Common.{◌≡◌, ◌⊎◌, inl, inr, ℕ, zero, suc, ◌+◌, ◌-◌, ◌<◌, ◌≤◌, List, [], ◌∷◌, ◌++◌, length, take, drop, refl, sym, ap, subst, ◌∙◌, append_assoc, append-nil, take_all, arith, Result, Ok, Err}
use Rattle.std.proofs.lemmas.Bool.{cases_lt}
use Rattle.std.proofs.lemmas.List.{take_at, drop_at}
use Rattle.publication_log.specs.declared.header.LogHeader.{LogHeader}
use Rattle.publication_log.specs.declared.reading.BadLog.{BadLog}
use Rattle.publication_log.specs.declared.log.AppendFault.{AppendFault}
use Rattle.publication_log.specs.declared.log.AppendFault.TheVariants as appends
use Rattle.publication_log.specs.declared.log.CutFault.{CutFault}
use Rattle.publication_log.specs.declared.log.CutFault.TheVariants as cuts
use Rattle.publication_log.specs.Publications.{Published, IsPublished, body_bytes}
use Rattle.publication_log.specs.Entries.{log_entry, IsTorn, HasNoEntry}
use Rattle.publication_log.specs.Logs.{log_bytes, end_link, AreNext, BeginsWithLog, ReadsLog, IsLogVerdict}
use Rattle.publication_log.specs.Steps.{LogStep, Writes, WriteFails, Syncs, SyncFails, Truncates, TruncateFails}
use Rattle.publication_log.specs.Crashes.{LogDevice, log_at_rest, truncated, after_log_step, after_log_steps, IsTornTail, LeavesOnly, HoldsAtEachStep, IsGoodLogOf, IsWithOrWithout, MayFollow, HasFailed, appending, cutting, log_of, EachMomentIsWhole, DoneIsKept, RestIsRead, CutIsWhole, RecoveryIsWhole, TakenBackIsWhole, TakenBackIsOld}
use Rattle.publication_log.proofs.Torn.{none_empty, torn_empty, torn_start, torn_prefix}
use Rattle.publication_log.proofs.Chains.{next_before, next_last}
use Rattle.publication_log.proofs.Verdicts.{log_push, one_log, verdict_is}

-- what was read
abbrev Verdict : Type 0
Verdict = Result (List Published × List ℕ) BadLog

take_none : (n : ℕ) → ◌≡◌ {A = List ℕ} (take n []) []
take_none zero = refl
take_none (suc n) = refl

-- what is read of a log with torn bytes after it
settles : (h : LogHeader) (found tail : List ℕ) (ps : List Published) (verdict : Verdict) → AreNext h.version ps → found ≡ log_bytes h ps ++ tail → IsTorn (end_link h ps) tail →
    IsLogVerdict h found verdict → IsGoodLogOf ps verdict
settles h found tail ps verdict each e torn is = (tail, verdict_is h found ps tail verdict (record { begins = record { whole = e; each = each }; torn = torn }) is)

-- what is torn after a log is torn after the same log
torn_after : (h : LogHeader) (synced torn tail : List ℕ) (ps : List Published) → AreNext h.version ps → synced ≡ log_bytes h ps ++ torn → HasNoEntry (end_link h ps) torn → IsTornTail h synced tail
    → (torn ≡ []) × IsTorn (end_link h ps) tail
torn_after h synced torn tail ps each e none (qs, also, same, is) =
    let begun : BeginsWithLog h synced qs [] = record { whole = same ∙ sym (append-nil (log_bytes h qs)); each = also } in
    let one = one_log h synced ps qs torn [] (record { whole = e; each = each }) begun none (none_empty (end_link h qs)) in
    (one.1, subst (λ (xs : List Published). IsTorn (end_link h xs) tail) (sym one.0) is)

module _ (h : LogHeader) (ps : List Published) (each : AreNext h.version ps) where
  -- what a crash leaves of a log and what may follow
  leaves : (P : Verdict → Type 0) (pending cut : List ℕ) → ((verdict : Verdict) → IsGoodLogOf ps verdict → P verdict)
      → ((n : ℕ) (verdict : Verdict) → IsLogVerdict h (log_bytes h ps ++ take n (pending ++ cut)) verdict → P verdict)
      → LeavesOnly h P (let d : LogDevice = record { synced = log_bytes h ps; pending = pending; cut = cut } in d)
  leaves P pending cut alone parts found verdict (tail, e, inl (n, part)) is =
      parts n verdict (subst (λ (x : List ℕ). IsLogVerdict h x verdict) (e ∙ ap (λ (x : List ℕ). log_bytes h ps ++ x) part) is)
  leaves P pending cut alone parts found verdict (tail, e, inr torn) is =
      let after = torn_after h (log_bytes h ps) [] tail ps each (sym (append-nil (log_bytes h ps))) (none_empty (end_link h ps)) torn in
      alone verdict (settles h found tail ps verdict each e after.1 is)

  -- torn bytes that may follow leave the log alone
  torn_leaves : (P : Verdict → Type 0) (cut : List ℕ) → IsTorn (end_link h ps) cut → ((verdict : Verdict) → IsGoodLogOf ps verdict → P verdict)
      → LeavesOnly h P (let d : LogDevice = record { synced = log_bytes h ps; pending = []; cut = cut } in d)
  torn_leaves P cut torn alone = leaves P [] cut alone (λ n verdict is.
      alone verdict (settles h (log_bytes h ps ++ take n cut) (take n cut) ps verdict each refl (torn_prefix (end_link h ps) cut n torn) is))

  pub rest_leaves : LeavesOnly h (IsGoodLogOf ps) (log_of h ps)
  rest_leaves = torn_leaves (IsGoodLogOf ps) [] (torn_empty (end_link h ps)) (λ verdict is. is)

  -- a log with a torn end that was sent to the device
  end_leaves : (torn : List ℕ) → IsTorn (end_link h ps) torn → LeavesOnly h (IsGoodLogOf ps) (log_at_rest (log_bytes h ps ++ torn))
  end_leaves torn is found verdict (tail, e, inl (n, part)) read =
      settles h found torn ps verdict each (e ∙ ap (λ (x : List ℕ). (log_bytes h ps ++ torn) ++ x) (part ∙ take_none n) ∙ append-nil (log_bytes h ps ++ torn)) is read
  end_leaves torn is found verdict (tail, e, inr left) read =
      let after = torn_after h (log_bytes h ps ++ torn) torn tail ps each refl is.first left in
      settles h found tail ps verdict each
      (e ∙ ap (λ (x : List ℕ). (log_bytes h ps ++ x) ++ tail) after.0 ∙ ap (λ (x : List ℕ). x ++ tail) (append-nil (log_bytes h ps))) after.1 read

-- a device by its three parts
abbrev device : List ℕ → List ℕ → List ℕ → LogDevice
device synced pending cut = record { synced = synced; pending = pending; cut = cut }

-- a log that was cut has what was after it as bytes that may still be there
cut_pending : (log pending : List ℕ) → truncated (length log) (device log pending []) ≡ device log [] pending
cut_pending log pending =
    ap (λ (x : List ℕ). device x (take (length log - length log) pending) (drop (length log) (log ++ pending) ++ [])) (take_all (length log) log (omega arith))
    ∙ ap (λ (n : ℕ). device log (take n pending) (drop (length log) (log ++ pending) ++ [])) (let e : length log - length log ≡ 0 = omega arith in e)
    ∙ ap (λ (x : List ℕ). device log [] x) (append-nil (drop (length log) (log ++ pending)) ∙ drop_at log pending (length log) refl)

cut_end : (log torn : List ℕ) → truncated (length log) (log_at_rest (log ++ torn)) ≡ device log [] torn
cut_end log torn =
    ap (λ (x : List ℕ). device x (take (length log - length (log ++ torn)) []) (drop (length log) ((log ++ torn) ++ []) ++ [])) (take_at log torn (length log) refl)
    ∙ ap (λ (x : List ℕ). device log x (drop (length log) ((log ++ torn) ++ []) ++ [])) (take_none (length log - length (log ++ torn)))
    ∙ ap (λ (x : List ℕ). device log [] x) (append-nil (drop (length log) ((log ++ torn) ++ [])) ∙ ap (drop (length log)) (append-nil (log ++ torn)) ∙ drop_at log torn (length log) refl)

after_sync : (log cut : List ℕ) → after_log_step (device log [] cut) Syncs ≡ log_at_rest log
after_sync log cut = ap (λ (x : List ℕ). log_at_rest x) (append-nil log)

module _ (h : LogHeader) (ps : List Published) (p : Published) (all : MayFollow h ps p) where
  each : AreNext h.version ps
  each = next_before h.version ps p all

  is : IsPublished p
  is = next_last h.version ps p all

  abbrev new : List ℕ
  new = log_entry (end_link h ps) (body_bytes p)

  abbrev P : Verdict → Type 0
  P = IsWithOrWithout ps p

  before : LeavesOnly h P (log_of h ps)
  before = torn_leaves h ps each P [] (torn_empty (end_link h ps)) (λ verdict read. inl read)

  -- a part of the new entry, or all of it
  parts : (n : ℕ) (verdict : Verdict) → IsLogVerdict h (log_bytes h ps ++ take n new) verdict → P verdict
  parts n verdict read = elim (cases_lt n (length new)) [
    | inl lt ↦ inl (settles h (log_bytes h ps ++ take n new) (take n new) ps verdict each refl (torn_start (end_link h ps) (body_bytes p) n is.len lt) read)
    | inr ge ↦ inr (settles h (log_bytes h ps ++ take n new) [] (ps ++ p ∷ []) verdict all
        (ap (λ (x : List ℕ). log_bytes h ps ++ x) (take_all n new ge) ∙ sym (log_push h ps p) ∙ sym (append-nil (log_bytes h (ps ++ p ∷ []))))
        (torn_empty (end_link h (ps ++ p ∷ []))) read)
  ]

  during : LeavesOnly h P (device (log_bytes h ps) new [])
  during = leaves h ps each P new [] (λ verdict read. inl read) (λ n verdict read.
      parts n verdict (subst (λ (x : List ℕ). IsLogVerdict h (log_bytes h ps ++ take n x) verdict) (append-nil new) read))

  after : LeavesOnly h P (log_at_rest (log_bytes h ps ++ new))
  after = subst (λ (x : List ℕ). LeavesOnly h P (log_at_rest x)) (log_push h ps p)
      (λ found verdict left read. inr (rest_leaves h (ps ++ p ∷ []) all found verdict left read))

  -- cut off, and not yet sent to the device
  gone : LeavesOnly h P (truncated (length (log_bytes h ps)) (device (log_bytes h ps) new []))
  gone = subst (LeavesOnly h P) (sym (cut_pending (log_bytes h ps) new)) (leaves h ps each P [] new (λ verdict read. inl read) parts)

  without : LeavesOnly h P (after_log_step (truncated (length (log_bytes h ps)) (device (log_bytes h ps) new [])) Syncs)
  without = subst (LeavesOnly h P) (sym (ap (λ (d : LogDevice). after_log_step d Syncs) (cut_pending (log_bytes h ps) new) ∙ after_sync (log_bytes h ps) new)) before

pub each_moment : EachMomentIsWhole
each_moment h ps p (Ok done) all = (before h ps p all, (during h ps p all, after h ps p all))
each_moment h ps p (Err appends.Memory) all = before h ps p all
each_moment h ps p (Err appends.Torn) all = before h ps p all
each_moment h ps p (Err appends.Full) all = before h ps p all
each_moment h ps p (Err appends.Write) all = (before h ps p all, during h ps p all)
each_moment h ps p (Err appends.Sync) all = (before h ps p all, (during h ps p all, during h ps p all))

pub done_kept : DoneIsKept
done_kept h ps p done = ap (λ (x : List ℕ). log_at_rest x) (sym (log_push h ps p))

pub read_at_rest : RestIsRead
read_at_rest h ps each = rest_leaves h ps each

-- the moments of a cut, whatever came before
cut_moments : (h : LogHeader) (ps : List Published) (p : Published) (result : Result ⊤ CutFault) (all : MayFollow h ps p) →
    HoldsAtEachStep (LeavesOnly h (IsWithOrWithout ps p)) (device (log_bytes h ps) (log_entry (end_link h ps) (body_bytes p)) []) (cutting h ps result)
cut_moments h ps p (Ok done) all = (during h ps p all, (gone h ps p all, without h ps p all))
cut_moments h ps p (Err cuts.Truncate) all = (during h ps p all, during h ps p all)
cut_moments h ps p (Err cuts.Sync) all = (during h ps p all, (gone h ps p all, gone h ps p all))

pub cut_whole : CutIsWhole
cut_whole h ps p failed result all (inl e) =
    subst (λ (r : Result ⊤ AppendFault). HoldsAtEachStep (LeavesOnly h (IsWithOrWithout ps p)) (after_log_steps (log_of h ps) (appending h ps p r)) (cutting h ps result)) (sym e) (cut_moments h ps p result all)
cut_whole h ps p failed result all (inr e) =
    subst (λ (r : Result ⊤ AppendFault). HoldsAtEachStep (LeavesOnly h (IsWithOrWithout ps p)) (after_log_steps (log_of h ps) (appending h ps p r)) (cutting h ps result)) (sym e) (cut_moments h ps p result all)

module _ (h : LogHeader) (ps : List Published) (torn : List ℕ) (each : AreNext h.version ps) (is : IsTorn (end_link h ps) torn) where
  end_gone : LeavesOnly h (IsGoodLogOf ps) (truncated (length (log_bytes h ps)) (log_at_rest (log_bytes h ps ++ torn)))
  end_gone = subst (LeavesOnly h (IsGoodLogOf ps)) (sym (cut_end (log_bytes h ps) torn)) (torn_leaves h ps each (IsGoodLogOf ps) torn is (λ verdict read. read))

  end_without : LeavesOnly h (IsGoodLogOf ps) (after_log_step (truncated (length (log_bytes h ps)) (log_at_rest (log_bytes h ps ++ torn))) Syncs)
  end_without = subst (LeavesOnly h (IsGoodLogOf ps)) (sym (ap (λ (d : LogDevice). after_log_step d Syncs) (cut_end (log_bytes h ps) torn) ∙ after_sync (log_bytes h ps) torn)) (rest_leaves h ps each)

pub recovery_whole : RecoveryIsWhole
recovery_whole h ps torn (Ok done) each is = (end_leaves h ps each torn is, (end_gone h ps torn each is, end_without h ps torn each is))
recovery_whole h ps torn (Err cuts.Truncate) each is = (end_leaves h ps each torn is, end_leaves h ps each torn is)
recovery_whole h ps torn (Err cuts.Sync) each is = (end_leaves h ps each torn is, (end_gone h ps torn each is, end_gone h ps torn each is))

module _ (h : LogHeader) (ps : List Published) (p : Published) (all : MayFollow h ps p) where
  abbrev taken : List ℕ
  taken = log_entry (end_link h ps) (body_bytes p)

  -- with the publication, all on the device
  there : LeavesOnly h (IsWithOrWithout ps p) (log_of h (ps ++ p ∷ []))
  there found verdict left read = inr (rest_leaves h (ps ++ p ∷ []) all found verdict left read)

  pushed : log_of h (ps ++ p ∷ []) ≡ log_at_rest (log_bytes h ps ++ taken)
  pushed = ap (λ (x : List ℕ). log_at_rest x) (log_push h ps p)

  taken_cut : truncated (length (log_bytes h ps)) (log_of h (ps ++ p ∷ [])) ≡ device (log_bytes h ps) [] taken
  taken_cut = ap (truncated (length (log_bytes h ps))) pushed ∙ cut_end (log_bytes h ps) taken

  taken_gone : LeavesOnly h (IsWithOrWithout ps p) (truncated (length (log_bytes h ps)) (log_of h (ps ++ p ∷ [])))
  taken_gone = subst (LeavesOnly h (IsWithOrWithout ps p)) (sym taken_cut)
      (leaves h ps (each h ps p all) (IsWithOrWithout ps p) [] taken (λ verdict read. inl read) (parts h ps p all))

  taken_without : LeavesOnly h (IsWithOrWithout ps p) (after_log_step (truncated (length (log_bytes h ps)) (log_of h (ps ++ p ∷ []))) Syncs)
  taken_without = subst (LeavesOnly h (IsWithOrWithout ps p))
      (sym (ap (λ (d : LogDevice). after_log_step d Syncs) taken_cut ∙ after_sync (log_bytes h ps) taken)) (before h ps p all)

pub taken_back_whole : TakenBackIsWhole
taken_back_whole h ps p (Ok done) all = (there h ps p all, (taken_gone h ps p all, taken_without h ps p all))
taken_back_whole h ps p (Err cuts.Truncate) all = (there h ps p all, there h ps p all)
taken_back_whole h ps p (Err cuts.Sync) all = (there h ps p all, (taken_gone h ps p all, taken_gone h ps p all))

pub taken_back_old : TakenBackIsOld
taken_back_old h ps p done =
    ap (λ (x : List ℕ). after_log_step (truncated (length (log_bytes h ps)) (log_at_rest x)) Syncs) (log_push h ps p)
    ∙ ap (λ (d : LogDevice). after_log_step d Syncs) (cut_end (log_bytes h ps) (log_entry (end_link h ps) (body_bytes p)))
    ∙ after_sync (log_bytes h ps) (log_entry (end_link h ps) (body_bytes p))
