-- What orders that are done make of a history: what the publications of a log make of it.
use Rattle.std.proofs.Common.{◌≡◌, ℕ, ◌+◌, ap, ◌∙◌, sym, refl, subst, arith, List, [], ◌∷◌, ◌++◌, length, Bool, true, false, cond}
use Rattle.std.specs.Prelude.{nat_lt}
use Rattle.std.proofs.lemmas.List.{length-set, length-append}
use Rattle.publication_log.specs.Publications.{Placed, Published}
use Rattle.publication_log.specs.Logs.{AreNext}
use Rattle.version_store.specs.Histories.{History, StoreChange, Edited, Appended, current_version, history_after, published}
use Rattle.log_replay.specs.Replays.{count_after, edit_or_append, edits_and_appends, history_replayed, history_replayed_all}
use Rattle.log_replay.specs.Replays.{count_after_all}
use Rattle.publication_push.specs.Orders.{Ordered, Edits, Appends, Publishes, done_version, change_order, change_orders, orders_of}
use Rattle.publication_push.specs.Laws.{done_versions, PushedIsReplayed, DonesNameTheLog, PushesAddUp, SessionIsReplayed}
use Rattle.publication_push.proofs.Served.{after_order, after_orders, named_version, named_versions, all_served, session_served}

-- ---- a change

-- the history after a change of so many records
abbrev changed : ℕ → Placed → History → History
changed count c h = after_order (change_order count c) h

count_changed : (h : History) (c : Placed) → length (changed (length h.draft) c h).draft ≡ count_after (length h.draft) c
count_changed h c = by_place (nat_lt c.place (length h.draft))
  where
    by_place : (b : Bool) → length (after_order (cond b (Edits c.place c.bytes) (Appends c.bytes)) h).draft ≡ cond b (length h.draft) (length h.draft + 1)
    by_place true = length-set h.draft c.place c.bytes
    by_place false = length-append h.draft (c.bytes ∷ [])

history_changed : (count : ℕ) (c : Placed) (more : List StoreChange) (h : History) →
    history_after (edit_or_append count c ∷ more) h ≡ history_after more (changed count c h)
history_changed count c more h = by_place (nat_lt c.place count)
  where
    by_place : (b : Bool) → history_after (cond b (Edited c.place c.bytes) (Appended c.bytes) ∷ more) h
        ≡ history_after more (after_order (cond b (Edits c.place c.bytes) (Appends c.bytes)) h)
    by_place true = refl
    by_place false = refl

version_changed : (count : ℕ) (c : Placed) (h : History) → current_version (changed count c h) ≡ current_version h
version_changed count c h = by_place (nat_lt c.place count)
  where
    by_place : (b : Bool) → current_version (after_order (cond b (Edits c.place c.bytes) (Appends c.bytes)) h) ≡ current_version h
    by_place true = refl
    by_place false = refl

named_changed : (count : ℕ) (c : Placed) (h : History) → named_version h (change_order count c) ≡ current_version h
named_changed count c h = by_place (nat_lt c.place count)
  where
    by_place : (b : Bool) → named_version h (cond b (Edits c.place c.bytes) (Appends c.bytes)) ≡ current_version h
    by_place true = refl
    by_place false = refl

awaited_changed : (count before : ℕ) (c : Placed) → done_version before (change_order count c) ≡ before
awaited_changed count before c = by_place (nat_lt c.place count)
  where
    by_place : (b : Bool) → done_version before (cond b (Edits c.place c.bytes) (Appends c.bytes)) ≡ before
    by_place true = refl
    by_place false = refl

-- ---- the changes of a publication

-- the history after them
abbrev all_changed : List Placed → History → History
all_changed cs h = history_after (edits_and_appends (length h.draft) cs) h

one_more : (c : Placed) (cs : List Placed) (h : History) → all_changed (c ∷ cs) h ≡ all_changed cs (changed (length h.draft) c h)
one_more c cs h =
    let next : History = changed (length h.draft) c h in
    history_changed (length h.draft) c (edits_and_appends (count_after (length h.draft) c) cs) h
    ∙ ap (λ (n : ℕ). history_after (edits_and_appends n cs) next) (sym (count_changed h c))

after_changes : (cs : List Placed) (tail : List Ordered) (h : History) →
    after_orders (change_orders (length h.draft) cs ++ tail) h ≡ after_orders tail (all_changed cs h)
after_changes [] tail h = refl
after_changes (c ∷ cs) tail h =
    let next : History = changed (length h.draft) c h in
    ap (λ (n : ℕ). after_orders (change_orders n cs ++ tail) next) (sym (count_changed h c))
    ∙ after_changes cs tail next
    ∙ ap (after_orders tail) (sym (one_more c cs h))

count_of_all : (cs : List Placed) (h : History) → length (all_changed cs h).draft ≡ count_after_all (length h.draft) cs
count_of_all [] h = refl
count_of_all (c ∷ cs) h =
    ap (λ (k : History). length k.draft) (one_more c cs h)
    ∙ count_of_all cs (changed (length h.draft) c h)
    ∙ ap (λ (n : ℕ). count_after_all n cs) (count_changed h c)

version_of_all : (cs : List Placed) (h : History) → current_version (all_changed cs h) ≡ current_version h
version_of_all [] h = refl
version_of_all (c ∷ cs) h =
    ap current_version (one_more c cs h)
    ∙ version_of_all cs (changed (length h.draft) c h)
    ∙ version_changed (length h.draft) c h

-- ---- publications

version_published : (h : History) → current_version (published h) ≡ current_version h + 1
version_published h = let e : h.first + length (h.current ∷ h.past) ≡ h.first + length h.past + 1 = omega arith in e

after_all : (ps : List Published) (h : History) → after_orders (orders_of (length h.draft) ps) h ≡ history_replayed_all ps h
after_all [] h = refl
after_all (p ∷ ps) h =
    let last : History = all_changed p.changes h in
    after_changes p.changes (Publishes p.version ∷ orders_of (count_after_all (length h.draft) p.changes) ps) h
    ∙ ap (λ (n : ℕ). after_orders (orders_of n ps) (published last)) (sym (count_of_all p.changes h))
    ∙ after_all ps (published last)

version_after : (ps : List Published) (h : History) → current_version (history_replayed_all ps h) ≡ current_version h + length ps
version_after [] h = let e : current_version h ≡ current_version h + 0 = omega arith in e
version_after (p ∷ ps) h =
    let last : History = all_changed p.changes h in
    let rest = version_after ps (published last) in
    let one = version_published last in
    let same = version_of_all p.changes h in
    omega (arith, rest, one, same)

-- ---- the versions that are named

named_after_changes : (cs : List Placed) (count : ℕ) (tail : List Ordered) (h : History) →
    ((last : History) → current_version last ≡ current_version h → named_versions tail last ≡ done_versions (current_version h) tail) →
    named_versions (change_orders count cs ++ tail) h ≡ done_versions (current_version h) (change_orders count cs ++ tail)
named_after_changes [] count tail h rest = rest h refl
named_after_changes (c ∷ cs) count tail h rest =
    let next : History = changed count c h in
    let os : List Ordered = change_orders (count_after count c) cs ++ tail in
    let same = version_changed count c h in
    let later : named_versions os next ≡ done_versions (current_version next) os = named_after_changes cs (count_after count c) tail next
    (λ last e. rest last (e ∙ same) ∙ ap (λ (v : ℕ). done_versions v tail) (sym same)) in
    ap (λ (v : ℕ). v ∷ named_versions os next) (named_changed count c h)
    ∙ ap (λ (vs : List ℕ). current_version h ∷ vs) (later ∙ ap (λ (v : ℕ). done_versions v os) same)
    ∙ ap (λ (v : ℕ). v ∷ done_versions v os) (sym (awaited_changed count (current_version h) c))

named_all : (ps : List Published) (count : ℕ) (h : History) → AreNext (current_version h) ps →
    named_versions (orders_of count ps) h ≡ done_versions (current_version h) (orders_of count ps)
named_all [] count h each = refl
named_all (p ∷ ps) count h each =
    let os : List Ordered = orders_of (count_after_all count p.changes) ps in
    named_after_changes p.changes count (Publishes p.version ∷ os) h
    (λ last e.
    let next : current_version (published last) ≡ p.version = version_published last ∙ ap (λ (n : ℕ). n + 1) e ∙ sym each.1 in
    let others : AreNext (current_version (published last)) ps = subst (λ (v : ℕ). AreNext v ps) (ap (λ (n : ℕ). n + 1) (sym e) ∙ sym (version_published last)) each.2 in
    ap (λ (v : ℕ). v ∷ named_versions os (published last)) (sym (version_published last) ∙ next)
    ∙ ap (λ (vs : List ℕ). p.version ∷ vs)
    (named_all ps (count_after_all count p.changes) (published last) others ∙ ap (λ (v : ℕ). done_versions v os) next))

-- ---- the laws

abbrev drafted : (h : History) → h.draft ≡ h.current → length h.current ≡ length h.draft
drafted h none = ap (λ (rs : List (List ℕ)). length rs) (sym none)

pub pushed_is_replayed : PushedIsReplayed
pushed_is_replayed x h ps versions new standing is =
    let served = all_served x (orders_of (length h.current) ps) h new standing versions is.served in
    let history : new ≡ history_replayed_all ps h =
    served.history ∙ ap (λ (n : ℕ). after_orders (orders_of n ps) h) (drafted h is.undrafted) ∙ after_all ps h in
    record {
      history = history;
      version = ap current_version history ∙ version_after ps h;
      goes_on = served.standing_is;
    }

pub dones_name_the_log : DonesNameTheLog
dones_name_the_log x h ps versions new standing each is =
    (all_served x (orders_of (length h.current) ps) h new standing versions is.served).named ∙ named_all ps (length h.current) h each

replayed_on : (earlier later : List Published) (h : History) → history_replayed_all later (history_replayed_all earlier h) ≡ history_replayed_all (earlier ++ later) h
replayed_on [] later h = refl
replayed_on (p ∷ earlier) later h = replayed_on earlier later (history_replayed p h)

pub pushes_add_up : PushesAddUp
pushes_add_up x h earlier later versions new standing is =
    (pushed_is_replayed x (history_replayed_all earlier h) later versions new standing is).history ∙ replayed_on earlier later h

pub session_is_replayed : SessionIsReplayed
session_is_replayed x h ps versions new standing is =
    session_served x (orders_of (length h.current) ps) h new standing versions is.profile is.key is.answer is.served
    ∙ ap (λ (n : ℕ). after_orders (orders_of n ps) h) (drafted h is.undrafted)
    ∙ after_all ps h
