-- Orders that are served, and of which each reply is a Done.
use Rattle.std.proofs.Common.{◌≡◌, ℕ, ◌+◌, ap, ◌∙◌, sym, refl, subst, inl, inr, List, [], ◌∷◌, ◌++◌, length, map, Bool, true, false, cond, Option}
use Rattle.std.specs.Prelude.{nat_lt, Some, option_to_list}
use Rattle.frame_codec.specs.declared.frame.Frame.{Frame}
use Rattle.frame_codec.specs.declared.frame.Frame.TheVariants.{Hello, Done, Refused}
use Rattle.frame_codec.specs.declared.refusal.Refusal.{Refusal}
use Rattle.frame_codec.specs.declared.refusal.Refusal.TheVariants.{BadIndex, BadLength, Full, NothingToPublish, VersionsUsedUp, Memory, NotWelcome, NotPublisher, BadKey, BadProfile}
use Rattle.frame_codec.specs.Refusals.{code_of}
use Rattle.version_store.specs.Histories.{History, current_version, after_edit, after_append, published}
use Rattle.server_core.specs.declared.standing.Standing.{Standing}
use Rattle.server_core.specs.declared.standing.Standing.TheVariants.{Stranger, Reader, Publisher, Closed}
use Rattle.server_core.specs.Serving.{Setting, AfterFrame, refusal_given, welcome_given, is_closed, may_lack_memory, is_reader_key, is_publisher_key, IsAfterFrame, ServesAll}
use Rattle.publication_push.specs.Orders.{Ordered, Edits, Appends, Publishes, ordered_frame}
use Rattle.publication_push.specs.Laws.{dones}

-- the history after an order that is done
abbrev pub after_order : Ordered → History → History
after_order (Edits place bytes) h = after_edit place bytes h
after_order (Appends bytes) h = after_append bytes h
after_order (Publishes version) h = published h

-- the version that the Done to it names
abbrev pub named_version : History → Ordered → ℕ
named_version h (Publishes version) = current_version h + 1
named_version h _ = current_version h

-- the history after orders that are done
abbrev pub after_orders : List Ordered → History → History
after_orders [] h = h
after_orders (o ∷ os) h = after_orders os (after_order o h)

-- the versions that the Dones to them name
abbrev pub named_versions : List Ordered → History → List ℕ
named_versions [] h = []
named_versions (o ∷ os) h = named_version h o ∷ named_versions os (after_order o h)

-- ---- replies of which each is a Done

no_refusal : (code : ℕ) (versions : List ℕ) (others : List Frame) → dones versions ≡ Refused code ∷ others → ⊥
no_refusal code [] others e = cc
no_refusal code (v ∷ versions) others e = cc

-- the first of them, and the others
record FirstDone (n : ℕ) (versions : List ℕ) (others : List Frame) : Type 0 where
  later : List ℕ
  all : versions ≡ n ∷ later
  others_are : others ≡ dones later

first_done : (n : ℕ) (versions : List ℕ) (others : List Frame) → dones versions ≡ Done n ∷ others → FirstDone n versions others
first_done n [] others e = absurd (let no : ⊥ = cc in no)
first_done n (v ∷ versions) others e = record { later = versions; all = cc; others_are = cc }

-- ---- an order

-- what a frame leads to that is done
abbrev done : History → ℕ → AfterFrame
done h n = record { reply = Some (Done n); standing = Publisher; history = h }

-- an outcome whose reply is one of these, and then others
abbrev Replies : AfterFrame → List ℕ → List Frame → Type 0
Replies o versions others = dones versions ≡ option_to_list o.reply ++ others

passed : (b : Bool) (good : AfterFrame) (why : Refusal) (h : History) (o : AfterFrame) (versions : List ℕ) (others : List Frame) →
    o ≡ cond b good (refusal_given why Publisher h) → Replies o versions others → o ≡ good
passed true good why h o versions others e replies = e
passed false good why h o versions others e replies =
    absurd (no_refusal (code_of why) versions others (replies ∙ ap (λ (p : AfterFrame). option_to_list p.reply ++ others) e))

not_stopped : (b : Bool) (good : AfterFrame) (why : Refusal) (h : History) (o : AfterFrame) (versions : List ℕ) (others : List Frame) →
    o ≡ cond b (refusal_given why Publisher h) good → Replies o versions others → o ≡ good
not_stopped false good why h o versions others e replies = e
not_stopped true good why h o versions others e replies =
    absurd (no_refusal (code_of why) versions others (replies ∙ ap (λ (p : AfterFrame). option_to_list p.reply ++ others) e))

done_for : (x : Setting) (h : History) (order : Ordered) (o : AfterFrame) (versions : List ℕ) (others : List Frame) →
    IsAfterFrame x h Publisher (ordered_frame order) o → Replies o versions others → o ≡ done (after_order order h) (named_version h order)
done_for x h order o versions others (inr (takes, e)) replies =
    absurd (no_refusal (code_of Memory) versions others (replies ∙ ap (λ (p : AfterFrame). option_to_list p.reply ++ others) e))
done_for x h (Edits place bytes) o versions others (inl e) replies =
    let good : AfterFrame = done (after_edit place bytes h) (current_version h) in
    passed _ good BadLength h o versions others
    (passed (nat_lt place (length h.draft)) (cond _ good (refusal_given BadLength Publisher h)) BadIndex h o versions others e replies) replies
done_for x h (Appends bytes) o versions others (inl e) replies =
    let good : AfterFrame = done (after_append bytes h) (current_version h) in
    passed _ good Full h o versions others (passed _ (cond _ good (refusal_given Full Publisher h)) BadLength h o versions others e replies) replies
done_for x h (Publishes version) o versions others (inl e) replies =
    let good : AfterFrame = done (published h) (current_version h + 1) in
    not_stopped _ good VersionsUsedUp h o versions others
    (passed h.marked (cond _ (refusal_given VersionsUsedUp Publisher h) good) NothingToPublish h o versions others e replies) replies

-- ---- orders

-- orders were served, and each was done
pub record AreServed (os : List Ordered) (h new : History) (standing : Standing) (versions : List ℕ) : Type 0 where
  pub history : new ≡ after_orders os h
  pub standing_is : standing ≡ Publisher
  pub named : versions ≡ named_versions os h

no_versions : (versions : List ℕ) → dones versions ≡ [] → versions ≡ []
no_versions [] e = refl
no_versions (v ∷ versions) e = absurd (let no : ⊥ = cc in no)

pub all_served : (x : Setting) (os : List Ordered) (h new : History) (standing : Standing) (versions : List ℕ) →
    ServesAll x h Publisher (map ordered_frame os) new standing (dones versions) → AreServed os h new standing versions
all_served x [] h new standing versions (same, still, none) = record { history = same; standing_is = still; named = no_versions versions none }
all_served x (order ∷ os) h new standing versions (o, others, is, replies, rest) =
    let good = done_for x h order o versions others is replies in
    let n : ℕ = named_version h order in
    let first = first_done n versions others (replies ∙ ap (λ (p : AfterFrame). option_to_list p.reply ++ others) good) in
    let P : AfterFrame → Type 0 = λ p. ServesAll x p.history p.standing (map ordered_frame os) new standing others in
    let Q : List Frame → Type 0 = λ fs. ServesAll x (after_order order h) Publisher (map ordered_frame os) new standing fs in
    let later = all_served x os (after_order order h) new standing first.later (subst Q first.others_are (subst P good rest)) in
    record {
      history = later.history;
      standing_is = later.standing_is;
      named = first.all ∙ ap (λ (vs : List ℕ). n ∷ vs) later.named;
    }

-- ---- a whole session

-- no order is done for a stranger
strange : (x : Setting) (h : History) (order : Ordered) (o : AfterFrame) → IsAfterFrame x h Stranger (ordered_frame order) o → o ≡ refusal_given NotWelcome Stranger h
strange x h (Edits place bytes) o (inl e) = e
strange x h (Appends bytes) o (inl e) = e
strange x h (Publishes version) o (inl e) = e
strange x h (Edits place bytes) o (inr (takes, e)) = absurd (let no : ⊥ = cc in no)
strange x h (Appends bytes) o (inr (takes, e)) = absurd (let no : ⊥ = cc in no)
strange x h (Publishes version) o (inr (takes, e)) = absurd (let no : ⊥ = cc in no)

-- nor for a reader
read_only : (x : Setting) (h : History) (order : Ordered) (o : AfterFrame) → IsAfterFrame x h Reader (ordered_frame order) o → o ≡ refusal_given NotPublisher Reader h
read_only x h (Edits place bytes) o (inl e) = e
read_only x h (Appends bytes) o (inl e) = e
read_only x h (Publishes version) o (inl e) = e
read_only x h (Edits place bytes) o (inr (takes, e)) = absurd (let no : ⊥ = cc in no)
read_only x h (Appends bytes) o (inr (takes, e)) = absurd (let no : ⊥ = cc in no)
read_only x h (Publishes version) o (inr (takes, e)) = absurd (let no : ⊥ = cc in no)

-- orders that are served in a session at any stage, and of which each reply is a Done, are done
served_in : (x : Setting) (os : List Ordered) (h new : History) (old standing : Standing) (versions : List ℕ) → is_closed old ≡ false →
    ServesAll x h old (map ordered_frame os) new standing (dones versions) → new ≡ after_orders os h
served_in x os h new Closed standing versions open_is served = absurd (let no : ⊥ = cc in no)
served_in x os h new Publisher standing versions open_is served = (all_served x os h new standing versions served).history
served_in x [] h new Stranger standing versions open_is (same, still, none) = same
served_in x [] h new Reader standing versions open_is (same, still, none) = same
served_in x (order ∷ os) h new Stranger standing versions open_is (o, others, is, replies, rest) =
    absurd (no_refusal (code_of NotWelcome) versions others (replies ∙ ap (λ (p : AfterFrame). option_to_list p.reply ++ others) (strange x h order o is)))
served_in x (order ∷ os) h new Reader standing versions open_is (o, others, is, replies, rest) =
    absurd (no_refusal (code_of NotPublisher) versions others (replies ∙ ap (λ (p : AfterFrame). option_to_list p.reply ++ others) (read_only x h order o is)))

-- a greeting is answered by one frame, and neither closes the session nor changes the history
record IsGreeted (h : History) (o : AfterFrame) : Type 0 where
  answer : Frame
  reply : o.reply ≡ Some answer
  still_open : is_closed o.standing ≡ false
  history : o.history ≡ h

greeted : (x : Setting) (h : History) (profile : ℕ) (key : List ℕ) (o : AfterFrame) → IsAfterFrame x h Stranger (Hello profile key) o → IsGreeted h o
greeted x h profile key o (inr (takes, e)) =
    absurd (let no : true ≡ false = sym takes ∙ ungranted _ (is_reader_key key) (is_publisher_key x key) in cc)
  where
    ungranted : (a b c : Bool) →
        may_lack_memory (cond a (cond b (welcome_given x Reader h) (cond c (welcome_given x Publisher h) (refusal_given BadKey Stranger h))) (refusal_given BadProfile Stranger h)).reply
        ≡ false
    ungranted false b c = refl
    ungranted true true c = refl
    ungranted true false true = refl
    ungranted true false false = refl
greeted x h profile key o (inl e) =
    subst (IsGreeted h) (sym e) (by_checks _ (is_reader_key key) (is_publisher_key x key))
  where
    by_checks : (a b c : Bool) → IsGreeted h (cond a (cond b (welcome_given x Reader h) (cond c (welcome_given x Publisher h) (refusal_given BadKey Stranger h))) (refusal_given BadProfile Stranger h))
    by_checks false b c = record { answer = Refused (code_of BadProfile); reply = refl; still_open = refl; history = refl }
    by_checks true true c = record { answer = _; reply = refl; still_open = refl; history = refl }
    by_checks true false true = record { answer = _; reply = refl; still_open = refl; history = refl }
    by_checks true false false = record { answer = Refused (code_of BadKey); reply = refl; still_open = refl; history = refl }

pub session_served : (x : Setting) (os : List Ordered) (h new : History) (standing : Standing) (versions : List ℕ) (profile : ℕ) (key : List ℕ) (answer : Frame) →
    ServesAll x h Stranger (Hello profile key ∷ map ordered_frame os) new standing (answer ∷ dones versions) → new ≡ after_orders os h
session_served x os h new standing versions profile key answer (o, others, is, replies, rest) =
    let it = greeted x h profile key o is in
    let later : dones versions ≡ others = tail_of (replies ∙ ap (λ (r : Option Frame). option_to_list r ++ others) it.reply) in
    let P : List Frame → Type 0 = λ fs. ServesAll x o.history o.standing (map ordered_frame os) new standing fs in
    served_in x os o.history new o.standing standing versions it.still_open (subst P (sym later) rest) ∙ ap (after_orders os) it.history
  where
    tail_of : {f g : Frame} {fs gs : List Frame} → f ∷ fs ≡ g ∷ gs → fs ≡ gs
    tail_of e = cc
