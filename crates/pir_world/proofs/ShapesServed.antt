-- What the server makes of frames that differ in the words of queries alone.
use Rattle.std.proofs.Common.{◌≡◌, ℕ, List, [], ◌∷◌, ◌++◌, Bool, true, false, Option, Some, None, refl, sym, ap, subst, ◌∙◌, inl, inr}
use Rattle.std.specs.Prelude.{option_to_list, fold}
use Rattle.std.specs.List.{flat_map, AllByRecursion}
use Rattle.std.proofs.lemmas.Bool.{cases_Bool}
use Rattle.std.proofs.lemmas.List.Concat.{flat_map-append}
use Rattle.frame_codec.specs.declared.frame.Frame.{Frame}
use Rattle.frame_codec.specs.declared.frame.Frame.TheVariants.{Query, Answer}
use Rattle.version_store.specs.Histories.{History, current_version}
use Rattle.server_core.specs.declared.standing.Standing.{Standing}
use Rattle.server_core.specs.Serving.{Setting, AfterFrame, after_frame, takes_memory, is_closed}
use Rattle.server_core.specs.Laws.{AreAlikeReplies}
use Rattle.server_core.proofs.Alike.{replies_hold_no_index}
use Rattle.pir_world.specs.Runs.{FramesServed, LogEntry, Served, served_or, with_frame_served}
use Rattle.pir_world.specs.Shapes.{sights, HaveEqualSights, HadMemory}
use Rattle.pir_world.proofs.ShapesFrames.{IsFrameLike, same_frame, same_shape, AreFramesLike, like_append}

-- ---- logs

pub equal_append : (a b c d : List LogEntry) → HaveEqualSights a b → HaveEqualSights c d → HaveEqualSights (a ++ c) (b ++ d)
equal_append a b c d p q k =
    flat_map-append (sights k) a c
    ∙ ap (λ z. z ++ flat_map (sights k) c) (p k)
    ∙ ap (λ z. flat_map (sights k) b ++ z) (q k)
    ∙ sym (flat_map-append (sights k) b d)

pub all_first : {X : Type 0} (P : X → Type 0) (xs ys : List X) → AllByRecursion P (xs ++ ys) → AllByRecursion P xs
all_first P [] ys a = tt
all_first P (x ∷ xs) ys a = (a.0, all_first P xs ys a.1)

pub all_last : {X : Type 0} (P : X → Type 0) (xs ys : List X) → AllByRecursion P (xs ++ ys) → AllByRecursion P ys
all_last P [] ys a = a
all_last P (x ∷ xs) ys a = all_last P xs ys a.1

-- ---- one frame

abbrev pub IsReplyLike : Option Frame → Option Frame → Type 0
IsReplyLike None None = Unit {0}
IsReplyLike (Some r) (Some q) = IsFrameLike r q
IsReplyLike _ _ = ⊥

reply_itself : (r : Option Frame) → IsReplyLike r r
reply_itself None = tt
reply_itself (Some r) = same_frame r r refl

record IsOutcomeLike (o p : AfterFrame) : Type 0 where
  history : p.history ≡ o.history
  standing : p.standing ≡ o.standing
  reply : IsReplyLike o.reply p.reply

like_by : (o p o2 p2 : AfterFrame) → o ≡ o2 → p ≡ p2 → IsOutcomeLike o2 p2 → IsOutcomeLike o p
like_by o p o2 p2 e f q =
    subst (λ (y : AfterFrame). IsOutcomeLike y p) (sym e) (subst (λ (y : AfterFrame). IsOutcomeLike o2 y) (sym f) q)

outcome_itself : (o : AfterFrame) → IsOutcomeLike o o
outcome_itself o = record { history = refl; standing = refl; reply = reply_itself o.reply }

of_reply : (r q : Frame) → AreAlikeReplies r q → IsFrameLike r q
of_reply (Answer scheme version words) q e = e
of_reply (Query scheme version words) q e = (words, e, refl)
of_reply r q e = e

outcome_like : (x : Setting) (h : History) (st : Standing) (f g : Frame) → IsFrameLike f g
    → IsOutcomeLike (after_frame x h st f) (after_frame x h st g)
outcome_like x h st (Query scheme version words) g e =
    let a = replies_hold_no_index x h st scheme version words e.0 (sym e.2) in
    like_by _ _ _ _ a.first (ap (λ (y : Frame). after_frame x h st y) e.1 ∙ a.second)
    (record { history = refl; standing = refl; reply = of_reply a.reply a.reply2 a.alike })
outcome_like x h st (Answer scheme version words) g e =
    like_by _ _ _ _ refl (ap (λ (y : Frame). after_frame x h st y) e.1) (outcome_itself (after_frame x h st (Answer scheme version words)))
outcome_like x h st f g e =
    like_by _ _ _ _ refl (ap (λ (y : Frame). after_frame x h st y) e) (outcome_itself (after_frame x h st f))

-- ---- frames one after another

pub record IsTurnLike (t u : FramesServed) : Type 0 where
  pub history : u.history ≡ t.history
  pub standing : u.standing ≡ t.standing
  pub replies : AreFramesLike t.replies u.replies
  pub log : HaveEqualSights t.log u.log

replies_listed : (o p : Option Frame) → IsReplyLike o p → AreFramesLike (option_to_list o) (option_to_list p)
replies_listed None None e = tt
replies_listed (Some r) (Some q) e = (e, tt)
replies_listed None (Some q) e = absurd e
replies_listed (Some r) None e = absurd e

served_equal : (k : ℕ) (f g : Frame) (now : ℕ) (o p : Option Frame) → IsReplyLike o p → HaveEqualSights (Served k f now o ∷ []) (Served k g now p ∷ [])
served_equal k f g now None None e = λ j. refl
served_equal k f g now (Some r) (Some q) e = λ j. rw (same_shape r q e) refl
served_equal k f g now None (Some q) e = absurd e
served_equal k f g now (Some r) None e = absurd e

module _ (x : Setting) (k : ℕ) where
  turn_like_at : (h : History) (st : Standing) (rs qs : List Frame) (log log2 : List LogEntry) (f g : Frame)
      → AreFramesLike rs qs → HaveEqualSights log log2 → IsFrameLike f g
      → IsTurnLike (with_frame_served x false k (record { history = h; standing = st; replies = rs; log = log }) f)
      (with_frame_served x false k (record { history = h; standing = st; replies = qs; log = log2 }) g)
  turn_like_at h st rs qs log log2 f g a b e = elim (cases_Bool (is_closed st)) [
    | inl c ↦ rw c (record { history = refl; standing = refl; replies = a; log = b })
    | inr c ↦
        let o = outcome_like x h st f g e in
        rw c (record {
          history = o.history;
          standing = o.standing;
          replies = like_append rs qs _ _ a (replies_listed _ _ o.reply);
          log = equal_append log log2 _ _ b (served_equal k f g (current_version h) _ _ o.reply);
        })
  ]

  turn_like : (t u : FramesServed) (f g : Frame) → IsTurnLike t u → IsFrameLike f g → IsTurnLike (with_frame_served x false k t f) (with_frame_served x false k u g)
  turn_like t u f g a e =
      let P : History → Standing → Type 0 = λ h st. IsTurnLike (with_frame_served x false k t f)
      (with_frame_served x false k (record { history = h; standing = st; replies = u.replies; log = u.log }) g) in
      subst (λ (h : History). P h u.standing) (sym a.history) (subst (λ (st : Standing). P t.history st) (sym a.standing)
      (turn_like_at t.history t.standing t.replies u.replies t.log u.log f g a.replies a.log e))

  pub turns_like : (t u : FramesServed) (fs gs : List Frame) → IsTurnLike t u → AreFramesLike fs gs → IsTurnLike (fold (with_frame_served x false k) t fs) (fold (with_frame_served x false k) u gs)
  turns_like t u [] [] a e = a
  turns_like t u (f ∷ fs) (g ∷ gs) a e = turns_like (with_frame_served x false k t f) (with_frame_served x false k u g) fs gs (turn_like t u f g a e.0) e.1
  turns_like t u [] (g ∷ gs) a e = absurd e
  turns_like t u (f ∷ fs) [] a e = absurd e

  -- ---- where the server is out of memory and yet refuses nobody for it

  more_kept : (P : LogEntry → Type 0) (short : Bool) (t : FramesServed) (f : Frame) → AllByRecursion P (with_frame_served x short k t f).log → AllByRecursion P t.log
  more_kept P short t f a = elim (cases_Bool (is_closed t.standing)) [
    | inl c ↦ rw c at a
    | inr c ↦ let b = rw c at a in all_first P t.log _ b
  ]

  turns_kept : (P : LogEntry → Type 0) (short : Bool) (t : FramesServed) (fs : List Frame) → AllByRecursion P (fold (with_frame_served x short k) t fs).log → AllByRecursion P t.log
  turns_kept P short t [] a = a
  turns_kept P short t (f ∷ fs) a = more_kept P short t f (turns_kept P short (with_frame_served x short k t f) fs a)

  served_same : (h : History) (st : Standing) (f : Frame) → HadMemory (Served k f (current_version h) (served_or true x h st f).reply)
      → served_or true x h st f ≡ served_or false x h st f
  served_same h st f ne = elim (cases_Bool (takes_memory x h st f)) [
    | inl c ↦ absurd ((rw c at ne) refl)
    | inr c ↦ rw c refl
  ]

  more_same : (t : FramesServed) (f : Frame) → AllByRecursion HadMemory (with_frame_served x true k t f).log → with_frame_served x true k t f ≡ with_frame_served x false k t f
  more_same t f a = elim (cases_Bool (is_closed t.standing)) [
    | inl c ↦ rw c refl
    | inr c ↦
        let b = rw c at a in
        let e = served_same t.history t.standing f (all_last HadMemory t.log _ b).0 in
        let turned : AfterFrame → FramesServed = λ o. record {
          history = o.history;
          standing = o.standing;
          replies = t.replies ++ option_to_list o.reply;
          log = t.log ++ Served k f (current_version t.history) o.reply ∷ [];
        } in
        rw c (ap turned e)
  ]

  pub turns_same : (t : FramesServed) (fs : List Frame) → AllByRecursion HadMemory (fold (with_frame_served x true k) t fs).log → fold (with_frame_served x true k) t fs ≡ fold (with_frame_served x false k) t fs
  turns_same t [] a = refl
  turns_same t (f ∷ fs) a =
      turns_same (with_frame_served x true k t f) fs a
      ∙ ap (λ (u : FramesServed). fold (with_frame_served x false k) u fs) (more_same t f (turns_kept HadMemory true (with_frame_served x true k t f) fs a))
