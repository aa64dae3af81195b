-- Frames served one after another.
use Rattle.std.proofs.Common.{◌≡◌, ℕ, ◌+◌, ◌<◌, true, false, List, [], ◌∷◌, ◌++◌, length, Some, None, Option, take, get_or, refl, sym, ap, subst, ◌∙◌, append_assoc, inl, inr, Result, Ok, Err}
use Rattle.std.specs.Prelude.{option_to_list, OnErr}
use Rattle.std.specs.List.{flat_map, AllByRecursion}
use Rattle.std.proofs.lemmas.List.{append-nil, take_more}
use Rattle.std.proofs.lemmas.List.Concat.{flat_map-cons, flat_map-append}
use Rattle.frame_codec.specs.declared.refusal.Refusal.TheVariants as refusal
use Rattle.frame_codec.specs.declared.frame.Frame.{Frame}
use Rattle.frame_codec.specs.declared.frame.Frame.TheVariants.{Publish}
use Rattle.frame_codec.specs.Frames.{IsFrame, encoding}
use Rattle.version_store.specs.Histories.{StoreState, History, StandsFor}
use Rattle.server_core.specs.declared.standing.Standing.{Standing}
use Rattle.server_core.specs.declared.standing.Standing.TheVariants.{Stranger, Reader, Publisher, Closed}
use Rattle.server_core.specs.Serving.{Setting, setting_of, AfterFrame, IsAfterFrame, ServesAll, ServedAll, Serves, HasAfterFrame, after_frame, refusal_given, is_closed, reply_bytes, FitsReply}

-- a closed session is not open
pub not_both : {P : Type 0} (st : Standing) → is_closed st ≡ true → is_closed st ≡ false → P
not_both st shut open_ = absurd (let bad : true ≡ false = sym shut ∙ open_ in cc)

-- one more frame
serves_more : (x : Setting) (h : History) (st : Standing) (fs : List Frame) (h2 : History) (st2 : Standing) (rs : List Frame) (f : Frame) (o : AfterFrame) →
    ServesAll x h st fs h2 st2 rs → is_closed st2 ≡ false → IsAfterFrame x h2 st2 f o
    → ServesAll x h st (fs ++ f ∷ []) o.history o.standing (rs ++ option_to_list o.reply)
serves_more x h st [] h2 st2 rs f o s open_ one =
    opens x h st h2 st2 rs f o s open_ one (sym (ap is_closed s.1) ∙ open_)
  where
    opens : (x : Setting) (h : History) (st : Standing) (h2 : History) (st2 : Standing) (rs : List Frame) (f : Frame) (o : AfterFrame) → (h2 ≡ h) × (st2 ≡ st)
        × (rs ≡ []) → is_closed st2 ≡ false → IsAfterFrame x h2 st2 f o → is_closed st ≡ false
        → ServesAll x h st (f ∷ []) o.history o.standing (rs ++ option_to_list o.reply)
    opens x h Closed h2 st2 rs f o s open_ one e = absurd (let bad : true ≡ false = e in cc)
    opens x h Stranger h2 st2 rs f o s open_ one e = (o, [], rw (← s.0, ← s.1) one, rw s.2 (sym (append-nil (option_to_list o.reply))), (refl, refl, refl))
    opens x h Reader h2 st2 rs f o s open_ one e = (o, [], rw (← s.0, ← s.1) one, rw s.2 (sym (append-nil (option_to_list o.reply))), (refl, refl, refl))
    opens x h Publisher h2 st2 rs f o s open_ one e = (o, [], rw (← s.0, ← s.1) one, rw s.2 (sym (append-nil (option_to_list o.reply))), (refl, refl, refl))
serves_more x h Closed (g ∷ fs) h2 st2 rs f o s open_ one = not_both st2 (ap is_closed s.1) open_
serves_more x h Stranger (g ∷ fs) h2 st2 rs f o s open_ one = (
  s.0,
  s.1 ++ option_to_list o.reply,
  s.2,
  rw s.3 (append_assoc (option_to_list s.0.reply) s.1 (option_to_list o.reply)),
  serves_more x s.0.history s.0.standing fs h2 st2 s.1 f o s.4 open_ one,
)
serves_more x h Reader (g ∷ fs) h2 st2 rs f o s open_ one = (
  s.0,
  s.1 ++ option_to_list o.reply,
  s.2,
  rw s.3 (append_assoc (option_to_list s.0.reply) s.1 (option_to_list o.reply)),
  serves_more x s.0.history s.0.standing fs h2 st2 s.1 f o s.4 open_ one,
)
serves_more x h Publisher (g ∷ fs) h2 st2 rs f o s open_ one = (
  s.0,
  s.1 ++ option_to_list o.reply,
  s.2,
  rw s.3 (append_assoc (option_to_list s.0.reply) s.1 (option_to_list o.reply)),
  serves_more x s.0.history s.0.standing fs h2 st2 s.1 f o s.4 open_ one,
)

-- a frame that is dropped
drops_more : (x : Setting) (h : History) (st : Standing) (fs : List Frame) (h2 : History) (st2 : Standing) (rs : List Frame) (f : Frame) →
    ServesAll x h st fs h2 st2 rs → is_closed st2 ≡ true → ServesAll x h st (fs ++ f ∷ []) h2 st2 rs
drops_more x h Closed [] h2 st2 rs f s shut = s
drops_more x h Closed (g ∷ fs) h2 st2 rs f s shut = s
drops_more x h Stranger [] h2 st2 rs f s shut = not_both st2 shut (ap is_closed s.1)
drops_more x h Reader [] h2 st2 rs f s shut = not_both st2 shut (ap is_closed s.1)
drops_more x h Publisher [] h2 st2 rs f s shut = not_both st2 shut (ap is_closed s.1)
drops_more x h Stranger (g ∷ fs) h2 st2 rs f s shut = (s.0, s.1, s.2, s.3, drops_more x s.0.history s.0.standing fs h2 st2 s.1 f s.4 shut)
drops_more x h Reader (g ∷ fs) h2 st2 rs f s shut = (s.0, s.1, s.2, s.3, drops_more x s.0.history s.0.standing fs h2 st2 s.1 f s.4 shut)
drops_more x h Publisher (g ∷ fs) h2 st2 rs f s shut = (s.0, s.1, s.2, s.3, drops_more x s.0.history s.0.standing fs h2 st2 s.1 f s.4 shut)

-- what a call on a store says of the history
outcome_of : (x : Setting) (h : History) (st : Standing) (f : Frame) (store : StoreState) (st2 : Standing) (before after : List ℕ) →
    Serves x h st f store st2 before after
    → (o : AfterFrame) × IsAfterFrame x h st f o × HasAfterFrame x o store st2 before after
outcome_of x h st f store st2 before after (inl s) = (after_frame x h st f, inl refl, s)
outcome_of x h st f store st2 before after (inr s) = (refusal_given refusal.Memory st h, inr (s.0, refl), s.1)

encodes : (r : Option Frame) → flat_map encoding (option_to_list r) ≡ reply_bytes r
encodes None = refl
encodes (Some f) = flat_map-cons encoding f [] ∙ append-nil (encoding f)

each_with : (rs : List Frame) (r : Option Frame) → AllByRecursion IsFrame rs → FitsReply r → AllByRecursion IsFrame (rs ++ option_to_list r)
each_with [] None all one = tt
each_with [] (Some f) all one = (one, tt)
each_with (g ∷ rs) r all one = (all.0, each_with rs r all.1 one)

-- the next frame of an open session
pub serves_one : (x : Setting) (h : History) (st : Standing) (fs : List Frame) (i : ℕ) (store1 : StoreState) (st1 : Standing) (old out1 : List ℕ)
    (store2 : StoreState) (st2 : Standing) (out2 : List ℕ) → i < length fs → (f : Frame) → f ≡ get_or fs i f → is_closed st1 ≡ false
    → ServedAll x h st (take i fs) store1 st1 old out1 → ((h1 : History) → StandsFor store1 h1 → Serves (setting_of store1) h1 st1 f store2 st2 out1 out2)
    → ServedAll x h st (take (i + 1) fs) store2 st2 old out2
serves_one x h st fs i store1 st1 old out1 store2 st2 out2 lt f is_f open_ a step =
    let s = outcome_of x a.history st1 f store2 st2 out1 out2
    (subst (λ (y : Setting). Serves y a.history st1 f store2 st2 out1 out2) a.setting_is (step a.history a.store_is)) in
    let m : ServesAll x h st (take i fs ++ f ∷ []) s.0.history s.0.standing (a.replies ++ option_to_list s.0.reply) =
    serves_more x h st (take i fs) a.history st1 a.replies f s.0 a.serves open_ s.1 in
    let n : ServesAll x h st (take i fs ++ f ∷ []) s.0.history st2 (a.replies ++ option_to_list s.0.reply) =
    subst (λ (y : Standing). ServesAll x h st (take i fs ++ f ∷ []) s.0.history y (a.replies ++ option_to_list s.0.reply)) (sym s.2.standing_is) m in
    record {
      history = s.0.history;
      replies = a.replies ++ option_to_list s.0.reply;
      setting_is = s.2.setting_is;
      store_is = s.2.store_is;
      serves = subst (λ (y : List Frame). ServesAll x h st y s.0.history st2 (a.replies ++ option_to_list s.0.reply))
          (sym (take_more fs i f lt ∙ ap (λ (y : Frame). take i fs ++ y ∷ []) (sym is_f))) n;
      written = s.2.reply_is ∙ ap (λ (y : List ℕ). y ++ reply_bytes s.0.reply) a.written
          ∙ append_assoc old (flat_map encoding a.replies) (reply_bytes s.0.reply)
          ∙ ap (λ (y : List ℕ). old ++ y) (ap (λ (y : List ℕ). flat_map encoding a.replies ++ y) (sym (encodes s.0.reply))
          ∙ sym (flat_map-append encoding a.replies (option_to_list s.0.reply)));
      each = each_with a.replies s.0.reply a.each s.2.reply_fits;
    }

-- the next frame of a closed one
pub drops_one : (x : Setting) (h : History) (st : Standing) (fs : List Frame) (i : ℕ) (store1 : StoreState) (st1 : Standing) (old out1 : List ℕ) →
    i < length fs → is_closed st1 ≡ true
    → ServedAll x h st (take i fs) store1 st1 old out1 → ServedAll x h st (take (i + 1) fs) store1 st1 old out1
drops_one x h st fs i store1 st1 old out1 lt shut a =
    record {
      history = a.history;
      replies = a.replies;
      setting_is = a.setting_is;
      store_is = a.store_is;
      serves = subst (λ (y : List Frame). ServesAll x h st y a.history st1 a.replies) (sym (take_more fs i Publish lt))
          (drops_more x h st (take i fs) a.history st1 a.replies (get_or fs i Publish) a.serves shut);
      written = a.written;
      each = a.each;
    }

-- what holds anyway holds at an error
pub at_err : {T E P : Type 0} (r : Result T E) → P → OnErr r P
at_err (Ok x) p = tt
at_err (Err e) p = p
