-- Frames decide the replies.
use Rattle.std.proofs.Common.{◌≡◌, Bool, true, false, List, [], ◌∷◌, ◌++◌, refl, subst, inl, inr}
use Rattle.std.specs.Prelude.{option_to_list, ◌||◌}
use Rattle.frame_codec.specs.declared.frame.Frame.{Frame}
use Rattle.version_store.specs.Histories.{History}
use Rattle.server_core.specs.declared.standing.Standing.{Standing}
use Rattle.server_core.specs.declared.standing.Standing.TheVariants.{Stranger, Reader, Publisher, Closed}
use Rattle.server_core.specs.Serving.{Setting, AfterFrame, IsAfterFrame, ServesAll, after_frame}
use Rattle.server_core.specs.Courses.{SessionCourse, course_of, with_reply, is_memory, lacks_memory}

-- the prefix and the rest of replies that don't lack memory
prefix_of : (rs others : List Frame) → lacks_memory (rs ++ others) ≡ false → lacks_memory others ≡ false
prefix_of [] others e = e
prefix_of (f ∷ rs) others e = prefix_of rs others (rest (is_memory f) (lacks_memory (rs ++ others)) e)
  where
    rest : (a b : Bool) → (a || b) ≡ false → b ≡ false
    rest true b e = let bad : true ≡ false = e in absurd cc
    rest false b e = e

-- so each frame is served as the checks say
as_served : (x : Setting) (h : History) (st : Standing) (f : Frame) (o : AfterFrame) (others : List Frame) → IsAfterFrame x h st f o →
    lacks_memory (option_to_list o.reply ++ others) ≡ false → o ≡ after_frame x h st f
as_served x h st f o others (inl e) lacks = e
as_served x h st f o others (inr e) lacks =
    let bad : true ≡ false = subst (λ (y : AfterFrame). lacks_memory (option_to_list y.reply ++ others) ≡ false) e.1 lacks in
    absurd cc

more : (o p : AfterFrame) (others : List Frame) (h2 : History) (st2 : Standing) (c : SessionCourse) → o ≡ p →
    record { history = h2; standing = st2; replies = others } ≡ c
    → record { history = h2; standing = st2; replies = option_to_list o.reply ++ others } ≡ with_reply p c
more o p others h2 st2 c e d = rw (e, ← d) refl

-- one frame of an open session, where it is so of the others
step : (x : Setting) (h : History) (st : Standing) (f : Frame) (fs : List Frame) (h2 : History) (st2 : Standing) (replies : List Frame) (o : AfterFrame)
    (others : List Frame) → IsAfterFrame x h st f o → replies ≡ option_to_list o.reply ++ others
    → (lacks_memory others ≡ false → record { history = h2; standing = st2; replies = others } ≡ course_of x o.history o.standing fs) →
    lacks_memory replies ≡ false
    → record { history = h2; standing = st2; replies = replies }
    ≡ with_reply (after_frame x h st f) (course_of x (after_frame x h st f).history (after_frame x h st f).standing fs)
step x h st f fs h2 st2 replies o others is e s lacks =
    let clear : lacks_memory (option_to_list o.reply ++ others) ≡ false = subst (λ (y : List Frame). lacks_memory y ≡ false) e lacks in
    let p : o ≡ after_frame x h st f = as_served x h st f o others is clear in
    let d : record { history = h2; standing = st2; replies = others } ≡ course_of x o.history o.standing fs =
    s (prefix_of (option_to_list o.reply) others clear) in
    rw e (more o (after_frame x h st f) others h2 st2 (course_of x (after_frame x h st f).history (after_frame x h st f).standing fs) p
    (subst (λ (y : AfterFrame). record { history = h2; standing = st2; replies = others } ≡ course_of x y.history y.standing fs) p d))

pub decided : (x : Setting) (h : History) (st : Standing) (fs : List Frame) (h2 : History) (st2 : Standing) (replies : List Frame) →
    ServesAll x h st fs h2 st2 replies → lacks_memory replies ≡ false
    → record { history = h2; standing = st2; replies = replies } ≡ course_of x h st fs
decided x h st [] h2 st2 replies s lacks = rw (s.0, s.1, s.2) refl
decided x h Closed (f ∷ fs) h2 st2 replies s lacks = rw (s.0, s.1, s.2) refl
decided x h Stranger (f ∷ fs) h2 st2 replies s lacks =
    step x h Stranger f fs h2 st2 replies s.0 s.1 s.2 s.3 (decided x s.0.history s.0.standing fs h2 st2 s.1 s.4) lacks
decided x h Reader (f ∷ fs) h2 st2 replies s lacks =
    step x h Reader f fs h2 st2 replies s.0 s.1 s.2 s.3 (decided x s.0.history s.0.standing fs h2 st2 s.1 s.4) lacks
decided x h Publisher (f ∷ fs) h2 st2 replies s lacks =
    step x h Publisher f fs h2 st2 replies s.0 s.1 s.2 s.3 (decided x s.0.history s.0.standing fs h2 st2 s.1 s.4) lacks
