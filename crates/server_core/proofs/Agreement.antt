-- Pieces decide the replies.
use Rattle.std.proofs.Common.{◌≡◌, ◌≢◌, ◌⊎◌, ℕ, Bool, true, false, List, [], ◌∷◌, ◌++◌, Option, Result, Ok, Err, refl, sym, ap, subst, ◌∙◌, inl, inr}
use Rattle.std.specs.Prelude.{◌||◌, cond, MatchBool}
use Rattle.std.proofs.lemmas.List.{append-nil}
use Rattle.frame_codec.specs.declared.frame.Frame.{Frame}
use Rattle.frame_codec.specs.declared.reader.ReadFault.{ReadFault}
use Rattle.frame_codec.specs.declared.reader.ReadFault.TheVariants.{TooLong, UnknownKind, BadPayload, Memory, Failed}
use Rattle.frame_codec.specs.Laws.{FeedsDecide, FeedsBegin, FeedsAgree}
use Rattle.frame_codec.specs.Streams.{Feeds}
use Rattle.version_store.specs.Histories.{History}
use Rattle.server_core.specs.declared.standing.Standing.{Standing}
use Rattle.server_core.specs.declared.standing.Standing.TheVariants.{Stranger, Reader, Publisher, Closed}
use Rattle.server_core.specs.Courses.{SessionCourse, course_of, at_end, course_of_piece, is_memory, lacks_memory}
use Rattle.server_core.specs.Laws.{IsAlike, PiecesDecide, PiecesAgree, SessionsNeverMeet}
use Rattle.server_core.specs.Serving.{is_wide_setting, Setting, ServesAll, is_closed}
use Rattle.server_core.specs.Sessions.{Session, AfterReading, EndsPiece, ServesPiece}
use Rattle.server_core.proofs.Courses.{decided}
use Rattle.server_core.proofs.Runs.{not_both}

-- ---- frames after a closing one

dropped : (x : Setting) (h : History) (st : Standing) (more : List Frame) (h2 : History) (st2 : Standing) (rs : List Frame) → (h2 ≡ h) × (st2 ≡ st)
    × (rs ≡ []) → is_closed st ≡ true → ServesAll x h st more h2 st2 rs
dropped x h st [] h2 st2 rs s shut = s
dropped x h Closed (f ∷ fs) h2 st2 rs s shut = s
dropped x h Stranger (f ∷ fs) h2 st2 rs s shut = not_both Stranger shut refl
dropped x h Reader (f ∷ fs) h2 st2 rs s shut = not_both Reader shut refl
dropped x h Publisher (f ∷ fs) h2 st2 rs s shut = not_both Publisher shut refl

drops_all : (x : Setting) (h : History) (st : Standing) (fs more : List Frame) (h2 : History) (st2 : Standing) (rs : List Frame) →
    ServesAll x h st fs h2 st2 rs → is_closed st2 ≡ true → ServesAll x h st (fs ++ more) h2 st2 rs
drops_all x h st [] more h2 st2 rs s shut = dropped x h st more h2 st2 rs s (sym (ap is_closed s.1) ∙ shut)
drops_all x h Closed (g ∷ fs) more h2 st2 rs s shut = s
drops_all x h Stranger (g ∷ fs) more h2 st2 rs s shut = (s.0, s.1, s.2, s.3, drops_all x s.0.history s.0.standing fs more h2 st2 s.1 s.4 shut)
drops_all x h Reader (g ∷ fs) more h2 st2 rs s shut = (s.0, s.1, s.2, s.3, drops_all x s.0.history s.0.standing fs more h2 st2 s.1 s.4 shut)
drops_all x h Publisher (g ∷ fs) more h2 st2 rs s shut = (s.0, s.1, s.2, s.3, drops_all x s.0.history s.0.standing fs more h2 st2 s.1 s.4 shut)

-- so the course of more frames is that of the ones that close
closing_course : (x : Setting) (h : History) (st : Standing) (fs gs more : List Frame) (h2 : History) (st2 : Standing) (rs : List Frame) →
    ServesAll x h st fs h2 st2 rs → is_closed st2 ≡ true → lacks_memory rs ≡ false → gs ≡ fs ++ more
    → record { history = h2; standing = st2; replies = rs } ≡ course_of x h st gs
closing_course x h st fs gs more h2 st2 rs s shut lacks e =
    decided x h st gs h2 st2 rs (subst (λ (y : List Frame). ServesAll x h st y h2 st2 rs) (sym e) (drops_all x h st fs more h2 st2 rs s shut)) lacks

-- ---- the end of a piece

prefix_clear : (rs others : List Frame) → lacks_memory (rs ++ others) ≡ false → lacks_memory rs ≡ false
prefix_clear [] others e = refl
prefix_clear (f ∷ rs) others e = first (is_memory f) (lacks_memory (rs ++ others)) (lacks_memory rs) e (prefix_clear rs others)
  where
    first : (a b c : Bool) → (a || b) ≡ false → (b ≡ false → c ≡ false) → (a || c) ≡ false
    first true b c e f = let bad : true ≡ false = e in absurd cc
    first false b c e f = f e

reported_clear : (replies reported more : List Frame) → replies ≡ reported ++ more → lacks_memory replies ≡ false → lacks_memory reported ≡ false
reported_clear replies reported more e lacks = prefix_clear reported more (subst (λ (y : List Frame). lacks_memory y ≡ false) e lacks)

pub memory_or : (a : Result (Unit {0}) ReadFault) → (a ≡ Err Memory) ⊎ (a ≢ Err Memory)
memory_or (Ok d) = inr (λ e. let bad : Ok d ≡ Err Memory = e in cc)
memory_or (Err TooLong) = inr (λ e. let bad : Err TooLong ≡ Err Memory = e in cc)
memory_or (Err UnknownKind) = inr (λ e. let bad : Err UnknownKind ≡ Err Memory = e in cc)
memory_or (Err BadPayload) = inr (λ e. let bad : Err BadPayload ≡ Err Memory = e in cc)
memory_or (Err Memory) = inl refl
memory_or (Err Failed) = inr (λ e. let bad : Err Failed ≡ Err Memory = e in cc)

-- after frames that leave the session open
after_open : (answer : Result (Unit {0}) ReadFault) (h2 : History) (middle after : Standing) (reported more replies : List Frame) →
    AfterReading answer middle after more → replies ≡ reported ++ more
    → record { history = h2; standing = after; replies = replies } ≡ at_end answer (record { history = h2; standing = middle; replies = reported })
after_open (Ok d) h2 middle after reported more replies e all = rw (e.0, all, e.1, append-nil reported) refl
after_open (Err TooLong) h2 middle after reported more replies e all = rw (e.0, all, e.1) refl
after_open (Err UnknownKind) h2 middle after reported more replies e all = rw (e.0, all, e.1) refl
after_open (Err BadPayload) h2 middle after reported more replies e all = rw (e.0, all, e.1) refl
after_open (Err Memory) h2 middle after reported more replies e all = absurd e
after_open (Err Failed) h2 middle after reported more replies e all = absurd e

-- after any frames
pub after_frames : (answer : Result (Unit {0}) ReadFault) (h2 : History) (middle after : Standing) (reported more replies : List Frame) →
    EndsPiece answer middle after more → replies ≡ reported ++ more
    → record { history = h2; standing = after; replies = replies }
    ≡ cond (is_closed middle) (record { history = h2; standing = middle; replies = reported })
    (at_end answer (record { history = h2; standing = middle; replies = reported }))
after_frames answer h2 Closed after reported more replies e all = rw (e.0, all, e.1, append-nil reported) refl
after_frames answer h2 Stranger after reported more replies e all = after_open answer h2 Stranger after reported more replies e all
after_frames answer h2 Reader after reported more replies e all = after_open answer h2 Reader after reported more replies e all
after_frames answer h2 Publisher after reported more replies e all = after_open answer h2 Publisher after reported more replies e all

-- refused memory is passed over only where the frames before it closed the session
closed_before : (middle after : Standing) (more : List Frame) → EndsPiece (Err Memory) middle after more → (is_closed middle ≡ true) × (after ≡ middle)
    × (more ≡ [])
closed_before Closed after more e = (refl, e.0, e.1)
closed_before Stranger after more e = absurd e
closed_before Reader after more e = absurd e
closed_before Publisher after more e = absurd e

-- where the codec wanted memory
pub record Silent (x : Setting) (h : History) (st : Standing) (frames : List Frame) (h2 : History) (after : Standing) (replies : List Frame) : Type 0 where
  pub shut : is_closed after ≡ true
  pub serves : ServesAll x h st frames h2 after replies

pub silent : (x : Setting) (h : History) (old : Session) (piece : List ℕ) (h2 : History) (new : Session) (replies : List Frame)
    (s : ServesPiece x h old piece h2 new replies) → s.answer ≡ Err Memory → Silent x h old.standing s.frames h2 new.standing replies
silent x h old piece h2 new replies s m =
    let c = closed_before s.middle new.standing s.more (subst (λ (y : Result (Unit {0}) ReadFault). EndsPiece y s.middle new.standing s.more) m s.ends) in
    let same : replies ≡ s.reported = s.all ∙ ap (λ (y : List Frame). s.reported ++ y) c.2 ∙ append-nil s.reported in
    record { shut = ap is_closed c.1 ∙ c.0; serves = rw (c.1, same) s.serves }

-- ---- a piece

pub by_course : (x : Setting) (h : History) (st : Standing) (frames : List Frame) (answer : Result (Unit {0}) ReadFault) (c : SessionCourse) →
    c ≡ course_of x h st frames → cond (is_closed c.standing) c (at_end answer c) ≡ course_of_piece x h st frames answer
by_course x h st frames answer c e = ap (λ (y : SessionCourse). cond (is_closed y.standing) y (at_end answer y)) e

closed_alone : (c : SessionCourse) (answer : Result (Unit {0}) ReadFault) → is_closed c.standing ≡ true → c ≡ cond (is_closed c.standing) c (at_end answer c)
closed_alone c answer shut = rw shut refl

piece_decided : FeedsDecide → FeedsBegin →
    (x : Setting) (h : History) (old : Session) (piece : List ℕ) (h2 : History) (new : Session) (replies : List Frame) (answer : Result (Unit {0}) ReadFault)
    (frames : List Frame) (rest : Option (List ℕ)) → ServesPiece x h old piece h2 new replies
    → lacks_memory replies ≡ false → Feeds (is_wide_setting x) old.unfinished piece answer frames rest → answer ≢ Err Memory
    → (record { history = h2; standing = new.standing; replies = replies } ≡ course_of_piece x h old.standing frames answer)
    × (is_closed new.standing ≡ false → new.unfinished ≡ rest)
piece_decided decide begin x h old piece h2 new replies answer frames rest s lacks reads clear =
    elim (memory_or s.answer) [
      | inl m ↦
          let q = silent x h old piece h2 new replies s m in
          let b = begin (is_wide_setting x) old.unfinished piece answer s.answer frames s.frames rest new.unfinished reads s.reads clear in
          let c : SessionCourse = record { history = h2; standing = new.standing; replies = replies } in
          let e : c ≡ course_of x h old.standing frames =
          closing_course x h old.standing s.frames frames b.0 h2 new.standing replies q.serves q.shut lacks b.1 in
          (closed_alone c answer q.shut ∙ by_course x h old.standing frames answer c e, λ open_. not_both new.standing q.shut open_)
      | inr pure ↦
          let d = decide (is_wide_setting x) old.unfinished piece s.answer answer s.frames frames new.unfinished rest s.reads reads pure clear in
          let c : SessionCourse = record { history = h2; standing = s.middle; replies = s.reported } in
          let e : c ≡ course_of x h old.standing frames =
          rw (← d.1) (decided x h old.standing s.frames h2 s.middle s.reported s.serves (reported_clear replies s.reported s.more s.all lacks)) in
          let f : record { history = h2; standing = new.standing; replies = replies } ≡ cond (is_closed s.middle) c (at_end answer c) =
          after_frames answer h2 s.middle new.standing s.reported s.more replies
          (subst (λ (y : Result (Unit {0}) ReadFault). EndsPiece y s.middle new.standing s.more) d.0 s.ends) s.all in
          (f ∙ by_course x h old.standing frames answer c e, λ open_. d.2)
    ]

pub served_open : (x : Setting) (h : History) (old : Session) (piece : List ℕ) (h2 : History) (new : Session) (replies : List Frame) →
    is_closed old.standing ≡ false → MatchBool (is_closed old.standing) ((h2 ≡ h) × (new ≡ old) × (replies ≡ [])) (ServesPiece x h old piece h2 new replies)
    → ServesPiece x h old piece h2 new replies
served_open x h old piece h2 new replies open_ f =
    subst (λ (b : Bool). MatchBool b ((h2 ≡ h) × (new ≡ old) × (replies ≡ [])) (ServesPiece x h old piece h2 new replies)) open_ f

pub served_closed : (x : Setting) (h : History) (old : Session) (piece : List ℕ) (h2 : History) (new : Session) (replies : List Frame) →
    is_closed old.standing ≡ true → MatchBool (is_closed old.standing) ((h2 ≡ h) × (new ≡ old) × (replies ≡ [])) (ServesPiece x h old piece h2 new replies)
    → (h2 ≡ h) × (new ≡ old) × (replies ≡ [])
served_closed x h old piece h2 new replies shut f =
    subst (λ (b : Bool). MatchBool b ((h2 ≡ h) × (new ≡ old) × (replies ≡ [])) (ServesPiece x h old piece h2 new replies)) shut f

pub pieces_decide : FeedsDecide → FeedsBegin → PiecesDecide
pieces_decide decide begin x h old piece done h2 new replies answer frames rest open_ f lacks reads clear =
    piece_decided decide begin x h old piece h2 new replies answer frames rest (served_open x h old piece h2 new replies open_ f) lacks reads clear

-- ---- two sessions

abbrev course : History → Standing → List Frame → SessionCourse
course h st replies = record { history = h; standing = st; replies = replies }

-- the same course, and the same rest of the stream of an open session
same_course : (h2 h3 : History) (new new2 : Session) (replies replies2 : List Frame) → course h2 new.standing replies ≡ course h3 new2.standing replies2
    → (is_closed new.standing ≡ false → new.unfinished ≡ new2.unfinished) → (h2 ≡ h3) × IsAlike new new2 × (replies ≡ replies2)
same_course h2 h3 new new2 replies replies2 e u =
    (ap (λ (c : SessionCourse). c.history) e, (ap (λ (c : SessionCourse). c.standing) e, u), ap (λ (c : SessionCourse). c.replies) e)

both_served : FeedsDecide → FeedsBegin → FeedsAgree →
    (x : Setting) (h : History) (old : Session) (piece : List ℕ) (h2 h3 : History) (new new2 : Session) (replies replies2 : List Frame) →
    ServesPiece x h old piece h2 new replies → ServesPiece x h old piece h3 new2 replies2
    → lacks_memory replies ≡ false → lacks_memory replies2 ≡ false → (h2 ≡ h3) × IsAlike new new2 × (replies ≡ replies2)
both_served decide begin agree x h old piece h2 h3 new new2 replies replies2 s t lacks lacks2 =
    elim (memory_or t.answer) [
      | inr pure ↦
          let a = piece_decided decide begin x h old piece h2 new replies t.answer t.frames new2.unfinished s lacks t.reads pure in
          let b = piece_decided decide begin x h old piece h3 new2 replies2 t.answer t.frames new2.unfinished t lacks2 t.reads pure in
          same_course h2 h3 new new2 replies replies2 (a.0 ∙ sym b.0) a.1
      | inl n ↦ elim (memory_or s.answer) [
        | inr pure ↦
            let a = piece_decided decide begin x h old piece h2 new replies s.answer s.frames new.unfinished s lacks s.reads pure in
            let b = piece_decided decide begin x h old piece h3 new2 replies2 s.answer s.frames new.unfinished t lacks2 s.reads pure in
            let same = a.0 ∙ sym b.0 in
            same_course h2 h3 new new2 replies replies2 same (λ open_. sym (b.1 (ap (λ (c : SessionCourse). is_closed c.standing) (sym same) ∙ open_)))
        | inl m ↦
            let q = silent x h old piece h2 new replies s m in
            let r = silent x h old piece h3 new2 replies2 t n in
            let same : course h2 new.standing replies ≡ course h3 new2.standing replies2 =
            elim (agree (is_wide_setting x) old.unfinished piece s.answer t.answer s.frames t.frames new.unfinished new2.unfinished s.reads t.reads) [
              | inl e ↦ decided x h old.standing s.frames h2 new.standing replies q.serves lacks
                  ∙ sym (closing_course x h old.standing t.frames s.frames e.0 h3 new2.standing replies2 r.serves r.shut lacks2 e.1)
              | inr e ↦ closing_course x h old.standing s.frames t.frames e.0 h2 new.standing replies q.serves q.shut lacks e.1
                  ∙ sym (decided x h old.standing t.frames h3 new2.standing replies2 r.serves lacks2)
            ] in
            same_course h2 h3 new new2 replies replies2 same (λ open_. not_both new.standing q.shut open_)
      ]
    ]

pub same_session : (a b : Session) → a.standing ≡ b.standing → a.unfinished ≡ b.unfinished → b ≡ a
same_session a b e f = let g : record { standing = b.standing; unfinished = b.unfinished } ≡ record { standing = a.standing; unfinished = a.unfinished } =
    rw (e, f) refl in g

pub pieces_agree : FeedsDecide → FeedsBegin → FeedsAgree → PiecesAgree
pieces_agree decide begin agree x h old old2 piece done done2 h2 h3 new new2 replies replies2 like f g lacks lacks2 =
    by_standing (is_closed old.standing) refl
  where
    by_standing : (b : Bool) → is_closed old.standing ≡ b → (h2 ≡ h3) × IsAlike new new2 × (replies ≡ replies2)
    by_standing true shut =
        let a = served_closed x h old piece h2 new replies shut f in
        let c = served_closed x h old2 piece h3 new2 replies2 (sym (ap is_closed like.0) ∙ shut) g in
        let alike : IsAlike new new2 = rw (a.1, c.1) like in
        (a.0 ∙ sym c.0, alike, a.2 ∙ sym c.2)
    by_standing false open_ =
        let a = served_open x h old piece h2 new replies open_ f in
        let c = served_open x h old2 piece h3 new2 replies2 (sym (ap is_closed like.0) ∙ open_) g in
        both_served decide begin agree x h old piece h2 h3 new new2 replies replies2 a
        (subst (λ (y : Session). ServesPiece x h y piece h3 new2 replies2) (same_session old old2 like.0 (like.1 open_)) c) lacks lacks2

-- ---- pieces one after another

pub never_meet : PiecesAgree → SessionsNeverMeet
never_meet agree x [] old old2 outcomes outcomes2 new new2 like f g =
    let alike : IsAlike new new2 = rw (f.1, g.1) like in
    (f.0 ∙ sym g.0, alike)
never_meet agree x (fed ∷ later) old old2 outcomes outcomes2 new new2 like f g =
    let one = agree x fed.0 old old2 fed.1 f.0 g.0 f.1 g.1 f.2 g.2 f.3 g.3 like f.5 g.5 f.6 g.6 in
    let others = never_meet agree x later f.2 g.2 f.4 g.4 new new2 one.1 f.8 g.8 in
    (rw (f.7, g.7, one.0, one.2, others.0) refl, others.1)
