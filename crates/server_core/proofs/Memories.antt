-- What feeds have in common to which no memory is refused.
use Rattle.std.proofs.Common.{◌≡◌, ◌⊎◌, ℕ, Bool, true, false, List, [], ◌∷◌, ◌++◌, Result, refl, sym, ap, subst, ◌∙◌, inl, inr}
use Rattle.std.specs.Prelude.{◌||◌, MatchBool}
use Rattle.std.specs.List.{flat_map}
use Rattle.std.proofs.lemmas.Bool.{cases_Bool}
use Rattle.frame_codec.specs.declared.frame.Frame.{Frame}
use Rattle.frame_codec.specs.declared.reader.ReadFault.{ReadFault}
use Rattle.frame_codec.specs.Frames.{encoding}
use Rattle.frame_codec.specs.Laws.{FeedsDecide}
use Rattle.frame_codec.specs.Streams.{Feeds}
use Rattle.version_store.specs.Histories.{History}
use Rattle.server_core.specs.Courses.{SessionCourse, course_of_piece, is_memory, lacks_memory, ServesWithMemory, FeedsWithMemory, WasShortOfMemory}
use Rattle.server_core.specs.Laws.{FeedsAreAlike, FeedsHadMemory}
use Rattle.server_core.specs.Serving.{is_wide_setting, Setting, is_closed}
use Rattle.server_core.specs.Sessions.{Session, ServesPiece}
use Rattle.server_core.proofs.Courses.{decided}
use Rattle.server_core.proofs.Agreement.{memory_or, after_frames, silent, by_course, served_open, served_closed, same_session}

-- ---- two feeds

with_memory : (x : Setting) (h : History) (old : Session) (piece : List ℕ) (h2 : History) (new : Session) (replies : List Frame) →
    is_closed old.standing ≡ false → FeedsWithMemory x h old piece h2 new replies → ServesWithMemory x h old piece h2 new replies
with_memory x h old piece h2 new replies open_ f =
    subst (λ (b : Bool). MatchBool b ((h2 ≡ h) × (new ≡ old) × (replies ≡ [])) (ServesWithMemory x h old piece h2 new replies)) open_ f

without_any : (x : Setting) (h : History) (old : Session) (piece : List ℕ) (h2 : History) (new : Session) (replies : List Frame) →
    is_closed old.standing ≡ true → FeedsWithMemory x h old piece h2 new replies → (h2 ≡ h) × (new ≡ old) × (replies ≡ [])
without_any x h old piece h2 new replies shut f =
    subst (λ (b : Bool). MatchBool b ((h2 ≡ h) × (new ≡ old) × (replies ≡ [])) (ServesWithMemory x h old piece h2 new replies)) shut f

-- the course of the piece's frames and its end
piece_course : (x : Setting) (h : History) (old : Session) (piece : List ℕ) (h2 : History) (new : Session) (replies : List Frame)
    (m : ServesWithMemory x h old piece h2 new replies) →
    record { history = h2; standing = new.standing; replies = replies } ≡ course_of_piece x h old.standing m.serves.frames m.serves.answer
piece_course x h old piece h2 new replies m =
    let s = m.serves in
    let c : SessionCourse = record { history = h2; standing = s.middle; replies = s.reported } in
    after_frames s.answer h2 s.middle new.standing s.reported s.more replies s.ends s.all ∙ by_course x h old.standing s.frames s.answer c m.frames_are

served_alike : FeedsDecide → (x : Setting) (h : History) (old : Session) (piece : List ℕ) (h2 h3 : History) (new new2 : Session) (replies replies2 : List Frame)
    → ServesWithMemory x h old piece h2 new replies → ServesWithMemory x h old piece h3 new2 replies2 → (h2 ≡ h3) × (new ≡ new2) × (replies ≡ replies2)
served_alike decide x h old piece h2 h3 new new2 replies replies2 m n =
    let s = m.serves in
    let t = n.serves in
    let d = decide (is_wide_setting x) old.unfinished piece s.answer t.answer s.frames t.frames new.unfinished new2.unfinished s.reads t.reads m.read n.read in
    let same : course_of_piece x h old.standing s.frames s.answer ≡ course_of_piece x h old.standing t.frames t.answer = rw (d.0, d.1) refl in
    let e : record { history = h2; standing = new.standing; replies = replies } ≡ record { history = h3; standing = new2.standing; replies = replies2 } =
    piece_course x h old piece h2 new replies m ∙ same ∙ sym (piece_course x h old piece h3 new2 replies2 n) in (
      ap (λ (c : SessionCourse). c.history) e,
      sym (same_session new new2 (ap (λ (c : SessionCourse). c.standing) e) d.2),
      ap (λ (c : SessionCourse). c.replies) e,
    )

alike : FeedsDecide → (x : Setting) (h : History) (old : Session) (piece : List ℕ) (h2 h3 : History) (new new2 : Session) (replies replies2 : List Frame)
    → FeedsWithMemory x h old piece h2 new replies → FeedsWithMemory x h old piece h3 new2 replies2 → (h2 ≡ h3) × (new ≡ new2) × (replies ≡ replies2)
alike decide x h old piece h2 h3 new new2 replies replies2 f g = elim (cases_Bool (is_closed old.standing)) [
  | inl shut ↦
      let a = without_any x h old piece h2 new replies shut f in
      let b = without_any x h old piece h3 new2 replies2 shut g in
      (a.0 ∙ sym b.0, a.1 ∙ sym b.1, a.2 ∙ sym b.2)
  | inr open_ ↦ served_alike decide x h old piece h2 h3 new new2 replies replies2
      (with_memory x h old piece h2 new replies open_ f) (with_memory x h old piece h3 new2 replies2 open_ g)
]

pub feeds_are_alike : FeedsDecide → FeedsAreAlike
feeds_are_alike decide x h old piece done done2 store store2 new new2 before after before2 after2 f g m n =
    let a = alike decide x h old piece f.history g.history new new2 f.replies g.replies m n in
    record {
      written = flat_map encoding f.replies;
      first = f.written;
      second = g.written ∙ ap (λ (y : List Frame). before2 ++ flat_map encoding y) (sym a.2);
      session = a.1;
      history = a.0;
    }

-- ---- one feed

lacks_more : (rs more : List Frame) → lacks_memory rs ≡ true → lacks_memory (rs ++ more) ≡ true
lacks_more [] more e = let bad : false ≡ true = e in absurd cc
lacks_more (f ∷ rs) more e = first (is_memory f) (lacks_memory rs) (lacks_memory (rs ++ more)) e (lacks_more rs more)
  where
    first : (a b c : Bool) → (a || b) ≡ true → (b ≡ true → c ≡ true) → (a || c) ≡ true
    first true b c e f = refl
    first false b c e f = f e

served_had : (x : Setting) (h : History) (old : Session) (piece : List ℕ) (h2 : History) (new : Session) (replies : List Frame) →
    ServesPiece x h old piece h2 new replies → ServesWithMemory x h old piece h2 new replies ⊎ WasShortOfMemory x old piece new replies
served_had x h old piece h2 new replies s = elim (memory_or s.answer) [
  | inl m ↦ inr (inr (
    s.frames,
    subst (λ (r : Result (Unit {0}) ReadFault). Feeds (is_wide_setting x) old.unfinished piece r s.frames new.unfinished) m s.reads,
    (silent x h old piece h2 new replies s m).shut,
  ))
  | inr pure ↦ elim (cases_Bool (lacks_memory s.reported)) [
    | inl lacks ↦ inr (inl (ap lacks_memory s.all ∙ lacks_more s.reported s.more lacks))
    | inr clear ↦ inl (record { serves = s; read = pure; frames_are = decided x h old.standing s.frames h2 s.middle s.reported s.serves clear })
  ]
]

pub feeds_had_memory : FeedsHadMemory
feeds_had_memory x h old piece done h2 new replies f = elim (cases_Bool (is_closed old.standing)) [
  | inl shut ↦ inl (rw shut (served_closed x h old piece h2 new replies shut f))
  | inr open_ ↦ elim (served_had x h old piece h2 new replies (served_open x h old piece h2 new replies open_ f)) [
    | inl m ↦ inl (rw open_ m)
    | inr short ↦ inr short
  ]
]
