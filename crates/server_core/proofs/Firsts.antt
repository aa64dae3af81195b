-- The first frame of a piece.
use Rattle.std.proofs.Common.{◌≡◌, ◌≢◌, ℕ, ◌≤◌, ◌<◌, Bool, true, false, List, [], ◌∷◌, ◌++◌, length, take, Option, Some, None, Result, Ok, Err, refl, sym, ap, subst, ◌∙◌, append_assoc, arith, inl, inr}
use Rattle.std.proofs.Math.Seq.{take-length}
use Rattle.std.specs.Prelude.{MatchBool, IfOk, IfSome, IfNone, IsOk, option_to_list, IsSome}
use Rattle.std.specs.List.{flat_map}
use Rattle.std.specs.declared.alloc.AllocError.{AllocError}
use Rattle.std.proofs.lemmas.List.{append-nil}
use Rattle.std.proofs.lemmas.List.Concat.{flat_map-append}
use Rattle.frame_codec.specs.declared.frame.Frame.{Frame}
use Rattle.frame_codec.specs.declared.reader.ReadFault.{ReadFault}
use Rattle.frame_codec.specs.declared.reader.ReadFault.TheVariants.{Memory}
use Rattle.frame_codec.specs.declared.reader.FrameRead.{FrameRead}
use Rattle.frame_codec.specs.Frames.{IsFrame, encoding}
use Rattle.frame_codec.specs.Streams.{Feeds, FeedsFrame}
use Rattle.frame_codec.proofs.Runs.{all_append}
use Rattle.version_store.specs.Histories.{StoreState, History, StandsFor}
use Rattle.server_core.specs.declared.standing.Standing.{Standing}
use Rattle.server_core.specs.declared.standing.Standing.TheVariants.{Closed}
use Rattle.server_core.specs.Serving.{is_wide_setting, Setting, setting_of, Serves, ServedAll, is_closed}
use Rattle.server_core.specs.Sessions.{Session, IsLive, ServesPiece, IsStop, IsUnjudged, IsFirstUnread, FeedsStoreFirst, Ended, ServedFrames, frames_taken, bytes_used, reading_end, ServesFrame, HasTaken}
use Rattle.server_core.specs.Laws.{FirstsArePieces, StopsArePieces}
use Rattle.server_core.proofs.Pieces.{stays_live, unread, ended}
use Rattle.server_core.proofs.Runs.{serves_one}

-- so many bytes of the piece are what the reader was fed
pub fed_used : (wide : Bool) (old : Option (List ℕ)) (piece : List ℕ) (answer : Result FrameRead ReadFault) (new : Option (List ℕ)) → FeedsFrame wide old piece answer new →
    Feeds wide old (take (bytes_used piece answer) piece) (reading_end answer) (frames_taken answer) new
fed_used wide old piece (Ok t) new f = f.fed
fed_used wide old piece (Err fault) new f = rw take-length f

pub used_within : (wide : Bool) (old : Option (List ℕ)) (piece : List ℕ) (answer : Result FrameRead ReadFault) (new : Option (List ℕ)) → FeedsFrame wide old piece answer new →
    bytes_used piece answer ≤ length piece
used_within wide old piece (Ok t) new f = f.within
used_within wide old piece (Err fault) new f = omega arith

-- a byte at least, where there is one
pub used_some : (wide : Bool) (old : Option (List ℕ)) (piece : List ℕ) (answer : Result FrameRead ReadFault) (new : Option (List ℕ)) → FeedsFrame wide old piece answer new →
    0 < length piece → 0 < bytes_used piece answer
used_some wide old piece (Ok t) new f some = by_frame t.frame f.whole f.ends
  where
    by_frame : (o : Option Frame) → IfNone o (t.count ≡ length piece) → IfSome o (λ _. (0 < t.count) × (new ≡ Some [])) → 0 < t.count
    by_frame None whole ends = omega (arith, whole, some)
    by_frame (Some g) whole ends = ends.0
used_some wide old piece (Err fault) new f some = some

pub first_live : (wide : Bool) (old : Option (List ℕ)) (piece : List ℕ) (answer : Result FrameRead ReadFault) (new : Option (List ℕ)) (after : Standing) →
    FeedsFrame wide old piece answer new → (is_closed after ≡ false → IsOk (reading_end answer)) → IsLive after new
first_live wide old piece answer new after f live =
    stays_live wide old (take (bytes_used piece answer) piece) (reading_end answer) (frames_taken answer) new after (fed_used wide old piece answer new f) live

-- an open session's reading that stopped without a fault was refused memory
pub first_unread : (x : Setting) (old : Option (List ℕ)) (piece : List ℕ) (answer : Result FrameRead ReadFault) (new : Option (List ℕ)) → old ≢ None →
    FeedsFrame (is_wide_setting x) old piece answer new → IsUnjudged (reading_end answer) → IsFirstUnread x old piece new
first_unread x old piece (Ok t) new live f u = absurd u
first_unread x old piece (Err fault) new live f u =
    let is : Err fault ≡ Err Memory = unread (is_wide_setting x) old piece (Err fault) [] new live f u in
    subst (λ (r : Result (Unit {0}) ReadFault). Feeds (is_wide_setting x) old piece r [] new) is f

-- ---- served, or not

pub first_well : (x : Setting) (h : History) (old : Session) (piece : List ℕ) (store : StoreState) (after : Standing) (u : Option (List ℕ))
    (before new : List ℕ) (answer : Result FrameRead ReadFault) → is_closed old.standing ≡ false → FeedsFrame (is_wide_setting x) old.unfinished piece answer u →
    ServedFrames x h old.standing (frames_taken answer) (reading_end answer) store after before new
    → FeedsStoreFirst x h old piece (Ok (bytes_used piece answer)) store (record { standing = after; unfinished = u }) before new
first_well x h old piece store after u before new answer open_ reads s =
    let a = s.frames_are in
    let p : ServesFrame x h old piece (bytes_used piece answer) a.history (record { standing = after; unfinished = u }) (a.replies ++ s.more) =
    record {
      answer = answer;
      middle = s.middle;
      reported = a.replies;
      more = s.more;
      reads = reads;
      count_is = refl;
      serves = a.serves;
      ends = s.ends;
      all = refl;
    } in
    record {
      history = a.history;
      replies = a.replies ++ s.more;
      setting_is = a.setting_is;
      store_is = a.store_is;
      course = rw open_ p;
      written = s.written ∙ ap (λ (y : List ℕ). y ++ flat_map encoding s.more) a.written
          ∙ append_assoc before (flat_map encoding a.replies) (flat_map encoding s.more)
          ∙ ap (λ (y : List ℕ). before ++ y) (sym (flat_map-append encoding a.replies s.more));
      each = all_append IsFrame a.replies s.more a.each s.each;
    }

pub first_short : (x : Setting) (h : History) (old : Session) (piece : List ℕ) (e : AllocError) (store : StoreState) (u : Option (List ℕ))
    (before new : List ℕ) (answer : Result FrameRead ReadFault) → is_closed old.standing ≡ false → FeedsFrame (is_wide_setting x) old.unfinished piece answer u →
    HasTaken answer → setting_of store ≡ x → StandsFor store h → new ≡ before
    → FeedsStoreFirst x h old piece (Err e) store (record { standing = Closed; unfinished = u }) before new
first_short x h old piece e store u before new answer open_ reads stop set stands same = record {
  history = h;
  replies = [];
  setting_is = set;
  store_is = stands;
  course = (open_, record { answer = answer; reads = reads; stop = stop; same = refl; none = refl; shut = refl });
  written = same ∙ sym (append-nil before);
  each = tt;
}

-- ---- the frame that was read

served_none : (x : Setting) (h : History) (st : Standing) (store : StoreState) (before : List ℕ) → setting_of store ≡ x → StandsFor store h →
    ServedAll x h st [] store st before before
served_none x h st store before set stands = record {
  history = h;
  replies = [];
  setting_is = set;
  store_is = stands;
  serves = (refl, refl, refl);
  written = sym (append-nil before);
  each = tt;
}

-- the frames of a piece that was read without a fault
ends_well : (x : Setting) (h : History) (st : Standing) (frames : List Frame) (store : StoreState) (after : Standing) (before new : List ℕ) →
    ServedAll x h st frames store after before new → ServedFrames x h st frames (Ok tt) store after before new
ends_well x h st frames store after before new a = record {
  middle = after;
  bytes = new;
  more = [];
  frames_are = a;
  ends = by_state (is_closed after);
  written = sym (append-nil new);
  each = tt;
}
  where
    none : List Frame
    none = []

    by_state : (b : Bool) → MatchBool b ((after ≡ after) × (none ≡ [])) ((after ≡ after) × (none ≡ []))
    by_state true = (refl, refl)
    by_state false = (refl, refl)

pub read_none : (h : History) (st : Standing) (store : StoreState) (before : List ℕ) → StandsFor store h →
    ServedFrames (setting_of store) h st [] (Ok tt) store st before before
read_none h st store before stands = ends_well (setting_of store) h st [] store st before before (served_none (setting_of store) h st store before refl stands)

pub read_one : (h : History) (st : Standing) (f : Frame) (store store2 : StoreState) (before new : List ℕ) (r : Result Standing AllocError) →
    is_closed st ≡ false → StandsFor store h
    → IfOk r (λ after. (h1 : History) → StandsFor store h1 → Serves (setting_of store) h1 st f store2 after before new)
    → IfOk r (λ after. ServedFrames (setting_of store) h st (f ∷ []) (Ok tt) store2 after before new)
read_one h st f store store2 before new (Err e) open_ stands step = tt
read_one h st f store store2 before new (Ok after) open_ stands step =
    let x : Setting = setting_of store in
    let a : ServedAll x h st (f ∷ []) store2 after before new =
    serves_one x h st (f ∷ []) 0 store st before before store2 after new (omega arith) f refl open_ (served_none x h st store before refl stands) step in
    ends_well x h st (f ∷ []) store2 after before new a

pub read_fault : (h : History) (st : Standing) (fault : ReadFault) (store : StoreState) (before new : List ℕ) (r : Result Standing AllocError) →
    is_closed st ≡ false → StandsFor store h → IfOk r (λ after. Ended (Err fault) st after before new)
    → IfOk r (λ after. ServedFrames (setting_of store) h st [] (Err fault) store after before new)
read_fault h st fault store before new (Err e) open_ stands step = tt
read_fault h st fault store before new (Ok after) open_ stands step =
    ended (setting_of store) h st [] (Err fault) store st after before before new open_
    (served_none (setting_of store) h st store before refl stands) step

-- what holds of each good answer for each history holds for each history of each good answer
pub for_each : {T E : Type 0} (r : Result T E) (S : History → Type 0) (P : History → T → Type 0) → ((h : History) → S h → IfOk r (λ x. P h x)) →
    IfOk r (λ x. (h : History) → S h → P h x)
for_each (Ok x) S P f = f
for_each (Err e) S P f = tt

-- ---- laws

pub firsts_are_pieces : FirstsArePieces
firsts_are_pieces x h old piece count h2 new replies f = by_state (is_closed old.standing) f
  where
    by_state : (b : Bool) → MatchBool b ((count ≡ length piece) × (h2 ≡ h) × (new ≡ old) × (replies ≡ [])) (ServesFrame x h old piece count h2 new replies) →
        MatchBool b ((h2 ≡ h) × (new ≡ old) × (replies ≡ [])) (ServesPiece x h old (take count piece) h2 new replies)
    by_state true f = (f.1, f.2, f.3)
    by_state false f = record {
      answer = reading_end f.answer;
      frames = frames_taken f.answer;
      middle = f.middle;
      reported = f.reported;
      more = f.more;
      reads = subst (λ (n : ℕ). Feeds (is_wide_setting x) old.unfinished (take n piece) (reading_end f.answer) (frames_taken f.answer) new.unfinished) (sym f.count_is)
          (fed_used (is_wide_setting x) old.unfinished piece f.answer new.unfinished f.reads);
      serves = f.serves;
      ends = f.ends;
      all = f.all;
    }

stops_there : (answer : Result FrameRead ReadFault) → HasTaken answer → IsStop (reading_end answer) (frames_taken answer) 0
stops_there (Ok t) has = by_frame t.frame has
  where
    by_frame : (o : Option Frame) → IsSome o → IsStop (Ok tt) (option_to_list o) 0
    by_frame None has = let bad : false ≡ true = has in absurd cc
    by_frame (Some f) has = inl (omega arith)
stops_there (Err fault) has = inr (refl, refl)

pub stops_are_pieces : StopsArePieces
stops_are_pieces x h old piece e h2 new replies f =
    let s = f.1 in
    let used : ℕ = bytes_used piece s.answer in (
      used,
      used_within (is_wide_setting x) old.unfinished piece s.answer new.unfinished s.reads,
      (
        f.0,
        record {
          answer = reading_end s.answer;
          frames = frames_taken s.answer;
          count = 0;
          middle = old.standing;
          reads = fed_used (is_wide_setting x) old.unfinished piece s.answer new.unfinished s.reads;
          stop = stops_there s.answer s.stop;
          serves = (s.same, refl, s.none);
          goes_on = f.0;
          shut = s.shut;
        },
      ),
    )
