-- What a piece does to a session.
use Rattle.std.proofs.Common.{Bool, ◌≡◌, ◌≢◌, ℕ, true, false, List, [], ◌∷◌, ◌++◌, length, Some, None, Option, refl, sym, ap, ◌∙◌, append_assoc, inl, inr, Result, Ok, Err, IsErr, OnErr, OnOk, IfOk}
use Rattle.std.proofs.Math.Seq.{take-length}
use Rattle.std.specs.Prelude.{IsOk}
use Rattle.std.specs.List.{flat_map}
use Rattle.std.specs.declared.alloc.AllocError.{AllocError}
use Rattle.std.proofs.lemmas.List.{append-nil}
use Rattle.std.proofs.lemmas.List.Concat.{flat_map-append, flat_map-cons}
use Rattle.frame_codec.specs.declared.frame.Frame.{Frame}
use Rattle.frame_codec.specs.declared.reader.ReadFault.{ReadFault}
use Rattle.frame_codec.specs.declared.reader.ReadFault.TheVariants.{TooLong, UnknownKind, BadPayload, Memory, Failed}
use Rattle.frame_codec.specs.declared.refusal.Refusal.TheVariants as refusal
use Rattle.frame_codec.specs.Refusals.{refused}
use Rattle.frame_codec.specs.Frames.{IsFrame, encoding}
use Rattle.frame_codec.specs.Streams.{Feeds}
use Rattle.frame_codec.proofs.Runs.{all_append}
use Rattle.version_store.specs.Histories.{StoreState, History, StandsFor}
use Rattle.server_core.specs.declared.standing.Standing.{Standing}
use Rattle.server_core.specs.declared.standing.Standing.TheVariants.{Closed}
use Rattle.server_core.specs.Serving.{is_wide_setting, Setting, setting_of, ServedAll, is_closed, BrokenOff}
use Rattle.server_core.specs.Sessions.{Session, IsLive, AfterReading, ServesPiece, FeedsStore, Ended, ServedFrames, ServedOpen, StoppedFrames, IsUnjudged, IsUnread}

-- ---- a piece's frames and its end

-- the frames closed the session
pub closed_by_frames : (x : Setting) (h : History) (st : Standing) (frames : List Frame) (answer : Result (Unit {0}) ReadFault) (store : StoreState)
    (after : Standing) (before new : List ℕ) → is_closed after ≡ true
    → ServedAll x h st frames store after before new → ServedFrames x h st frames answer store after before new
closed_by_frames x h st frames answer store after before new shut a =
    record {
      middle = after;
      bytes = new;
      more = [];
      frames_are = a;
      ends = rw shut (refl, refl);
      written = sym (append-nil new);
      each = tt;
    }

-- they left it open
pub ended : (x : Setting) (h : History) (st : Standing) (frames : List Frame) (answer : Result (Unit {0}) ReadFault) (store : StoreState)
    (middle after : Standing) (before bytes new : List ℕ) → is_closed middle ≡ false
    → ServedAll x h st frames store middle before bytes → Ended answer middle after bytes new → ServedFrames x h st frames answer store after before new
ended x h st frames answer store middle after before bytes new open_ a e =
    record {
      middle = middle;
      bytes = bytes;
      more = e.more;
      frames_are = a;
      ends = rw open_ e.ends;
      written = e.written;
      each = e.each;
    }

pub stopped_before : (x : Setting) (h : History) (st : Standing) (frames : List Frame) (answer : Result (Unit {0}) ReadFault) (store : StoreState)
    (before new : List ℕ)
    → BrokenOff x h st frames store before new → StoppedFrames x h st frames answer store before new
stopped_before x h st frames answer store before new b =
    record { count = b.count; middle = b.after; stop = inl b.within; goes_on = b.goes_on; frames_are = b.served_all }

pub stopped_after : (x : Setting) (h : History) (st : Standing) (frames : List Frame) (answer : Result (Unit {0}) ReadFault) (store : StoreState)
    (middle : Standing) (before bytes new : List ℕ) → is_closed middle ≡ false
    → ServedAll x h st frames store middle before bytes → IsErr answer → new ≡ bytes → StoppedFrames x h st frames answer store before new
stopped_after x h st frames answer store middle before bytes new open_ a err same =
    record {
      count = length frames;
      middle = middle;
      stop = inr (refl, err);
      goes_on = open_;
      frames_are = rw (take-length, same) a;
    }

-- ---- a piece

pub fed_closed : (x : Setting) (h : History) (old : Session) (piece : List ℕ) (d : Unit {0}) (store : StoreState) (before : List ℕ) →
    is_closed old.standing ≡ true → setting_of store ≡ x → StandsFor store h → FeedsStore x h old piece (Ok d) store old before before
fed_closed x h old piece d store before shut s i =
    record { history = h; replies = []; setting_is = s; store_is = i; course = rw shut (refl, refl, refl); written = sym (append-nil before); each = tt }

pub fed_well : (x : Setting) (h : History) (old : Session) (piece : List ℕ) (d : Unit {0}) (store : StoreState) (after : Standing) (u : Option (List ℕ))
    (before new : List ℕ) (answer : Result (Unit {0}) ReadFault) (frames : List Frame) → is_closed old.standing ≡ false
    → Feeds (is_wide_setting x) old.unfinished piece answer frames u → ServedFrames x h old.standing frames answer store after before new →
    FeedsStore x h old piece (Ok d) store (record { standing = after; unfinished = u }) before new
fed_well x h old piece d store after u before new answer frames open_ reads s =
    let a = s.frames_are in
    let p : ServesPiece x h old piece a.history (record { standing = after; unfinished = u }) (a.replies ++ s.more) =
    record {
      answer = answer;
      frames = frames;
      middle = s.middle;
      reported = a.replies;
      more = s.more;
      reads = reads;
      serves = a.serves;
      ends = s.ends;
      all = refl;
    } in
    record {
      history = a.history;
      replies = a.replies ++ s.more;
      setting_is = a.setting_is;
      store_is = a.store_is;
      course = rw open_ p;
      written = s.written ∙ ap (λ (y : List ℕ). y ++ flat_map encoding s.more) a.written
          ∙ append_assoc before (flat_map encoding a.replies) (flat_map encoding s.more)
          ∙ ap (λ (y : List ℕ). before ++ y) (sym (flat_map-append encoding a.replies s.more));
      each = all_append IsFrame a.replies s.more a.each s.each;
    }

pub fed_short : (x : Setting) (h : History) (old : Session) (piece : List ℕ) (e : AllocError) (store : StoreState) (u : Option (List ℕ)) (before new : List ℕ)
    (answer : Result (Unit {0}) ReadFault) (frames : List Frame) → is_closed old.standing ≡ false
    → Feeds (is_wide_setting x) old.unfinished piece answer frames u → StoppedFrames x h old.standing frames answer store before new →
    FeedsStore x h old piece (Err e) store (record { standing = Closed; unfinished = u }) before new
fed_short x h old piece e store u before new answer frames open_ reads s =
    let a = s.frames_are in
    record {
      history = a.history;
      replies = a.replies;
      setting_is = a.setting_is;
      store_is = a.store_is;
      course = (
        open_,
        record {
          answer = answer;
          frames = frames;
          count = s.count;
          middle = s.middle;
          reads = reads;
          stop = s.stop;
          serves = a.serves;
          goes_on = s.goes_on;
          shut = refl;
        },
      );
      written = a.written;
      each = a.each;
    }

-- ---- an open session's stream has not failed

reads_on : (wide : Bool) (old : Option (List ℕ)) (piece : List ℕ) (d : Unit {0}) (frames : List Frame) (u : Option (List ℕ)) → Feeds wide old piece (Ok d) frames u → u ≢ None
reads_on wide None piece d frames u f n = let bad : Ok d ≡ Err Failed = f.0 in cc
reads_on wide (Some bytes) piece d frames u f n = let bad : Some f.0 ≡ None = sym f.2 ∙ n in cc

pub stays_live : (wide : Bool) (old : Option (List ℕ)) (piece : List ℕ) (answer : Result (Unit {0}) ReadFault) (frames : List Frame) (u : Option (List ℕ)) (after : Standing) →
    Feeds wide old piece answer frames u → (is_closed after ≡ false → IsOk answer) → IsLive after u
stays_live wide old piece (Ok d) frames u after f live open_ = reads_on wide old piece d frames u f
stays_live wide old piece (Err e) frames u after f live open_ = let bad : false ≡ true = live open_ in absurd cc

-- an open session's reading that stopped without a fault was refused memory
pub unread : (wide : Bool) (old : Option (List ℕ)) (piece : List ℕ) (answer : Result (Unit {0}) ReadFault) (frames : List Frame) (new : Option (List ℕ)) → old ≢ None →
    Feeds wide old piece answer frames new → IsUnjudged answer → answer ≡ Err Memory
unread wide None piece answer frames new live f u = absurd (live refl)
unread wide (Some bytes) piece (Ok d) frames new live f u = absurd u
unread wide (Some bytes) piece (Err TooLong) frames new live f u = absurd u
unread wide (Some bytes) piece (Err UnknownKind) frames new live f u = absurd u
unread wide (Some bytes) piece (Err BadPayload) frames new live f u = absurd u
unread wide (Some bytes) piece (Err Memory) frames new live f u = refl
unread wide (Some bytes) piece (Err Failed) frames new live f u = absurd f.0.2

is_err : (answer : Result (Unit {0}) ReadFault) → IsUnjudged answer → IsErr answer
is_err (Ok d) u = absurd u
is_err (Err fault) u = refl

-- and so were no frames of the piece left out
pub unread_after : (x : Setting) (h : History) (old : Session) (piece : List ℕ) (e : AllocError) (store : StoreState) (u : Option (List ℕ))
    (before new : List ℕ) (answer : Result (Unit {0}) ReadFault) (frames : List Frame) → is_closed old.standing ≡ false → IsLive old.standing old.unfinished
    → Feeds (is_wide_setting x) old.unfinished piece answer frames u → IsUnjudged answer → ServedOpen x h old.standing frames store before new →
    IsUnread x h old piece store (record { standing = Closed; unfinished = u }) before new
unfolding fed_short stopped_after
unread_after x h old piece e store u before new answer frames open_ live reads unjudged s = record {
  refusal = e;
  fed = fed_short x h old piece e store u before new answer frames open_ reads
      (stopped_after x h old.standing frames answer store s.middle before new new s.goes_on s.frames_are (is_err answer unjudged) refl);
  answer_is = unread (is_wide_setting x) old.unfinished piece answer frames u (live open_) reads unjudged;
  all = refl;
}

pub both_err : {T E P Q R : Type 0} (r : Result T E) → OnErr r P → OnErr r Q → (P → Q → R) → OnErr r R
both_err (Ok x) p q f = tt
both_err (Err x) p q f = f p q

pub on_err : {T E P Q : Type 0} (r : Result T E) → OnErr r P → (P → Q) → OnErr r Q
on_err (Ok x) p f = tt
on_err (Err x) p f = f p

-- a fault is reported
pub reported : (answer : Result (Unit {0}) ReadFault) (middle : Standing) (r : Result Standing AllocError) (out new : List ℕ) →
    ((after : Standing) → after ≡ Closed → AfterReading answer middle after (refused refusal.BadFrame ∷ []))
    → IfOk r (λ after. after ≡ Closed) → OnOk r (new ≡ out ++ encoding (refused refusal.BadFrame)) → OnOk r (IsFrame (refused refusal.BadFrame)) →
    IfOk r (λ after. Ended answer middle after out new)
reported answer middle (Ok after) out new f shut written fits =
    record {
      more = refused refusal.BadFrame ∷ [];
      ends = f after shut;
      written = written ∙ ap (λ (y : List ℕ). out ++ y)
          (sym (flat_map-cons encoding (refused refusal.BadFrame) [] ∙ append-nil (encoding (refused refusal.BadFrame))));
      each = (fits, tt);
    }
reported answer middle (Err e) out new f shut written fits = tt
