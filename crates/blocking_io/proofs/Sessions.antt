-- Pieces of a session's stream, one after another.
use Rattle.std.proofs.Common.{◌≡◌, ◌≢◌, ◌+◌, not, ℕ, Bool, true, false, List, [], ◌∷◌, ◌++◌, length, take, Option, Some, Result, Ok, Err, refl, sym, ap, subst, ◌∙◌, append_assoc, arith, inl, inr}
use Rattle.std.specs.Prelude.{MatchBool, option_to_list}
use Rattle.std.specs.List.{flat_map}
use Rattle.std.specs.declared.alloc.AllocError.{AllocError}
use Rattle.std.proofs.lemmas.List.{append-nil, length-append}
use Rattle.std.proofs.lemmas.List.Concat.{flat_map-append}
use Rattle.frame_codec.specs.declared.frame.Frame.{Frame}
use Rattle.frame_codec.specs.declared.reader.ReadFault.{ReadFault}
use Rattle.frame_codec.specs.declared.reader.ReadFault.TheVariants as read_fault
use Rattle.frame_codec.specs.Frames.{encoding, IsFrame}
use Rattle.frame_codec.specs.Streams.{Feeds}
use Rattle.frame_codec.proofs.Runs.{all_append, begins_none}
use Rattle.frame_codec.proofs.Prefixes.{nothing_partial}
use Rattle.version_store.specs.Histories.{StoreState, History, StandsFor}
use Rattle.server_core.specs.Cores.{is_open}
use Rattle.server_core.specs.declared.standing.Standing.{Standing}
use Rattle.server_core.specs.declared.standing.Standing.TheVariants as standing
use Rattle.server_core.specs.Serving.{is_wide_setting, Setting, setting_of, ServesAll, is_closed}
use Rattle.server_core.specs.Sessions.{Session, new_session, AfterReading, EndsPiece, IsStop, ServesPiece, ClosesForMemory, FeedsSession, FeedsStore}
use Rattle.blocking_io.specs.declared.serving.Ending.{Ending}
use Rattle.blocking_io.specs.declared.serving.ServeFault.{ServeFault}
use Rattle.blocking_io.specs.declared.serving.ServeFault.TheVariants as fault
use Rattle.blocking_io.specs.Serving.{FedPart, FedWhole, IsStreamServed, ServesStream, ServesStreamPiece as TurnServes}
use Rattle.blocking_io.proofs.Streams.{take_both, feeds_both, cut_after}

not_both : {P : Type 0} (b : Bool) → b ≡ true → b ≡ false → P
not_both b t f = absurd (let no : true ≡ false = sym t ∙ f in cc)

-- ---- frames, and then others

serves_both : (x : Setting) (h : History) (st : Standing) (fs gs : List Frame) (h1 h2 : History) (st1 st2 : Standing) (rs more : List Frame) →
    ServesAll x h st fs h1 st1 rs → is_closed st1 ≡ false → ServesAll x h1 st1 gs h2 st2 more
    → ServesAll x h st (fs ++ gs) h2 st2 (rs ++ more)
serves_both x h st [] gs h1 h2 st1 st2 rs more a open_ b = rw (← a.0, ← a.1, a.2) b
serves_both x h standing.Closed (f ∷ fs) gs h1 h2 st1 st2 rs more a open_ b = not_both (is_closed st1) (ap is_closed a.1) open_
serves_both x h standing.Stranger (f ∷ fs) gs h1 h2 st1 st2 rs more a open_ b = (
  a.0,
  a.1 ++ more,
  a.2,
  rw a.3 (append_assoc (option_to_list a.0.reply) a.1 more),
  serves_both x a.0.history a.0.standing fs gs h1 h2 st1 st2 a.1 more a.4 open_ b,
)
serves_both x h standing.Reader (f ∷ fs) gs h1 h2 st1 st2 rs more a open_ b = (
  a.0,
  a.1 ++ more,
  a.2,
  rw a.3 (append_assoc (option_to_list a.0.reply) a.1 more),
  serves_both x a.0.history a.0.standing fs gs h1 h2 st1 st2 a.1 more a.4 open_ b,
)
serves_both x h standing.Publisher (f ∷ fs) gs h1 h2 st1 st2 rs more a open_ b = (
  a.0,
  a.1 ++ more,
  a.2,
  rw a.3 (append_assoc (option_to_list a.0.reply) a.1 more),
  serves_both x a.0.history a.0.standing fs gs h1 h2 st1 st2 a.1 more a.4 open_ b,
)

-- ---- a piece that leaves the session open

-- it was read without a fault, and nothing was said after its frames
record LeftOpen (answer : Result (Unit {0}) ReadFault) (middle after : Standing) (more : List Frame) : Type 0 where
  answer_is : answer ≡ Ok tt
  after_is : after ≡ middle
  none : more ≡ []

left_by_reading : (answer : Result (Unit {0}) ReadFault) (middle after : Standing) (more : List Frame) → AfterReading answer middle after more →
    is_closed after ≡ false → LeftOpen answer middle after more
left_by_reading (Ok d) middle after more r open_ = record { answer_is = refl; after_is = r.0; none = r.1 }
left_by_reading (Err read_fault.TooLong) middle after more r open_ = not_both (is_closed after) (ap is_closed r.0) open_
left_by_reading (Err read_fault.UnknownKind) middle after more r open_ = not_both (is_closed after) (ap is_closed r.0) open_
left_by_reading (Err read_fault.BadPayload) middle after more r open_ = not_both (is_closed after) (ap is_closed r.0) open_
left_by_reading (Err read_fault.Memory) middle after more r open_ = absurd r
left_by_reading (Err read_fault.Failed) middle after more r open_ = absurd r

left_open : (answer : Result (Unit {0}) ReadFault) (middle after : Standing) (more : List Frame) → EndsPiece answer middle after more →
    is_closed after ≡ false → LeftOpen answer middle after more
left_open answer middle after more e open_ = by_middle (is_closed middle) refl e
  where
    by_middle : (b : Bool) → b ≡ is_closed middle → MatchBool b ((after ≡ middle) × (more ≡ [])) (AfterReading answer middle after more) →
        LeftOpen answer middle after more
    by_middle true is r = not_both (is_closed after) (ap is_closed r.0 ∙ sym is) open_
    by_middle false is r = left_by_reading answer middle after more r open_

-- ---- two pieces

-- what the first of them did
record First (x : Setting) (h : History) (old : Session) (read : List ℕ) (h1 : History) (s1 : Session) (rs : List Frame) : Type 0 where
  frames : List Frame
  reads : Feeds (is_wide_setting x) old.unfinished read (Ok tt) frames s1.unfinished
  serves : ServesAll x h old.standing frames h1 s1.standing rs

first_of : (x : Setting) (h : History) (old : Session) (read : List ℕ) (h1 : History) (s1 : Session) (rs : List Frame) → ServesPiece x h old read h1 s1 rs →
    is_closed s1.standing ≡ false → First x h old read h1 s1 rs
first_of x h old read h1 s1 rs a open_ =
    let left = left_open a.answer a.middle s1.standing a.more a.ends open_ in
    let rs_is : rs ≡ a.reported = a.all ∙ ap (λ (m : List Frame). a.reported ++ m) left.none ∙ append-nil a.reported in
    record {
      frames = a.frames;
      reads = subst (λ (r : Result (Unit {0}) ReadFault). Feeds (is_wide_setting x) old.unfinished read r a.frames s1.unfinished) left.answer_is a.reads;
      serves = subst (λ (r : List Frame). ServesAll x h old.standing a.frames h1 s1.standing r) (sym rs_is)
          (subst (λ (st : Standing). ServesAll x h old.standing a.frames h1 st a.reported) (sym left.after_is) a.serves);
    }

then_whole : (x : Setting) (h : History) (old : Session) (read piece : List ℕ) (h1 h2 : History) (s1 s2 : Session) (rs more : List Frame) →
    First x h old read h1 s1 rs → is_closed s1.standing ≡ false → ServesPiece x h1 s1 piece h2 s2 more
    → ServesPiece x h old (read ++ piece) h2 s2 (rs ++ more)
then_whole x h old read piece h1 h2 s1 s2 rs more a open_ b = record {
  answer = b.answer;
  frames = a.frames ++ b.frames;
  middle = b.middle;
  reported = rs ++ b.reported;
  more = b.more;
  reads = feeds_both (is_wide_setting x) old.unfinished read piece b.answer a.frames b.frames s1.unfinished s2.unfinished a.reads b.reads;
  serves = serves_both x h old.standing a.frames b.frames h1 h2 s1.standing b.middle rs b.reported a.serves open_ b.serves;
  ends = b.ends;
  all = ap (λ (m : List Frame). rs ++ m) b.all ∙ sym (append_assoc rs b.reported b.more);
}

stop_after : (answer : Result (Unit {0}) ReadFault) (fs gs : List Frame) (n : ℕ) → IsStop answer gs n → IsStop answer (fs ++ gs) (length fs + n)
stop_after answer fs gs n (inl lt) = inl (omega (arith, length-append fs gs, lt))
stop_after answer fs gs n (inr e) = inr (omega (arith, length-append fs gs, e.0), e.1)

then_broken : (x : Setting) (h : History) (old : Session) (read piece : List ℕ) (h1 h2 : History) (s1 s2 : Session) (rs more : List Frame) →
    First x h old read h1 s1 rs → is_closed s1.standing ≡ false → ClosesForMemory x h1 s1 piece h2 s2 more
    → ClosesForMemory x h old (read ++ piece) h2 s2 (rs ++ more)
then_broken x h old read piece h1 h2 s1 s2 rs more a open_ b = record {
  answer = b.answer;
  frames = a.frames ++ b.frames;
  count = length a.frames + b.count;
  middle = b.middle;
  reads = feeds_both (is_wide_setting x) old.unfinished read piece b.answer a.frames b.frames s1.unfinished s2.unfinished a.reads b.reads;
  stop = stop_after b.answer a.frames b.frames b.count b.stop;
  serves = subst (λ (fs : List Frame). ServesAll x h old.standing fs h2 b.middle (rs ++ more)) (sym (take_both b.count a.frames b.frames))
      (serves_both x h old.standing a.frames (take b.count b.frames) h1 h2 s1.standing b.middle rs more a.serves open_ b.serves);
  goes_on = b.goes_on;
  shut = b.shut;
}

-- what a piece does to an open session
at_open : (x : Setting) (h : History) (old : Session) (piece : List ℕ) (h2 : History) (new : Session) (more : List Frame) → is_closed old.standing ≡ false →
    FeedsSession x h old piece (Ok tt) h2 new more → ServesPiece x h old piece h2 new more
at_open x h old piece h2 new more open_ f = by_state (is_closed old.standing) open_ f
  where
    by_state : (b : Bool) → b ≡ false → MatchBool b ((h2 ≡ h) × (new ≡ old) × (more ≡ [])) (ServesPiece x h old piece h2 new more) →
        ServesPiece x h old piece h2 new more
    by_state true e m = let no : true ≡ false = e in absurd cc
    by_state false e m = m

then_feeds : (x : Setting) (h : History) (old : Session) (read piece : List ℕ) (h1 h2 : History) (s1 s2 : Session) (rs more : List Frame)
    (answer : Result (Unit {0}) AllocError) → is_closed old.standing ≡ false → FeedsSession x h old read (Ok tt) h1 s1 rs → is_closed s1.standing ≡ false
    → FeedsSession x h1 s1 piece answer h2 s2 more → FeedsSession x h old (read ++ piece) answer h2 s2 (rs ++ more)
then_feeds x h old read piece h1 h2 s1 s2 rs more (Ok d) live a open_ b =
    let first = first_of x h old read h1 s1 rs (at_open x h old read h1 s1 rs live a) open_ in
    let second : ServesPiece x h1 s1 piece h2 s2 more = at_open x h1 s1 piece h2 s2 more open_ b in
    rw live (then_whole x h old read piece h1 h2 s1 s2 rs more first open_ second)
then_feeds x h old read piece h1 h2 s1 s2 rs more (Err e) live a open_ b =
    let first = first_of x h old read h1 s1 rs (at_open x h old read h1 s1 rs live a) open_ in
    (live, then_broken x h old read piece h1 h2 s1 s2 rs more first open_ b.1)

-- a stream that left the session open, and another piece of it
pub fed_both : (x : Setting) (h : History) (old : Session) (read piece out bytes : List ℕ) (answer : Result (Unit {0}) AllocError) (store1 store2 : StoreState)
    (s1 s2 : Session) → is_closed old.standing ≡ false → (a : FeedsStore x h old read (Ok tt) store1 s1 [] out) → is_closed s1.standing ≡ false
    → FeedsStore (setting_of store1) a.history s1 piece answer store2 s2 [] bytes → FeedsStore x h old (read ++ piece) answer store2 s2 [] (out ++ bytes)
fed_both x h old read piece out bytes answer store1 store2 s1 s2 live a open_ step =
    let b : FeedsStore x a.history s1 piece answer store2 s2 [] bytes =
    subst (λ (y : Setting). FeedsStore y a.history s1 piece answer store2 s2 [] bytes) a.setting_is step in
    record {
      history = b.history;
      replies = a.replies ++ b.replies;
      setting_is = b.setting_is;
      store_is = b.store_is;
      course = then_feeds x h old read piece a.history b.history s1 s2 a.replies b.replies answer live a.course open_ b.course;
      written = ap (λ (y : List ℕ). y ++ bytes) a.written ∙ ap (λ (y : List ℕ). flat_map encoding a.replies ++ y) b.written
          ∙ sym (flat_map-append encoding a.replies b.replies);
      each = all_append IsFrame a.replies b.replies a.each b.each;
    }

-- the same where of the other piece a part was served
pub fed_parts : (x : Setting) (h : History) (old : Session) (read piece out bytes : List ℕ) (answer : Result (Unit {0}) AllocError) (store1 store2 : StoreState)
    (s1 s2 : Session) → is_closed old.standing ≡ false → (a : FeedsStore x h old read (Ok tt) store1 s1 [] out) → is_closed s1.standing ≡ false
    → FedPart (setting_of store1) a.history s1 piece answer store2 s2 bytes → FedPart x h old (read ++ piece) answer store2 s2 (out ++ bytes)
fed_parts x h old read piece out bytes answer store1 store2 s1 s2 live a open_ step = record {
  part = read ++ step.part;
  rest = step.rest;
  whole = ap (λ (y : List ℕ). read ++ y) step.whole ∙ sym (append_assoc read step.part step.rest);
  fed = fed_both x h old read step.part out bytes answer store1 store2 s1 s2 live a open_ step.fed;
}

-- all of some bytes, as a part of them
pub all_fed : (x : Setting) (h : History) (old : Session) (piece : List ℕ) (answer : Result (Unit {0}) AllocError) (store : StoreState) (new : Session)
    (out : List ℕ) → FeedsStore x h old piece answer store new [] out → FedPart x h old piece answer store new out
all_fed x h old piece answer store new out f = record { part = piece; rest = []; whole = sym (append-nil piece); fed = f }

-- nothing was read yet
fed_none : (h : History) (store : StoreState) → StandsFor store h → FeedsStore (setting_of store) h new_session [] (Ok tt) store new_session [] []
fed_none h store stands = record {
  history = h;
  replies = [];
  setting_is = refl;
  store_is = stands;
  course = record {
    answer = Ok tt;
    frames = [];
    middle = standing.Stranger;
    reported = [];
    more = [];
    reads = ([], record { begins = begins_none (is_wide_setting (setting_of store)) []; partial = nothing_partial (is_wide_setting (setting_of store)) }, refl);
    serves = (refl, refl, refl);
    ends = (refl, refl);
    all = refl;
  };
  written = refl;
  each = tt;
}

-- ---- turns

-- the session is open, and all that was read was served
abbrev pub IsOpenStill : Setting → History → List ℕ → List ℕ → StoreState → Option Session → Type 0
IsOpenStill x h read out store found = (s : Session) × (found ≡ Some s) × (is_closed s.standing ≡ false) × FeedsStore x h new_session read (Ok tt) store s [] out

-- it was served, whether it is open or not
abbrev pub IsThere : Setting → History → List ℕ → List ℕ → StoreState → Option Session → Type 0
IsThere x h read out store found = (s : Session) × (found ≡ Some s) × FedWhole x h new_session read store s out

-- what a piece does to the session that is there
abbrev pub ServesOnePiece : StoreState → Option Session → List ℕ → Result (Unit {0}) ServeFault → StoreState → Option Session → List ℕ → Type 0
ServesOnePiece store1 found piece answer store2 new bytes =
    (h : History) → StandsFor store1 h → (old : Session) → found ≡ Some old → TurnServes (setting_of store1) h old piece answer store2 new bytes

pub opened : (h : History) (store : StoreState) (found : Option Session) → StandsFor store h → found ≡ Some new_session →
    IsOpenStill (setting_of store) h [] [] store found
opened h store found stands e = (new_session, e, refl, fed_none h store stands)

pub not_begun : (h : History) (store : StoreState) (turns : ℕ) (left : Option (List ℕ)) → StandsFor store h →
    ServesStream (setting_of store) h turns (Err fault.Memory) [] [] left store
not_begun h store turns left stands =
    (new_session, Ok tt, all_fed (setting_of store) h new_session [] (Ok tt) store new_session [] (fed_none h store stands), λ _. refl)

pub left_so : (x : Setting) (h : History) (read out : List ℕ) (store : StoreState) (found : Option Session) → IsOpenStill x h read out store found →
    IsStreamServed x h read out store false
unfolding all_fed
left_so x h read out store found o =
    (o.0, record { parts = all_fed x h new_session read (Ok tt) store o.0 out o.3; all = λ _. refl }, o.2)

pub step_well : (x : Setting) (h : History) (read out piece bytes : List ℕ) (store1 store2 : StoreState) (found new : Option Session) →
    IsOpenStill x h read out store1 found → ServesOnePiece store1 found piece (Ok tt) store2 new bytes
    → IsThere x h (read ++ piece) (out ++ bytes) store2 new
unfolding fed_parts
step_well x h read out piece bytes store1 store2 found new o step =
    let t = step o.3.history o.3.store_is o.0 o.1 in (
      t.0,
      t.1,
      record {
        parts = fed_parts x h new_session read piece out bytes (Ok tt) store1 store2 o.0 t.0 refl o.3 o.2 t.2.parts;
        all = t.2.all;
      },
    )

pub step_faulty : (e : ServeFault) (x : Setting) (h : History) (turns : ℕ) (read out piece bytes : List ℕ) (left : Option (List ℕ))
    (store1 store2 : StoreState) (found new : Option Session) → IsOpenStill x h read out store1 found
    → ServesOnePiece store1 found piece (Err e) store2 new bytes → e ≢ fault.IdInUse → ServesStream x h turns (Err e) (read ++ piece) (out ++ bytes) left store2
step_faulty fault.IdInUse x h turns read out piece bytes left store1 store2 found new o step other = absurd (other refl)
step_faulty fault.Read x h turns read out piece bytes left store1 store2 found new o step other = absurd (step o.3.history o.3.store_is o.0 o.1)
step_faulty fault.Write x h turns read out piece bytes left store1 store2 found new o step other =
    let t = step o.3.history o.3.store_is o.0 o.1 in
    (t.0, t.1, out ++ t.2, fed_parts x h new_session read piece out t.2 t.1 store1 store2 o.0 t.0 refl o.3 o.2 t.3, cut_after out bytes t.2 t.4)
step_faulty fault.Memory x h turns read out piece bytes left store1 store2 found new o step other =
    let t = step o.3.history o.3.store_is o.0 o.1 in (
      t.0,
      Err t.1,
      fed_parts x h new_session read piece out bytes (Err t.1) store1 store2 o.0 t.0 refl o.3 o.2 t.2,
      λ e. absurd (let no : Err t.1 ≡ Ok tt = e in cc),
    )
step_faulty fault.TurnsUsedUp x h turns read out piece bytes left store1 store2 found new o step other = absurd (step o.3.history o.3.store_is o.0 o.1)

negated : (b c : Bool) → not b ≡ c → b ≡ not c
negated true c e = ap not e
negated false c e = ap not e

pub found_open : (x : Setting) (h : History) (read out : List ℕ) (store : StoreState) (found : Option Session) → IsThere x h read out store found →
    is_open found ≡ true → IsOpenStill x h read out store found
found_open x h read out store found t e =
    let open_ : is_closed t.0.standing ≡ false = negated (is_closed t.0.standing) true (ap is_open (sym t.1) ∙ e) in
    let p = t.2.parts in
    let whole : read ≡ p.part = p.whole ∙ ap (λ (y : List ℕ). p.part ++ y) (t.2.all open_) ∙ append-nil p.part in
    (t.0, t.1, open_, subst (λ (y : List ℕ). FeedsStore x h new_session y (Ok tt) store t.0 [] out) (sym whole) p.fed)

pub found_shut : (x : Setting) (h : History) (read out : List ℕ) (store : StoreState) (found : Option Session) → IsThere x h read out store found →
    is_open found ≡ false → IsStreamServed x h read out store true
found_shut x h read out store found t e = (t.0, t.2, negated (is_closed t.0.standing) false (ap is_open (sym t.1) ∙ e))

-- stores that are the same before and after
pub same_stores : (h : History) (turns : ℕ) (answer : Result Ending ServeFault) (read out : List ℕ) (left : Option (List ℕ)) (a b c d : StoreState) → b ≡ a →
    d ≡ c → (StandsFor b h → ServesStream (setting_of b) h turns answer read out left c)
    → StandsFor a h → ServesStream (setting_of a) h turns answer read out left d
same_stores h turns answer read out left a b c d first last served =
    subst (λ (y : StoreState). StandsFor a h → ServesStream (setting_of a) h turns answer read out left y) (sym last)
    (subst (λ (y : StoreState). StandsFor y h → ServesStream (setting_of y) h turns answer read out left c) first served)

-- ---- one fault, of a piece and of the whole

abbrev pub of_piece : ServeFault → Result (Unit {0}) ServeFault
of_piece e = Err e

abbrev pub of_whole : ServeFault → Result Ending ServeFault
of_whole e = Err e

pub still_opened : (e : ServeFault) → (of_piece e ≡ of_piece fault.IdInUse → ⊥) → of_whole e ≡ of_whole fault.IdInUse → ⊥
still_opened e other p = other (ap of_piece (same e fault.IdInUse p))
  where
    same : (e f : ServeFault) → of_whole e ≡ of_whole f → e ≡ f
    same e f p = cc
