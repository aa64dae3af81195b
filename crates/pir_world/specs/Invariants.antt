-- What each step of a run keeps.
use Rattle.std.specs.Prelude.{◌≡◌, ◌≤◌, ◌<◌, ◌*◌, ◌⊎◌, ℕ, List, [], ◌∷◌, length, take, ◌++◌, true, false, Option, Some, None, slice_get}
use Rattle.std.specs.List.{AllByRecursion, Contains}
use Rattle.matrix_u32.specs.Matrix.{row}
use Rattle.digit_pack.specs.Layout.{record_at, digit_rows}
use Rattle.pir_schemes.specs.declared.scheme.Scheme.{Scheme}
use Rattle.pir_schemes.specs.declared.scheme.Scheme.TheVariants.{Simple}
use Rattle.pir_schemes.specs.Schemes.{scheme_byte}
use Rattle.pir_schemes.specs.Retrievals.{hint_matrix}
use Rattle.pir_schemes.specs.declared.plan.Plan.{Plan}
use Rattle.pir_schemes.specs.Plans.{IsPlan, IsRecordOf, shape_at, slots, profile_of, accepts_profile}
use Rattle.frame_codec.specs.declared.frame.Frame.{Frame}
use Rattle.frame_codec.specs.declared.frame.Frame.TheVariants as frame
use Rattle.frame_codec.specs.declared.refusal.Refusal.TheVariants as refusal
use Rattle.frame_codec.specs.Refusals.{refused}
use Rattle.hint_changes.specs.Changes.{changes_between}
use Rattle.record_log.specs.OldRecords.{entries_bytes}
use Rattle.version_store.specs.Histories.{AreGrowing, History}
use Rattle.version_store.specs.OldRecords.{slots_with_blanks}
use Rattle.server_core.specs.declared.standing.Standing.{Standing}
use Rattle.server_core.specs.declared.standing.Standing.TheVariants.{Reader}
use Rattle.server_core.specs.Serving.{Setting, hint_words, named_hint_rows, hint_part, is_closed}
use Rattle.client_core.specs.declared.state.ClientState.{ClientState}
use Rattle.client_core.specs.declared.state.ServerInfo.{ServerInfo}
use Rattle.client_core.specs.declared.state.Hint.{Hint}
use Rattle.client_core.specs.declared.state.Call.{Call}
use Rattle.client_core.specs.declared.state.Call.TheVariants.{Idle, Hello, Sync, Delta, Changes, Ask, Edit, Append, Publish}
use Rattle.client_core.specs.States.{is_wide_client, scheme_held}
use Rattle.client_core.specs.Calls.{call_words}
use Rattle.client_core.specs.Replies.{are_ascending}
use Rattle.pir_world.specs.Runs.{State, ClientLink, LogEntry, reader_key}
use Rattle.pir_world.specs.Earlier.{IsSentLast, IsServedLast, asks_of, hint_named, IsAsked, HasEarlier}
use Rattle.pir_world.specs.Versions.{HasVersion, HintIs, given_words, name_of_hint, seed_of}
use Rattle.pir_world.specs.Headlines.{IsRight}

-- records within the limits of a plan, each of its bytes
pub record AreRecordsOf (p : Plan) (records : List (List ℕ)) : Type 0 where
  pub plan : IsPlan p (length records)
  pub each : (i : ℕ) → i < length records → IsRecordOf p (record_at records i)

-- versions of such records, numbered from 1 or later, each with as many as the one before or more
pub record GoodHistory (x : Setting) (h : History) : Type 0 where
  pub first : 1 ≤ h.first
  pub versions : (v : ℕ) (records : List (List ℕ)) → HasVersion h v records → AreRecordsOf x.plan records
  pub draft : AreRecordsOf x.plan h.draft
  pub growing : AreGrowing h.draft (h.current ∷ h.past)

-- what is known of a version is true
pub record IsKnownOf (x : Setting) (h : History) (k : ServerInfo) : Type 0 where
  pub records : List (List ℕ)
  pub version_is : HasVersion h k.version records
  pub plan_is : k.plan ≡ x.plan
  pub count_is : k.count ≡ length records

-- what a client knows is true, and then it is a reader
abbrev pub KnownIs : Setting → History → Standing → Option ServerInfo → Type 0
KnownIs x h st None = Unit {0}
KnownIs x h st (Some k) = (st ≡ Reader) × IsKnownOf x h k

-- the parts of the version's hint that came so far
pub record SyncIs (x : Setting) (h : History) (s : Scheme) (v p : ℕ) (known : Option ServerInfo) (parts : List ℕ) : Type 0 where
  pub k : ServerInfo
  pub known_is : known ≡ Some k
  pub asked : k.version ≡ v
  pub records : List (List ℕ)
  pub version_is : HasVersion h v records
  pub parts_are : parts ≡ take (65536 * p) (hint_words x s records)
  pub further : 65536 * p < length (hint_words x s records)

-- the hint held is of the version asked, which is the last known
pub record AskIs (c : ClientState) (i v : ℕ) : Type 0 where
  pub k : ServerInfo
  pub known_is : c.known ≡ Some k
  pub asked : k.version ≡ v
  pub inside : i < k.count
  pub hint : Hint
  pub hint_is : c.hint ≡ Some hint
  pub version_is : hint.version ≡ v

-- the hint held is SimplePIR's, of the version asked from
pub record DeltaIs (c : ClientState) (since : ℕ) : Type 0 where
  pub k : ServerInfo
  pub known_is : c.known ≡ Some k
  pub hint : Hint
  pub hint_is : c.hint ≡ Some hint
  pub scheme_is : hint.scheme ≡ Simple
  pub version_is : hint.version ≡ since

-- what holds of an outstanding call
abbrev pub CallIs : Setting → History → ClientState → Call → Type 0
CallIs x h c Idle = Unit {0}
CallIs x h c Hello = Unit {0}
CallIs x h c (Sync scheme v p) = SyncIs x h scheme v p c.known c.parts
CallIs x h c (Delta since) = DeltaIs c since
CallIs x h c (Changes since) = DeltaIs c since × (is_wide_client c ≡ true)
CallIs x h c (Ask i v number) = AskIs c i v
CallIs x h c Edit = ⊥
CallIs x h c Append = ⊥
CallIs x h c Publish = ⊥

-- refused with code 12, out of memory; stale with a later version that there is; or the reply
-- itself
abbrev pub IsReplyOf : Setting → History → ℕ → Frame → (List (List ℕ) → Frame) → Type 0
IsReplyOf x h v r answer =
    (r ≡ refused refusal.Memory)
    ⊎ ((now : ℕ) × (records : List (List ℕ)) × HasVersion h now records × (v < now) × (r ≡ frame.Stale now (length records)))
    ⊎ ((records : List (List ℕ)) × HasVersion h v records × (r ≡ answer records))

-- the Welcome that names a version with these records
abbrev pub welcome_frame : Setting → ℕ → List (List ℕ) → Frame
welcome_frame x v records =
    frame.Welcome (profile_of x.plan) x.plan.width x.plan.record_len x.plan.groups (length records) v x.plan.dimension x.plan.seed

-- a Delta to a version's hint: its rows are that hint's, and they are all in which the hint of the
-- version asked from is another
pub record IsDeltaTo (x : Setting) (h : History) (since : ℕ) (r : Frame) : Type 0 where
  pub now : ℕ
  pub records : List (List ℕ)
  pub version_is : HasVersion h now records
  pub before : List (List ℕ)
  pub since_is : HasVersion h since before
  pub numbers : List ℕ
  pub few : length numbers ≤ 1024
  pub ascending : are_ascending 0 (digit_rows (shape_at x.plan (length records))) numbers ≡ true
  pub named : (i : ℕ) → i < digit_rows (shape_at x.plan (length records)) →
      Contains numbers i ⊎ (row (hint_matrix Simple x.plan before) i ≡ row (hint_matrix Simple x.plan records) i)
  pub reply_is : r ≡ frame.Delta since now (length records) (named_hint_rows x records numbers)

-- Changes to a version from an earlier one: their entries are all that differs between the two, of
-- the bytes that records have in the digits, where blanks stand for those that were appended
-- between
pub record IsChangesTo (x : Setting) (h : History) (since : ℕ) (r : Frame) : Type 0 where
  pub now : ℕ
  pub records : List (List ℕ)
  pub version_is : HasVersion h now records
  pub before : List (List ℕ)
  pub since_is : HasVersion h since before
  pub more : length before ≤ length records
  pub reply_is : r ≡ frame.Changes since now (length records)
      (entries_bytes (changes_between (slots_with_blanks x.plan (length records) before) (slots x.plan records)))

-- a reply to the outstanding call, of a client that holds a hint of this scheme
abbrev pub IsReply : Setting → History → Standing → List ℕ → Scheme → Call → Frame → Type 0
IsReply x h st seed s Hello r =
    (st ≡ Reader) × ((v : ℕ) × (records : List (List ℕ)) × HasVersion h v records × (r ≡ welcome_frame x v records))
IsReply x h st seed s (Sync scheme v p) r =
    IsReplyOf x h v r (λ records. frame.HintPart (scheme_byte scheme) v p (hint_part x scheme records p))
IsReply x h st seed s (Delta since) r =
    (r ≡ refused refusal.Memory)
    ⊎ ((now : ℕ) × (records : List (List ℕ)) × HasVersion h now records × (r ≡ frame.NoDelta now (length records)))
    ⊎ IsDeltaTo x h since r
IsReply x h st seed s (Changes since) r =
    (r ≡ refused refusal.Memory)
    ⊎ ((now : ℕ) × (records : List (List ℕ)) × HasVersion h now records × (r ≡ frame.NoDelta now (length records)))
    ⊎ IsChangesTo x h since r
IsReply x h st seed s (Ask i v n) r =
    IsReplyOf x h v r (λ records. frame.Answer (scheme_byte s) v
    (given_words x.plan records seed (record { index = i; scheme = s; version = v; number = n })))
IsReply x h st seed s _ r = ⊥

-- the frame of an outstanding call. A world's clients are readers, and make no other calls
abbrev pub outstanding_frame : ClientState → Call → Frame
outstanding_frame c Hello = frame.Hello c.profile reader_key
outstanding_frame c (Sync scheme v p) = frame.HintAsk (scheme_byte scheme) v p
outstanding_frame c (Delta since) = frame.DeltaAsk since
outstanding_frame c (Changes since) = frame.ChangesAsk since
outstanding_frame c (Ask i v n) = frame.Query (scheme_byte (scheme_held c.hint)) v (call_words c.known (scheme_held c.hint) c.seed n i)
outstanding_frame c _ = frame.Bye

-- the call's frame is on its way, or a reply to it is
abbrev pub InFlight : Setting → History → Standing → List ℕ → ClientState → Call → List Frame → List Frame → Type 0
InFlight x h st seed c call up down =
    ((up ≡ outstanding_frame c call ∷ []) × (down ≡ []))
    ⊎ ((up ≡ []) × ((r : Frame) × (down ≡ r ∷ []) × IsReply x h st seed (scheme_held c.hint) call r))

-- at most one frame is on its way, and none without a call
abbrev pub IsDuringCall : Setting → History → Standing → List ℕ → ClientState → Call → List Frame → List Frame → Type 0
IsDuringCall x h st seed c Idle up down = (up ≡ []) × (down ≡ [])
IsDuringCall x h st seed c Hello up down = InFlight x h st seed c Hello up down
IsDuringCall x h st seed c (Sync scheme v p) up down = InFlight x h st seed c (Sync scheme v p) up down
IsDuringCall x h st seed c (Delta since) up down = InFlight x h st seed c (Delta since) up down
IsDuringCall x h st seed c (Changes since) up down = InFlight x h st seed c (Changes since) up down
IsDuringCall x h st seed c (Ask i v n) up down = InFlight x h st seed c (Ask i v n) up down
IsDuringCall x h st seed c Edit up down = ⊥
IsDuringCall x h st seed c Append up down = ⊥
IsDuringCall x h st seed c Publish up down = ⊥

-- a client, its session and what is between them
pub record LinkInvariant (x : Setting) (h : History) (seed : List ℕ) (l : ClientLink) : Type 0 where
  pub seed_is : l.client.seed ≡ seed
  pub profile_is : accepts_profile x.plan l.client.profile ≡ true
  pub alive : l.client.failed ≡ false
  pub unclosed : is_closed l.standing ≡ false
  pub known : KnownIs x h l.standing l.client.known
  pub hint : HintIs x h l.client.hint
  pub call : CallIs x h l.client l.client.call
  pub phase : IsDuringCall x h l.standing seed l.client l.client.call l.up.frames l.down.frames

-- a sync's frame asks for its next part, or for what changed; an ask's is the query of its
-- retrieval, which was asked for last
abbrev pub IsFrom : Setting → History → List ℕ → ℕ → Scheme → Call → Frame → List LogEntry → Type 0
IsFrom x h seed k s (Ask i v n) f first =
    IsAsked x h seed k (record { index = i; scheme = s; version = v; number = n }) f first
IsFrom x h seed k s (Sync scheme v p) f first = f ≡ frame.HintAsk (scheme_byte scheme) v p
IsFrom x h seed k s (Delta since) f first = f ≡ frame.DeltaAsk since
IsFrom x h seed k s (Changes since) f first = f ≡ frame.ChangesAsk since
IsFrom x h seed k s _ f first = Unit {0}

-- what the log says of a client: its next number, the hint that it holds, the frame on its way, or
-- the reply
pub record LogInvariant (x : Setting) (h : History) (seed : List ℕ) (k : ℕ) (l : ClientLink) (log : List LogEntry) : Type 0 where
  pub number : l.client.number ≡ asks_of k log
  pub hint : name_of_hint l.client.hint ≡ hint_named k log
  pub sent : (f : Frame) → l.up.frames ≡ f ∷ [] →
      (first : List LogEntry) × IsSentLast k f first log × IsFrom x h seed k (scheme_held l.client.hint) l.client.call f first
  pub served : (r : Frame) → l.down.frames ≡ r ∷ [] →
      (f : Frame) × (first : List LogEntry) × IsServedLast k f r first log × IsFrom x h seed k (scheme_held l.client.hint) l.client.call f first

-- P of each entry and those before it, where these came before all
abbrev pub EachAfter : (List LogEntry → LogEntry → Type 0) → List LogEntry → List LogEntry → Type 0
EachAfter P before [] = Unit {0}
EachAfter P before (e ∷ es) = P before e × EachAfter P (before ++ e ∷ []) es

-- all of a state
pub record WorldInvariant (x : Setting) (seeds : List (List ℕ)) (s : State) : Type 0 where
  pub history : GoodHistory x s.history
  pub links : (k : ℕ) (l : ClientLink) → slice_get s.links k ≡ Some l → LinkInvariant x s.history (seed_of seeds k) l
  pub logs : (k : ℕ) (l : ClientLink) → slice_get s.links k ≡ Some l → LogInvariant x s.history (seed_of seeds k) k l s.log
  pub entries : AllByRecursion (IsRight x seeds s.history) s.log
  pub earlier : EachAfter (HasEarlier x seeds s.history) [] s.log
