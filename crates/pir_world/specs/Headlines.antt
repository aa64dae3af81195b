-- What is right of a run.
use Rattle.std.specs.Prelude.{◌≡◌, ◌≢◌, ◌<◌, ◌⊎◌, ◌==◌, ◌&&◌, ℕ, nat_le, Bool, true, List, length, All, ◌^◌, Option, Some, slice_get}
use Rattle.std.specs.List.{AllByRecursion}
use Rattle.digit_pack.specs.Layout.{record_at, is_layout}
use Rattle.digit_pack.specs.Slots.{is_form}
use Rattle.pir_schemes.specs.declared.scheme.Scheme.{Scheme}
use Rattle.pir_schemes.specs.Schemes.{scheme_byte}
use Rattle.pir_schemes.specs.Plans.{shape_at}
use Rattle.pir_schemes.specs.Laws.{IsCertainOf}
use Rattle.pir_schemes.specs.Retrievals.{answer_words, IsQuietOf}
use Rattle.frame_codec.specs.declared.frame.Frame.{Frame}
use Rattle.frame_codec.specs.declared.frame.Frame.TheVariants as frame
use Rattle.frame_codec.specs.declared.refusal.Refusal.TheVariants as refusal
use Rattle.frame_codec.specs.Refusals.{code_of, refused}
use Rattle.snapshot_file.specs.declared.snapshot.Header.{Header}
use Rattle.snapshot_file.specs.Snapshots.{shape_of, records_len, has_slots}
use Rattle.version_store.specs.Openings.{IsSound}
use Rattle.version_store.specs.Histories.{History}
use Rattle.server_core.specs.Serving.{Setting}
use Rattle.client_core.specs.declared.state.Event.{Event}
use Rattle.client_core.specs.declared.state.Event.TheVariants.{Welcomed, Synced, Retrieved, Stale, Refused}
use Rattle.client_core.specs.Replies.{event_read}
use Rattle.pir_world.specs.declared.steps.Step.{Step}
use Rattle.pir_world.specs.declared.steps.Outcome.TheVariants.{Published, Reported, Failed}
use Rattle.pir_world.specs.Runs.{State, ClientLink, AcceptedAsk, LogEntry, Served, Ended, Plain, RunsTo, opening, setting_in}
use Rattle.pir_world.specs.Versions.{HasVersion, IsVersion, given_words, record_read, seed_of, HintIs, name_of_hint}
use Rattle.pir_world.specs.Earlier.{AllWithEarlier, HasEarlier, hint_named}

-- An answered retrieval: there is the version that it names, with a record of its index; the answer
-- is this version's, and the event is what the answer reads as. If the retrieval's noise sums stay
-- below half of delta, and on a certain shape always, the event has exactly the record's bytes in
-- this version.
pub record IsAnswered (x : Setting) (h : History) (seed : List ℕ) (r : AcceptedAsk) (reply : Frame) (event : Event) : Type 0 where
  pub records : List (List ℕ)
  pub version_is : HasVersion h r.version records
  pub inside : r.index < length records
  pub answer_is : reply ≡ frame.Answer (scheme_byte r.scheme) r.version (given_words x.plan records seed r)
  pub event_is : event ≡ event_read r.index r.version (record_read x.plan records seed r)
  pub quiet : IsQuietOf r.scheme x.plan records seed r.number r.index → event ≡ Retrieved r.index r.version (record_at records r.index)
  pub certain : IsCertainOf r.scheme (shape_at x.plan (length records)) → event ≡ Retrieved r.index r.version (record_at records r.index)

-- A stale retrieval: the reply names a version that there is, later than the one that the retrieval
-- names, with its count of records, and the client reports that version. That it was current when
-- the query was served, the entry of that query says (`IsRightReply`).
pub record IsStale (h : History) (r : AcceptedAsk) (reply : Frame) (event : Event) : Type 0 where
  pub now : ℕ
  pub records : List (List ℕ)
  pub version_is : HasVersion h now records
  pub later : r.version < now
  pub reply_is : reply ≡ frame.Stale now (length records)
  pub event_is : event ≡ Stale now

-- how a retrieval ends: with its answer, as stale, or refused with code 12, out of memory (that
-- memory was lacking is not said)
abbrev pub IsRightEnd : Setting → History → List ℕ → AcceptedAsk → Frame → Event → Type 0
IsRightEnd x h seed r reply event =
    IsAnswered x h seed r reply event ⊎ IsStale h r reply event
    ⊎ ((reply ≡ refused refusal.Memory) × (event ≡ Refused (code_of refusal.Memory)))

-- A query of a scheme was served while `now` was current: it is refused as stale, with the current
-- version, exactly when it names another. Else it is answered on that version's records, or refused
-- with code 12, out of memory (that memory was lacking is not said).
pub record IsRightReply (x : Setting) (h : History) (scheme : Scheme) (version now : ℕ) (words : List ℕ) (reply : Option Frame) : Type 0 where
  pub records : List (List ℕ)
  pub version_is : HasVersion h now records
  pub stale : version ≢ now → reply ≡ Some (frame.Stale now (length records))
  pub answered : version ≡ now →
      (reply ≡ Some (frame.Answer (scheme_byte scheme) now (answer_words scheme x.plan records words)))
      ⊎ (reply ≡ Some (refused refusal.Memory))

-- An event that ended no retrieval is right: a Welcomed, a Synced or a Stale names a version that
-- there is, a Refused may come of any call, and there is no other event.
abbrev pub IsRightEvent : History → Event → Type 0
IsRightEvent h (Welcomed v) = IsVersion h v
IsRightEvent h (Synced scheme v) = IsVersion h v
IsRightEvent h (Stale v) = IsVersion h v
IsRightEvent h (Refused code) = Unit {0}
IsRightEvent h _ = ⊥

-- An entry is right by itself: a query names a scheme, and was served rightly; a retrieval ended
-- rightly; any other event is right; a version published is one that there is; no client fails. Of
-- every other entry, as a refused edit or a frame served that is no query, nothing is asked here.
abbrev pub IsRight : Setting → List (List ℕ) → History → LogEntry → Type 0
IsRight x seeds h (Served k (frame.Query scheme version words) now reply) =
    (s : Scheme) × (scheme ≡ scheme_byte s) × IsRightReply x h s version now words reply
IsRight x seeds h (Ended k r reply event) = IsRightEnd x h (seed_of seeds k) r reply event
IsRight x seeds h (Plain (Reported k event)) = IsRightEvent h event
IsRight x seeds h (Plain (Published v)) = IsVersion h v
IsRight x seeds h (Plain (Failed k fault)) = ⊥
IsRight x seeds h _ = Unit {0}

-- All that was written down of a run is right, by itself (`IsRight`) and by what was written down
-- before it (`HasEarlier`). Every hint that a client holds is right, and is the one that the log
-- names.
pub record Headline (x : Setting) (seeds : List (List ℕ)) (s : State) : Type 0 where
  pub entries : AllByRecursion (IsRight x seeds s.history) s.log
  pub earlier : AllWithEarlier (HasEarlier x seeds s.history) s.log
  pub hints : (k : ℕ) (l : ClientLink) → slice_get s.links k ≡ Some l → HintIs x s.history l.client.hint
  pub named : (k : ℕ) (l : ClientLink) → slice_get s.links k ≡ Some l → name_of_hint l.client.hint ≡ hint_named k s.log

-- a snapshot that a store accepts, with bytes for its records
pub record IsOpening (h : Header) (records : List ℕ) : Type 0 where
  pub sound : IsSound h records
  pub bytes : All (λ b. b < 2 ^ 8) records

-- whether a store accepts a snapshot: there is such a form, its layout is within its limits, the
-- dimension is 1 to 1024, the version 1 or more, there are as many bytes as its records have, and in
-- forms of slots the bytes of each record are a slot
abbrev pub is_sound : Header → List ℕ → Bool
is_sound h records =
    is_form h.form h.record_len && (is_layout (shape_of h) && ((nat_le 1 h.dimension && nat_le h.dimension 1024)
    && (nat_le 1 h.version && ((length records == records_len h) && has_slots h records))))

-- a run of these steps leads to this state from the opening of a snapshot, with a client for each
-- seed; a store accepts the snapshot, and its records are bytes
pub record IsRunFrom (h : Header) (records : List ℕ) (seeds : List (List ℕ)) (steps : List Step) (s : State) : Type 0 where
  pub accepted : is_sound h records ≡ true
  pub bytes : All (λ b. b < 2 ^ 8) records
  pub run : RunsTo (setting_in h) (opening h records seeds) steps s

-- what `Headline` says is so in every run from every snapshot that a store accepts, for all seeds
abbrev pub EveryRunIsRight : Type 0
EveryRunIsRight = (h : Header) (records : List ℕ) (seeds : List (List ℕ)) (steps : List Step) (last : State) →
    IsOpening h records → RunsTo (setting_in h) (opening h records seeds) steps last → Headline (setting_in h) seeds last
