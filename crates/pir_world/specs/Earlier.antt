-- What a log says of the entries before an entry.
use Rattle.std.specs.Prelude.{◌≡◌, ◌≢◌, ◌+◌, ◌⊎◌, ℕ, List, [], ◌∷◌, ◌++◌, Bool, false, Option, Some, None, ◌==◌, ◌&&◌, cond, fold, count_by}
use Rattle.std.specs.List.{AllByRecursion}
use Rattle.pir_schemes.specs.declared.scheme.Scheme.{Scheme}
use Rattle.pir_schemes.specs.declared.scheme.Scheme.TheVariants.{Simple}
use Rattle.frame_codec.specs.declared.frame.Frame.{Frame}
use Rattle.client_core.specs.declared.state.Event.TheVariants.{Synced}
use Rattle.client_core.specs.Calls.{Ask, Hello, Sync}
use Rattle.pir_world.specs.declared.steps.Outcome.TheVariants.{Reported, Failed}
use Rattle.pir_world.specs.Runs.{LogEntry, Called, Sent, Served, Ended, Plain, AcceptedAsk}
use Rattle.pir_schemes.specs.Schemes.{scheme_byte}
use Rattle.frame_codec.specs.declared.frame.Frame.TheVariants as frame
use Rattle.version_store.specs.Histories.{History}
use Rattle.server_core.specs.Serving.{Setting}
use Rattle.pir_world.specs.Versions.{HasVersion, asked_words, seed_of}

-- P holds of each entry, with those before it
abbrev pub AllWithEarlier : (List LogEntry → LogEntry → Type 0) → List LogEntry → Type 0
AllWithEarlier P log = (before after : List LogEntry) (e : LogEntry) → log ≡ before ++ e ∷ after → P before e

-- an accepted ask of client k
abbrev pub is_ask : ℕ → LogEntry → Bool
is_ask k (Called j (Ask i) None) = j == k
is_ask k _ = false

-- how many asks of client k were accepted
abbrev pub asks_of : ℕ → List LogEntry → ℕ
asks_of k log = count_by (is_ask k) log

-- what an entry says of the hint of client k, by its scheme and its version: none is held once a
-- first part is asked for, and a sync's end names one
abbrev pub hint_after : ℕ → Option (Scheme × ℕ) → LogEntry → Option (Scheme × ℕ)
hint_after k hint (Sent j (frame.HintAsk scheme version part)) = cond ((j == k) && (part == 0)) None hint
hint_after k hint (Plain (Reported j (Synced scheme version))) = cond (j == k) (Some (scheme, version)) hint
hint_after k hint _ = hint

-- the scheme and the version of the hint that client k holds, by the log
abbrev pub hint_named : ℕ → List LogEntry → Option (Scheme × ℕ)
hint_named k log = fold (hint_after k) None log

-- an entry that is none of client k's, or a call of it that was refused
abbrev pub IsAside : ℕ → LogEntry → Type 0
IsAside k (Called j want None) = j ≢ k
IsAside k (Called j want (Some fault)) = Unit {0}
IsAside k (Sent j f) = j ≢ k
IsAside k (Served j f now reply) = j ≢ k
IsAside k (Ended j r reply event) = j ≢ k
IsAside k (Plain (Reported j event)) = j ≢ k
IsAside k (Plain (Failed j fault)) = j ≢ k
IsAside k (Plain _) = Unit {0}

-- after the first entries client k sent this frame, and nothing of it followed but refused calls
pub record IsSentLast (k : ℕ) (f : Frame) (first log : List LogEntry) : Type 0 where
  pub since : List LogEntry
  pub log_is : log ≡ first ++ Sent k f ∷ since
  pub aside : AllByRecursion (IsAside k) since

-- after the first entries client k sent this frame, then it was served with this reply, and nothing
-- of client k came in between or after that but refused calls
pub record IsServedLast (k : ℕ) (f reply : Frame) (first log : List LogEntry) : Type 0 where
  pub now : ℕ
  pub before : List LogEntry
  pub since : List LogEntry
  pub log_is : log ≡ before ++ Served k f now (Some reply) ∷ since
  pub sent : IsSentLast k f first before
  pub aside : AllByRecursion (IsAside k) since

-- A retrieval was asked for last: its number is the count of the asks accepted before, its scheme
-- and its version are those of the hint held then, and these are its query's words on the records
-- of that version.
pub record IsAsked (x : Setting) (h : History) (seed : List ℕ) (k : ℕ) (r : AcceptedAsk) (query : Frame) (log : List LogEntry) : Type 0 where
  pub before : List LogEntry
  pub log_is : log ≡ before ++ Called k (Ask r.index) None ∷ []
  pub number_is : r.number ≡ asks_of k before
  pub hint_is : hint_named k before ≡ Some (r.scheme, r.version)
  pub records : List (List ℕ)
  pub version_is : HasVersion h r.version records
  pub query_is : query ≡ frame.Query (scheme_byte r.scheme) r.version (asked_words x.plan records seed r)

-- the ask of a retrieval that ended was accepted, then its query was sent, and then it was served
-- with the reply
pub record IsEndOfAsk (x : Setting) (h : History) (seed : List ℕ) (k : ℕ) (r : AcceptedAsk) (reply : Frame) (log : List LogEntry) : Type 0 where
  pub query : Frame
  pub first : List LogEntry
  pub asked : IsAsked x h seed k r query first
  pub served : IsServedLast k query reply first log

-- What came before an ask for a part of a hint: for the first part an accepted sync of its scheme,
-- or an ask for what changed that was served with NoDelta; for each other part the ask for the one
-- before it, which was served with that part. The version is that of the part before or of the
-- NoDelta; after a sync nothing is said of it.
abbrev pub IsAskForPart : ℕ → ℕ → ℕ → ℕ → List LogEntry → Type 0
IsAskForPart k scheme version part log =
    ((first : List LogEntry) × (s : Scheme) × (log ≡ first ++ Called k (Sync s) None ∷ []) × (scheme ≡ scheme_byte s) × (part ≡ 0))
    ⊎ ((first : List LogEntry) × (p : ℕ) × (words : List ℕ) × (part ≡ p + 1) ×
    IsServedLast k (frame.HintAsk scheme version p) (frame.HintPart scheme version p words) first log)
    ⊎ ((first : List LogEntry) × (since : ℕ) × (count : ℕ) × (ask : Frame) × (scheme ≡ scheme_byte Simple) × (part ≡ 0) × ((ask ≡ frame.DeltaAsk since) ⊎ (ask ≡ frame.ChangesAsk since)) ×
    IsServedLast k ask (frame.NoDelta version count) first log)

-- An ask for what changed since a version came right after an accepted sync of SimplePIR, while a
-- SimplePIR hint of that version was held.
abbrev pub IsAskForChanges : ℕ → ℕ → List LogEntry → Type 0
IsAskForChanges k since log =
    (first : List LogEntry) × (log ≡ first ++ Called k (Sync Simple) None ∷ []) × (hint_named k first ≡ Some (Simple, since))

-- What came before an entry: each frame sent is that of a call that was accepted last, or asks for
-- a part of a hint; each frame served was sent; each retrieval that ended was asked for and
-- served; and before each other event the client's last frame was served, with some reply. Which
-- event a reply makes, the run itself says.
abbrev pub HasEarlier : Setting → List (List ℕ) → History → List LogEntry → LogEntry → Type 0
HasEarlier x seeds h before (Sent k (frame.Query scheme version words)) =
    (r : AcceptedAsk) × IsAsked x h (seed_of seeds k) k r (frame.Query scheme version words) before
HasEarlier x seeds h before (Sent k (frame.Hello profile key)) =
    (first : List LogEntry) × (before ≡ first ++ Called k (Hello key) None ∷ [])
HasEarlier x seeds h before (Sent k (frame.HintAsk scheme version part)) = IsAskForPart k scheme version part before
HasEarlier x seeds h before (Sent k (frame.DeltaAsk since)) = IsAskForChanges k since before
HasEarlier x seeds h before (Sent k (frame.ChangesAsk since)) = IsAskForChanges k since before
HasEarlier x seeds h before (Sent k f) = ⊥
HasEarlier x seeds h before (Served k f now reply) = (first : List LogEntry) × IsSentLast k f first before
HasEarlier x seeds h before (Ended k r reply event) = IsEndOfAsk x h (seed_of seeds k) k r reply before
HasEarlier x seeds h before (Plain (Reported k event)) =
    (f : Frame) × (reply : Frame) × (first : List LogEntry) × IsServedLast k f reply first before
HasEarlier x seeds h before e = Unit {0}
