-- Connections, as their callers see them.
use Rattle.std.specs.Prelude.{◌≡◌, ◌<◌, ◌≤◌, ◌-◌, ◌++◌, ◌⊎◌, ℕ, List, [], length, drop, Bool, true, false, cond, not, ◌&&◌, ◌||◌, nat_eq, nat_lt}
use Rattle.std.specs.List.{FoldsTo, flat_map}
use Rattle.connection_turns.specs.Sizes.{owed_limit}

-- A connection: what was received and not yet served, what is owed and not yet written, whether its
-- session is open, whether its input ended, the moment of its last progress, and how many bytes of
-- what was owed then have to be taken until the next.
pub record ConnectionSeen : Type 0 where
  pub unserved : List ℕ
  pub owed : List ℕ
  pub live : Bool
  pub ended : Bool
  pub progress : ℕ
  pub awaited : ℕ

-- a connection that was accepted at a moment
abbrev pub accepted : ℕ → ConnectionSeen
accepted now = record { unserved = []; owed = []; live = true; ended = false; progress = now; awaited = 0 }

-- more may be read: all that came was served, and little is owed
pub record MayRead (l : ConnectionSeen) : Type 0 where
  pub live : l.live ≡ true
  pub goes_on : l.ended ≡ false
  pub all_served : l.unserved ≡ []
  pub little_owed : length l.owed < owed_limit

-- a frame may be served: the session is open, something came, and little is owed
pub record MayServe (l : ConnectionSeen) : Type 0 where
  pub live : l.live ≡ true
  pub some : 0 < length l.unserved
  pub little_owed : length l.owed < owed_limit

-- There is nothing more to do: all was written, and the session is closed, or all that will ever
-- come was served.
abbrev pub IsDone : ConnectionSeen → Type 0
IsDone l = (l.owed ≡ []) × ((l.live ≡ false) ⊎ ((l.ended ≡ true) × (l.unserved ≡ [])))

-- bytes were received
abbrev pub after_receipt : List ℕ → ConnectionSeen → ConnectionSeen
after_receipt bytes l = record l { unserved = bytes }

-- the input ended
abbrev pub after_end : ConnectionSeen → ConnectionSeen
after_end l = record l { ended = true }

-- Some of what is owed was written, and it was not all that is awaited: so this is no progress.
abbrev pub after_partial_write : ℕ → ConnectionSeen → ConnectionSeen
after_partial_write n l = record l { owed = drop n l.owed; awaited = l.awaited - n }

-- Some of what is owed was written, with all that was awaited. What is owed still is awaited now.
abbrev pub after_whole_write : ℕ → ℕ → ConnectionSeen → ConnectionSeen
after_whole_write n now l = record l { owed = drop n l.owed; progress = now; awaited = length (drop n l.owed) }

-- Some of what is owed was written. That is progress once all that was owed at the last progress is
-- taken, however many bytes go before.
abbrev pub after_write : ℕ → ℕ → ConnectionSeen → ConnectionSeen
after_write n now l = cond (nat_lt n l.awaited) (after_partial_write n l) (after_whole_write n now l)

-- whether a step that replied so many bytes was progress: it closed the session, or it replied
-- while nothing was awaited
abbrev pub is_progress : ℕ → ℕ → Bool → Bool
is_progress awaited replied live = not live || (nat_eq awaited 0 && nat_lt 0 replied)

-- So many bytes of what was received were used up for a frame, and this was replied. Bytes of a
-- frame that is unfinished still are no progress, nor is a reply that must wait for others to be
-- taken.
abbrev pub after_served_frame : ℕ → List ℕ → Bool → ℕ → ConnectionSeen → ConnectionSeen
after_served_frame count reply live now l = record {
  unserved = drop count l.unserved;
  owed = l.owed ++ reply;
  live = live;
  ended = l.ended;
  progress = cond (is_progress l.awaited (length reply) live) now l.progress;
  awaited = cond (is_progress l.awaited (length reply) live) (length (l.owed ++ reply)) l.awaited;
}

-- one thing that happens to a connection
pub data ConnectionMove : Type 0 where
  -- these bytes came
  Receives : (bytes : List ℕ) → ConnectionMove
  -- no more will come
  Ends : ConnectionMove
  -- these bytes of what came were served, this is replied, and the session is open then or closed;
  -- at a moment
  Answers : (piece reply : List ℕ) (live : Bool) (now : ℕ) → ConnectionMove
  -- these bytes of what is owed were written, at a moment
  Writes : (bytes : List ℕ) (now : ℕ) → ConnectionMove

-- what a move makes of a connection
abbrev pub MovesTo : ConnectionSeen → ConnectionMove → ConnectionSeen → Type 0
MovesTo l (Receives bytes) m = (l.unserved ≡ []) × (m ≡ after_receipt bytes l)
MovesTo l Ends m = m ≡ after_end l
MovesTo l (Answers piece reply live now) m = (l.unserved ≡ piece ++ m.unserved) × (m ≡ after_served_frame (length piece) reply live now l)
MovesTo l (Writes bytes now) m = (l.owed ≡ bytes ++ m.owed) × (m ≡ after_write (length bytes) now l)

-- the bytes that came by a move
abbrev pub bytes_received : ConnectionMove → List ℕ
bytes_received (Receives bytes) = bytes
bytes_received _ = []

-- those that it served
abbrev pub bytes_served : ConnectionMove → List ℕ
bytes_served (Answers piece reply live now) = piece
bytes_served _ = []

-- those that it replied
abbrev pub bytes_replied : ConnectionMove → List ℕ
bytes_replied (Answers piece reply live now) = reply
bytes_replied _ = []

-- those that it wrote
abbrev pub bytes_sent : ConnectionMove → List ℕ
bytes_sent (Writes bytes now) = bytes
bytes_sent _ = []

-- What came over a connection is what was served and then what is not yet served, and what was
-- replied is what was written and then what is owed: no byte is lost, is there twice or goes
-- elsewhere, in whatever order the moves were made.
pub record Keeps (moves : List ConnectionMove) (l : ConnectionSeen) : Type 0 where
  pub input : flat_map bytes_received moves ≡ flat_map bytes_served moves ++ l.unserved
  pub output : flat_map bytes_replied moves ≡ flat_map bytes_sent moves ++ l.owed

-- after any moves of a connection that was accepted at any moment no byte is lost, is there twice
-- or goes elsewhere
abbrev pub ConnectionsKeep : Type 0
ConnectionsKeep = (moves : List ConnectionMove) (now : ℕ) (l : ConnectionSeen) → FoldsTo MovesTo (accepted now) moves l → Keeps moves l

-- What is awaited is a part of what is owed, and is nothing only if nothing is owed.
pub record IsAwaited (l : ConnectionSeen) : Type 0 where
  pub part : l.awaited ≤ length l.owed
  pub some : l.awaited ≡ 0 → l.owed ≡ []

-- after any moves of a connection that was accepted at any moment, something is awaited while
-- something is owed
abbrev pub ConnectionsAwait : Type 0
ConnectionsAwait = (moves : List ConnectionMove) (now : ℕ) (l : ConnectionSeen) → FoldsTo MovesTo (accepted now) moves l → IsAwaited l
