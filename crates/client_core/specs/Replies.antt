-- What a client does with a reply.
use Rattle.std.specs.Prelude.{◌+◌, ◌%◌, ℕ, List, [], ◌∷◌, ◌++◌, length, map, Bool, true, not, ◌&&◌, Option, Some, None, ◌==◌, nat_lt, nat_le, if◌then◌else◌}
use Rattle.std.specs.List.{list_all}
use Rattle.frame_codec.specs.declared.frame.Frame.{Frame}
use Rattle.frame_codec.specs.declared.frame.Frame.TheVariants as frame
use Rattle.frame_codec.specs.Rows.{Row, RowList, rows_in}
use Rattle.matrix_u32.specs.Matrix.{WordMatrix, with_row}
use Rattle.digit_pack.specs.Layout.{Shape, digit_rows}
use Rattle.hint_changes.specs.Changes.{moved}
use Rattle.hint_changes.specs.Entries.{changes_in, entry_len}
use Rattle.pir_schemes.specs.declared.scheme.Scheme.{Scheme}
use Rattle.pir_schemes.specs.declared.scheme.Scheme.TheVariants.{Simple}
use Rattle.pir_schemes.specs.Schemes.{scheme_byte}
use Rattle.pir_schemes.specs.Parts.{part_len}
use Rattle.pir_schemes.specs.declared.plan.Plan.{Plan}
use Rattle.digit_pack.specs.Slots.{is_form}
use Rattle.pir_schemes.specs.Plans.{accepts_profile, shape_at, is_slot_of, first_public, record_of}
use Rattle.pir_schemes.specs.Retrievals.{hint_rows, hint_len, answer_count, reading}
use Rattle.client_core.specs.declared.state.ClientState.{ClientState}
use Rattle.client_core.specs.declared.state.ServerInfo.{ServerInfo}
use Rattle.client_core.specs.declared.state.Hint.{Hint}
use Rattle.client_core.specs.declared.state.Call.{Call}
use Rattle.client_core.specs.declared.state.Call.TheVariants.{Idle, Hello, Sync, Delta, Changes, Ask, Edit, Append, Publish}
use Rattle.client_core.specs.declared.state.Event.{Event}
use Rattle.client_core.specs.declared.state.Event.TheVariants.{Welcomed, Synced, Retrieved, Unreadable, Stale, Done, Refused}
use Rattle.client_core.specs.declared.state.ClientFault.{ClientFault}
use Rattle.client_core.specs.declared.state.ClientFault.TheVariants.{BadWelcome, BadReply}
use Rattle.client_core.specs.declared.state.Reaction.{Reaction}
use Rattle.client_core.specs.declared.state.Reaction.TheVariants.{Asks, Reports, Fails}
use Rattle.client_core.specs.States.{is_layout, shape_known}

-- what a reply leads to: the state after it, and what comes of it
pub record AfterReply : Type 0 where
  pub state : ClientState
  pub reaction : Reaction

-- a bad reply: the client has failed
abbrev pub faulty : ClientState → ClientFault → AfterReply
faulty c f = record { state = record c { failed = true }; reaction = Fails f }

-- the end of the call
abbrev pub ended : ClientState → Event → AfterReply
ended c e = record { state = record c { call = Idle }; reaction = Reports e }

-- what a reply leads to that has to agree with what is known of the server: `after`, if `is_right`
-- holds of that; a bad reply if it doesn't, or if nothing is known yet
abbrev pub if_known : ClientState → Option ServerInfo → (ServerInfo → Bool) → (ServerInfo → AfterReply) → AfterReply
if_known c None is_right after = faulty c BadReply
if_known c (Some k) is_right after = if is_right k then after k else faulty c BadReply

-- what a reply leads to that has to agree with the hint held, too: a bad reply also if none is held
abbrev pub if_held : ClientState → Option ServerInfo → Option Hint → (ServerInfo → Hint → Bool) → (ServerInfo → Hint → AfterReply) → AfterReply
if_held c (Some k) (Some h) is_right after = if is_right k h then after k h else faulty c BadReply
if_held c _ _ is_right after = faulty c BadReply

-- ---- Welcome

-- the plan that a Welcome gives
abbrev pub plan_given : ℕ → ℕ → ℕ → ℕ → ℕ → List ℕ → Plan
plan_given profile width record_len groups dimension seed =
    record { form = profile; width = width; record_len = record_len; groups = groups; dimension = dimension; seed = seed }

-- a Welcome that a client of a profile accepts: a plan that it may have asked for, a form that
-- there is, a layout and a dimension within the limits, a version
abbrev pub is_accepted_welcome : ℕ → Plan → ℕ → ℕ → Bool
is_accepted_welcome profile p count version =
    accepts_profile p profile && (is_form p.form p.record_len && (is_layout (shape_at p count) && ((nat_le 1 p.dimension && nat_le p.dimension 1024) && nat_lt 0 version)))

-- what a Welcome leads to: if it is accepted, what it names is known from then on; else it is a bad
-- one
abbrev pub reaction_to_welcome : ClientState → Plan → ℕ → ℕ → AfterReply
reaction_to_welcome c p count version =
    if is_accepted_welcome c.profile p count version
    then ended (record c { known = Some (record { version = version; count = count; plan = p }) }) (Welcomed version)
    else faulty c BadWelcome

-- ---- HintPart

-- a part that was asked for, with all its words
abbrev pub is_part : Scheme → ℕ → ℕ → ℕ → ℕ → ℕ → ℕ → List ℕ → Bool
is_part s total asked next scheme version part words =
    (scheme == scheme_byte s) && ((version == asked) && ((part == next) && (length words == part_len total next)))

-- a scheme's hint of a version, of these words
abbrev pub hint_made : Scheme → ServerInfo → ℕ → List ℕ → Hint
hint_made s k version words =
    let n = k.plan.dimension in
    record { scheme = s; version = version; matrix = record { rows = hint_rows s (shape_known k) n; cols = n; words = words } }

-- the last part makes the hint whole, and after another the next part is asked for
abbrev pub reaction_to_part : Scheme → ServerInfo → ClientState → ℕ → ℕ → List ℕ → AfterReply
reaction_to_part s k c version part words =
    if length words == hint_len s (shape_known k) k.plan.dimension
    then ended (record c { hint = Some (hint_made s k version words); parts = [] }) (Synced s version)
    else record { state = record c { call = Sync s version (part + 1); parts = words }; reaction = Asks s version (part + 1) }

-- ---- Answer

-- the record read, or unreadable if there is none
abbrev pub event_read : ℕ → ℕ → Option (List ℕ) → Event
event_read i version (Some bytes) = Retrieved i version bytes
event_read i version None = Unreadable i version

-- an answer of the scheme and the version asked, with as many words as the scheme wants
abbrev pub is_answer : Scheme → ServerInfo → ℕ → ℕ → ℕ → List ℕ → Bool
is_answer s k asked scheme version words =
    (scheme == scheme_byte s) && ((version == asked) && (length words == answer_count s (shape_known k) k.plan.dimension))

-- ---- Stale

-- a version and a count that a reply may name as the current ones
abbrev pub is_current : ServerInfo → ℕ → ℕ → Bool
is_current k version count = nat_lt 0 version && is_layout (shape_at k.plan count)

-- what is known with another version and count, the last reported
abbrev pub with_current : ServerInfo → ℕ → ℕ → ServerInfo
with_current k version count = record k { version = version; count = count }

-- the version and the count named are the last known, if these are another version than asked
-- and a count within the limits, else it is a bad reply; `after` is the state that goes on then
abbrev pub reaction_to_stale : Option ServerInfo → ClientState → ClientState → ℕ → ℕ → ℕ → AfterReply
reaction_to_stale None after c asked version count = faulty c BadReply
reaction_to_stale (Some k) after c asked version count =
    if not (version == asked) && is_current k version count
    then ended (record after { known = Some (with_current k version count) }) (Stale version)
    else faulty c BadReply

-- ---- Delta

-- whether numbers ascend, each once, none below `from` and all below `limit`
unfoldable pub are_ascending : ℕ → ℕ → List ℕ → Bool
are_ascending from limit [] = true
are_ascending from limit (i ∷ is) = (nat_le from i && nat_lt i limit) && are_ascending (i + 1) limit is

-- the numbers of rows
abbrev pub row_numbers : RowList → List ℕ
row_numbers rows = map (λ r. r.number) (rows_in rows)

-- a Delta that was asked for: from the version asked to one that can be, with rows of the hint's
-- length, at most 1024 of them, whose numbers the hint has, in order and each once
abbrev pub is_delta : ServerInfo → ℕ → ℕ → ℕ → ℕ → ℕ → List ℕ → Bool
is_delta k asked since now count dimension numbers =
    (since == asked) && (is_current k now count && ((dimension == k.plan.dimension) && (nat_le (length numbers) 1024
    && are_ascending 0 (digit_rows (shape_known k)) numbers)))

-- a matrix with these rows in place of its own
unfoldable pub with_rows_replaced : WordMatrix → List Row → WordMatrix
with_rows_replaced m [] = m
with_rows_replaced m (r ∷ rs) = with_rows_replaced (with_row m r.number r.words) rs

-- a hint brought to a version: with these rows in place of its own
abbrev pub hint_with_rows : Hint → ℕ → RowList → Hint
hint_with_rows h version rows = record h { version = version; matrix = with_rows_replaced h.matrix (rows_in rows) }

-- what a Delta leads to: its rows replace those of the hint held, and the version and the count
-- that it names are the last known then
abbrev pub reaction_to_delta : Option ServerInfo → Option Hint → ClientState → ℕ → ℕ → ℕ → ℕ → RowList → AfterReply
reaction_to_delta known hint c asked since now count rows =
    if_held c known hint (λ k h. is_delta k asked since now count rows.dimension (row_numbers rows))
    (λ k h. ended (record c { known = Some (with_current k now count); hint = Some (hint_with_rows h now rows) }) (Synced Simple now))

-- ---- Changes

-- whether bytes are whole entries, ascending, of records that there are
unfoldable pub are_entries : Shape → List ℕ → Bool
are_entries l entries =
    (length entries % entry_len l.record_len == 0) && are_ascending 0 l.count (map (λ c. c.index) (changes_in l.record_len entries))

-- whether the old and the new bytes in each entry are those of a record of the plan
unfoldable pub have_slots : Plan → List ℕ → Bool
have_slots p entries = list_all (λ c. is_slot_of p c.old && is_slot_of p c.new) (changes_in p.record_len entries)

-- Changes that were asked for: from the version asked to one that can be, of records of that
-- version, ascending, with the bytes of records
abbrev pub is_changes : ServerInfo → ℕ → ℕ → ℕ → ℕ → List ℕ → Bool
is_changes k asked since now count entries =
    (since == asked) && (is_current k now count && (are_entries (shape_at k.plan count) entries && have_slots k.plan entries))

-- a hint brought to a version of so many records: moved by the changes in entries
abbrev pub hint_with_entries : Plan → Hint → ℕ → ℕ → List ℕ → Hint
hint_with_entries p h version count entries =
    let l = shape_at p count in
    record h { version = version; matrix = moved l (first_public l p.dimension p.seed) (changes_in p.record_len entries) h.matrix }

-- what Changes lead to: the changes in their entries move the hint held, and the version and the
-- count that they name are the last known then
abbrev pub reaction_to_changes : Option ServerInfo → Option Hint → ClientState → ℕ → ℕ → ℕ → ℕ → List ℕ → AfterReply
reaction_to_changes known hint c asked since now count entries =
    if_held c known hint (λ k h. is_changes k asked since now count entries)
    (λ k h. ended (record c { known = Some (with_current k now count); hint = Some (hint_with_entries k.plan h now count entries) }) (Synced Simple now))

-- ---- NoDelta

-- what a NoDelta leads to: the hint held is dropped, and the sync goes on by the parts of the
-- version that it names, which is the last known then, whichever version was asked about
abbrev pub reaction_to_no_delta : Option ServerInfo → ClientState → ℕ → ℕ → AfterReply
reaction_to_no_delta known c version count =
    if_known c known (λ k. is_current k version count) (λ k. record {
      state = record c { known = Some (with_current k version count); hint = None; parts = []; call = Sync Simple version 0 };
      reaction = Asks Simple version 0;
    })

-- ---- any frame

-- What a frame leads to during a call. A Welcome may come after Hello; a HintPart or Stale during a
-- sync by parts; a Delta during a sync by rows, Changes during one by records, NoDelta during
-- either; an Answer or Stale during an ask; Done, with any version, during an edit, an append or a
-- publication; Refused, with any code, during every call. A part and an answer have to be those
-- asked for, with all their words. A sync by parts that ends without its hint drops the parts that
-- came. Any other frame, and any frame during no call, is a bad reply.
abbrev pub reaction_during : Frame → Call → ClientState → AfterReply
reaction_during (frame.Welcome profile width record_len groups count version dimension seed) Hello c =
    reaction_to_welcome c (record { form = profile; width = width; record_len = record_len; groups = groups; dimension = dimension; seed = seed })
    count version
reaction_during (frame.HintPart scheme version part words) (Sync s v p) c =
    if_known c c.known (λ k. is_part s (hint_len s (shape_known k) k.plan.dimension) v p scheme version part words)
    (λ k. reaction_to_part s k c v p (c.parts ++ words))
reaction_during (frame.Answer scheme version words) (Ask i v n) c =
    if_held c c.known c.hint (λ k h. is_answer h.scheme k v scheme version words)
    (λ k h. ended c (event_read i version (record_of k.plan (reading h.scheme (shape_known k) h.matrix c.seed n i words))))
reaction_during (frame.Stale version count) (Sync s v p) c = reaction_to_stale c.known (record c { parts = [] }) c v version count
reaction_during (frame.Stale version count) (Ask i v n) c = reaction_to_stale c.known c c v version count
reaction_during (frame.Delta since now count rows) (Delta asked) c = reaction_to_delta c.known c.hint c asked since now count rows
reaction_during (frame.Changes since now count entries) (Changes asked) c = reaction_to_changes c.known c.hint c asked since now count entries
reaction_during (frame.NoDelta version count) (Delta asked) c = reaction_to_no_delta c.known c version count
reaction_during (frame.NoDelta version count) (Changes asked) c = reaction_to_no_delta c.known c version count
reaction_during (frame.Done version) Edit c = ended c (Done version)
reaction_during (frame.Done version) Append c = ended c (Done version)
reaction_during (frame.Done version) Publish c = ended c (Done version)
reaction_during (frame.Refused code) Idle c = faulty c BadReply
reaction_during (frame.Refused code) (Sync s v p) c = ended (record c { parts = [] }) (Refused code)
reaction_during (frame.Refused code) _ c = ended c (Refused code)
reaction_during _ _ c = faulty c BadReply

-- what a frame leads to, by the outstanding call; whether the client has failed is not looked at
abbrev pub reaction_to_reply : ClientState → Frame → AfterReply
reaction_to_reply c f = reaction_during f c.call c
