-- What the server does with a frame.
use Rattle.std.specs.Prelude.{◌≡◌, ℕ, ◌+◌, ◌*◌, ◌^◌, ◌<◌, ◌≤◌, List, [], ◌∷◌, ◌++◌, length, map, take, replicate, Bool, true, false, min, Option, Some, None, ◌==◌, ◌⊎◌, nat_eq, nat_le, nat_lt, if◌then◌else◌, MatchBool, option_to_list, vec_len, vec_capacity}
use Rattle.std.specs.Cmp.Lexicographic.{pointwise}
use Rattle.std.specs.declared.vec.Vec.{Vec}
use Rattle.std.specs.declared.alloc.Global.{Global}
use Rattle.std.specs.List.{flat_map, AllByRecursion}
use Rattle.sha2.specs.Sha256.{sha256}
use Rattle.matrix_u32.specs.Matrix.{row}
use Rattle.digit_pack.specs.Layout.{is_layout, is_wide}
use Rattle.pir_schemes.specs.declared.scheme.Scheme.{Scheme}
use Rattle.pir_schemes.specs.declared.scheme.Scheme.TheVariants.{Simple}
use Rattle.pir_schemes.specs.Schemes.{scheme_byte, scheme_of_byte}
use Rattle.pir_schemes.specs.Parts.{part_of, is_part_of}
use Rattle.pir_schemes.specs.declared.plan.Plan.{Plan}
use Rattle.pir_schemes.specs.Plans.{shape_at, profile_of, accepts_profile, fits}
use Rattle.pir_schemes.specs.Retrievals.{hint_matrix, query_count, answer_count, answer_words}
use Rattle.version_store.specs.Histories.{StoreState, History, StandsFor, current_version, after_edit, after_append, published, delta_rows, changes_since}
use Rattle.version_store.specs.OldRecords.{most_old_bytes}
use Rattle.frame_codec.specs.declared.frame.Frame.{Frame}
use Rattle.frame_codec.specs.declared.frame.Frame.TheVariants.{Hello, HintAsk, DeltaAsk, Query, Edit, Append, Publish, Bye, ChangesAsk, Welcome, HintPart, Delta, Answer, Stale, Done, NoDelta, Changes, Refused}
use Rattle.frame_codec.specs.declared.refusal.Refusal.{Refusal}
use Rattle.frame_codec.specs.declared.refusal.Refusal.TheVariants as refusal
use Rattle.frame_codec.specs.Refusals.{refused}
use Rattle.frame_codec.specs.Frames.{IsFrame, encoding}
use Rattle.frame_codec.specs.Rows.{Row, RowList, row_list}
use Rattle.server_core.specs.declared.standing.Standing.{Standing}
use Rattle.server_core.specs.declared.standing.Standing.TheVariants.{Reader, Publisher, Closed}

-- what stays the same in every version: the plan, and the SHA-256 of the publisher's key
pub record Setting : Type 0 where
  pub plan : Plan
  pub publisher : List ℕ

-- the setting of what a store keeps
abbrev pub setting_of : StoreState → Setting
setting_of s = record { plan = s.edition.plan; publisher = s.publisher }

-- whether a setting is that of a wide store, whose streams have two kinds of frames more
abbrev pub is_wide_setting : Setting → Bool
is_wide_setting x = is_wide x.plan.form

-- how many bytes the entries of changed records may have in a reply: as many as fit into a frame,
-- or an eighth of those of a SimplePIR hint, if that is less
abbrev pub most_entry_bytes : Setting → ℕ
most_entry_bytes x = min 16777196 (most_old_bytes x.plan)

-- the key of 32 zero bytes is a reader's
unfoldable pub is_reader_key : List ℕ → Bool
is_reader_key key = pointwise nat_eq key (replicate 32 0)

-- a key is the publisher's if its SHA-256 is the setting's
unfoldable pub is_publisher_key : Setting → List ℕ → Bool
is_publisher_key x key = pointwise nat_eq (sha256 key) x.publisher

-- the words of a hint of some records, made from scratch
unfoldable pub hint_words : Setting → Scheme → List (List ℕ) → List ℕ
hint_words x scheme records = (hint_matrix scheme x.plan records).words

-- whether a hint of some records has this part
unfoldable pub has_part : Setting → Scheme → List (List ℕ) → ℕ → Bool
has_part x scheme records part = is_part_of (length (hint_words x scheme records)) part

-- a part of a hint of some records
unfoldable pub hint_part : Setting → Scheme → List (List ℕ) → ℕ → List ℕ
hint_part x scheme records part = part_of (hint_words x scheme records) part

-- a row of the SimplePIR hint of some records, with its number
abbrev pub hint_row : Setting → List (List ℕ) → ℕ → Row
hint_row x records r = record { number = r; words = row (hint_matrix Simple x.plan records) r }

-- some rows of the SimplePIR hint of some records, each with its number, one after another
unfoldable pub named_hint_rows : Setting → List (List ℕ) → List ℕ → RowList
named_hint_rows x records rows = row_list x.plan.dimension (map (hint_row x records) rows)

-- how many words a query on some records has
abbrev pub words_asked : Setting → Scheme → List (List ℕ) → ℕ
words_asked x scheme records = query_count scheme (shape_at x.plan (length records))

-- how many words an answer on some records has
abbrev pub words_answered : Setting → Scheme → List (List ℕ) → ℕ
words_answered x scheme records = answer_count scheme (shape_at x.plan (length records)) x.plan.dimension

-- what one frame leads to: the reply, the standing and the history after it
pub record AfterFrame : Type 0 where
  pub reply : Option Frame
  pub standing : Standing
  pub history : History

-- a reply after which the history is as it was, with the standing after it
abbrev pub reply_given : Frame → Standing → History → AfterFrame
reply_given reply st h = record { reply = Some reply; standing = st; history = h }

-- a refusal, after which the history is as it was, with the standing after it
abbrev pub refusal_given : Refusal → Standing → History → AfterFrame
refusal_given why st h = reply_given (refused why) st h

-- a frame that names another version than the current one is answered with the current one and its
-- record count
abbrev pub stale_given : Standing → History → AfterFrame
stale_given st h = reply_given (Stale (current_version h) (length h.current)) st h

-- a greeting that is accepted: its reply is a Welcome, and the history is as it was
abbrev pub welcome_given : Setting → Standing → History → AfterFrame
welcome_given x st h =
    reply_given (Welcome (profile_of x.plan) x.plan.width x.plan.record_len x.plan.groups (length h.current)
    (current_version h) x.plan.dimension x.plan.seed) st h

-- a greeting was accepted before
abbrev pub is_welcome : Standing → Bool
is_welcome Reader = true
is_welcome Publisher = true
is_welcome _ = false

-- a greeting with the publisher's key was accepted before
abbrev pub is_publisher : Standing → Bool
is_publisher Publisher = true
is_publisher _ = false

-- A publication that a session of this standing asks for is made, unless memory is refused: the
-- session is the publisher's, there is something to publish, and a number is left for one more
-- version.
pub record MayPublish (standing : Standing) (store : StoreState) : Type 0 where
  pub publisher : is_publisher standing ≡ true
  pub marked : store.marked ≡ true
  pub below : store.version + 1 < 2 ^ 64

-- between two versions one publication was made, which was asked for and could be, or none
abbrev pub PublishesIf : Type 0 → ℕ → ℕ → Type 0
PublishesIf asked before after = (after ≡ before) ⊎ (asked × (after ≡ before + 1))

-- whether a session is closed
abbrev pub is_closed : Standing → Bool
is_closed Closed = true
is_closed _ = false

-- what an ask for a part of a hint leads to, of a sender that was greeted
abbrev pub hint_asked : Setting → History → Standing → Option Scheme → ℕ → ℕ → AfterFrame
hint_asked x h st None version part = refusal_given refusal.BadScheme st h
hint_asked x h st (Some scheme) version part =
    if version == current_version h then (
    if has_part x scheme h.current part
    then reply_given (HintPart (scheme_byte scheme) (current_version h) part (hint_part x scheme h.current part)) st h
    else refusal_given refusal.BadPart st h)
    else stale_given st h

-- the reply that what changed can't be given: the hint has to be fetched whole
abbrev pub no_delta_given : Standing → History → AfterFrame
no_delta_given st h = reply_given (NoDelta (current_version h) (length h.current)) st h

-- What an ask for rows that changed since a version leads to: to all of them, with the words of the
-- current hint, if they are known and 1024 at most, and else to none.
abbrev pub delta_asked : Setting → History → Standing → ℕ → Option (List ℕ) → AfterFrame
delta_asked x h st since None = no_delta_given st h
delta_asked x h st since (Some rows) =
    if nat_le (length rows) 1024
    then reply_given (Delta since (current_version h) (length h.current) (named_hint_rows x h.current rows)) st h
    else no_delta_given st h

-- What an ask for records that changed since a version leads to: to the entries of what differs, if
-- they can be given.
abbrev pub changes_asked : Setting → History → Standing → ℕ → Option (List ℕ) → AfterFrame
changes_asked x h st since None = no_delta_given st h
changes_asked x h st since (Some entries) = reply_given (Changes since (current_version h) (length h.current) entries) st h

-- what a query leads to, of a sender that was greeted
abbrev pub query_asked : Setting → History → Standing → Option Scheme → ℕ → List ℕ → AfterFrame
query_asked x h st None version words = refusal_given refusal.BadScheme st h
query_asked x h st (Some scheme) version words =
    if version == current_version h then (
    if length words == words_asked x scheme h.current
    then reply_given (Answer (scheme_byte scheme) (current_version h) (answer_words scheme x.plan h.current words)) st h
    else refusal_given refusal.BadQueryLength st h)
    else stale_given st h

-- what a frame leads to whose sender has to have been greeted: this, or a refusal
abbrev pub if_welcome : Standing → History → AfterFrame → AfterFrame
if_welcome st h o = if is_welcome st then o else refusal_given refusal.NotWelcome st h

-- what a frame leads to whose sender has to be the publisher: this, or a refusal
abbrev pub if_publisher : Standing → History → AfterFrame → AfterFrame
if_publisher st h o = if_welcome st h (if is_publisher st then o else refusal_given refusal.NotPublisher st h)

-- What a frame leads to, in an open session: the first check that applies decides. Words of hints
-- and answers are made from scratch.
abbrev pub after_frame : Setting → History → Standing → Frame → AfterFrame
after_frame x h st (Hello profile key) =
    if accepts_profile x.plan profile then (
    if is_reader_key key then welcome_given x Reader h else (
    if is_publisher_key x key then welcome_given x Publisher h
    else refusal_given refusal.BadKey st h))
    else refusal_given refusal.BadProfile st h
after_frame x h st (HintAsk scheme version part) = if_welcome st h (hint_asked x h st (scheme_of_byte scheme) version part)
after_frame x h st (DeltaAsk since) = if_welcome st h (delta_asked x h st since (delta_rows x.plan h since))
after_frame x h st (Query scheme version words) = if_welcome st h (query_asked x h st (scheme_of_byte scheme) version words)
after_frame x h st (Edit index bytes) =
    if_publisher st h (
    if nat_lt index (length h.draft) then (
    if fits x.plan bytes
    then record { reply = Some (Done (current_version h)); standing = st; history = after_edit index bytes h }
    else refusal_given refusal.BadLength st h)
    else refusal_given refusal.BadIndex st h)
after_frame x h st (Append bytes) =
    if_publisher st h (
    if fits x.plan bytes then (
    if is_layout (shape_at x.plan (length h.draft + 1))
    then record { reply = Some (Done (current_version h)); standing = st; history = after_append bytes h }
    else refusal_given refusal.Full st h)
    else refusal_given refusal.BadLength st h)
after_frame x h st Publish =
    if_publisher st h (
    if h.marked then (
    if current_version h + 1 == 2 ^ 64 then refusal_given refusal.VersionsUsedUp st h
    else record { reply = Some (Done (current_version h + 1)); standing = st; history = published h })
    else refusal_given refusal.NothingToPublish st h)
after_frame x h st (ChangesAsk since) =
    if is_wide x.plan.form then if_welcome st h (changes_asked x h st since (changes_since x.plan h since (most_entry_bytes x)))
    else refusal_given refusal.BadFrame Closed h
after_frame x h st Bye = record { reply = None; standing = Closed; history = h }
after_frame x h st _ = refusal_given refusal.BadFrame Closed h

-- whether a frame that would get this reply may be refused for lack of memory instead: not if there
-- is no reply, or if it is a Welcome, a Stale or a refusal
abbrev pub may_lack_memory : Option Frame → Bool
may_lack_memory None = false
may_lack_memory (Some (Welcome profile width record_len groups count version dimension seed)) = false
may_lack_memory (Some (Stale version count)) = false
may_lack_memory (Some (Refused code)) = false
may_lack_memory (Some reply) = true

-- whether a frame may be refused for lack of memory: it passes every check, and its reply is none
-- of those that need no memory (`may_lack_memory`)
abbrev pub takes_memory : Setting → History → Standing → Frame → Bool
takes_memory x h st f = may_lack_memory (after_frame x h st f).reply

-- there is room for so many bytes more
abbrev pub HasRoom : ℕ → Vec ℕ Global → Type 0
HasRoom count out = vec_len out + count ≤ vec_capacity out

-- no words yet, and room for so many rows of so many words, each after its number
pub record IsRowBuffers (count dimension : ℕ) (words : Vec ℕ Global) : Type 0 where
  pub empty : words.items ≡ []
  pub len : vec_len words ≡ 0
  pub room : count * (dimension + 1) ≤ vec_capacity words

-- the room for a short reply is not there
abbrev pub IsFull : Vec ℕ Global → Type 0
IsFull out = vec_capacity out < vec_len out + 64

-- what a frame may lead to: what the checks say, or a refusal for memory if the last of them is
-- memory
abbrev pub IsAfterFrame : Setting → History → Standing → Frame → AfterFrame → Type 0
IsAfterFrame x h st f o = (o ≡ after_frame x h st f) ⊎ ((takes_memory x h st f ≡ true) × (o ≡ refusal_given refusal.Memory st h))

-- Frames are served one after another until the session is closed; then the others are dropped. The
-- history and the standing after them, and the replies.
abbrev pub ServesAll : Setting → History → Standing → List Frame → History → Standing → List Frame → Type 0
ServesAll x h st [] h2 st2 replies = (h2 ≡ h) × (st2 ≡ st) × (replies ≡ [])
ServesAll x h st (f ∷ fs) h2 st2 replies =
    MatchBool (is_closed st) ((h2 ≡ h) × (st2 ≡ st) × (replies ≡ []))
    ((o : AfterFrame) × (others : List Frame) × IsAfterFrame x h st f o × (replies ≡ option_to_list o.reply ++ others)
    × ServesAll x o.history o.standing fs h2 st2 others)

-- a reply that may be sent
abbrev pub FitsReply : Option Frame → Type 0
FitsReply None = Unit {0}
FitsReply (Some reply) = IsFrame reply

-- the bytes of a reply
abbrev pub reply_bytes : Option Frame → List ℕ
reply_bytes None = []
reply_bytes (Some reply) = encoding reply

-- A store that stands for an outcome's history in the setting, the outcome's standing, and what is
-- written: before it, and with its reply at the end.
pub record HasAfterFrame (x : Setting) (o : AfterFrame) (store : StoreState) (standing : Standing) (before after : List ℕ) : Type 0 where
  pub setting_is : setting_of store ≡ x
  pub store_is : StandsFor store o.history
  pub standing_is : standing ≡ o.standing
  pub reply_is : after ≡ before ++ reply_bytes o.reply
  pub reply_fits : FitsReply o.reply

-- a frame was served by a store
abbrev pub Serves : Setting → History → Standing → Frame → StoreState → Standing → List ℕ → List ℕ → Type 0
Serves x h st f store standing before after =
    HasAfterFrame x (after_frame x h st f) store standing before after
    ⊎ ((takes_memory x h st f ≡ true) × HasAfterFrame x (refusal_given refusal.Memory st h) store standing before after)

-- frames were served by a store
pub record ServedAll (x : Setting) (h : History) (st : Standing) (frames : List Frame) (store : StoreState) (after : Standing) (old new : List ℕ) : Type 0 where
  pub history : History
  pub replies : List Frame
  pub setting_is : setting_of store ≡ x
  pub store_is : StandsFor store history
  pub serves : ServesAll x h st frames history after replies
  pub written : new ≡ old ++ flat_map encoding replies
  pub each : AllByRecursion IsFrame replies

-- the first of the frames were served by a store, and left the session open
pub record BrokenOff (x : Setting) (h : History) (st : Standing) (frames : List Frame) (store : StoreState) (old new : List ℕ) : Type 0 where
  pub count : ℕ
  pub after : Standing
  pub within : count < length frames
  pub goes_on : is_closed after ≡ false
  pub served_all : ServedAll x h st (take count frames) store after old new
