-- What the frames of one stream lead to: a Load, then Queries, then a Bye.
use Rattle.std.specs.Prelude.{ℕ, ◌*◌, ◌/◌, ◌≤◌, ◌==◌, ◌&&◌, List, [], ◌∷◌, ◌++◌, length, Bool, Option, Some, None, if◌then◌else◌, option_to_list, unwrap_or, ◌≡◌}
use Rattle.std.specs.List.{flat_map}
use Rattle.frame_codec.specs.declared.frame.Frame.{Frame}
use Rattle.frame_codec.specs.declared.frame.Frame.TheVariants.{Load, Query, Bye, Answer, Stale, Refused}
use Rattle.frame_codec.specs.Frames.{payload_size, payload_limit, encoding}
use Rattle.digit_pack.specs.Layout.{Shape, shape, IsLayout, is_layout, digit_rows, digit_cols, digit_matrix, records_in}
use Rattle.simple_scheme.specs.Simple.{simple_answer}
use Rattle.once_session.specs.declared.stage.Table.{Table}
use Rattle.once_session.specs.declared.stage.Stage.{Stage}
use Rattle.once_session.specs.declared.stage.Stage.TheVariants.{Fresh, Loaded, Done, Bad}

-- the shape of the records that a Load brings: as many as its bytes make
abbrev pub loaded_shape : ℕ → ℕ → ℕ → List ℕ → Shape
loaded_shape record_len groups width bytes = shape width record_len groups (length bytes / record_len)

-- whether a Load's layout is accepted and its bytes are whole records
abbrev pub is_load : ℕ → ℕ → ℕ → List ℕ → Bool
is_load record_len groups width bytes =
    is_layout (loaded_shape record_len groups width bytes) && (length bytes / record_len * record_len == length bytes)

-- the database that it brings
abbrev pub table_of : ℕ → ℕ → ℕ → List ℕ → Table
table_of record_len groups width bytes =
    let l = loaded_shape record_len groups width bytes in
    record { layout = l; digits = digit_matrix l (records_in l bytes) }

-- the reply to a query: the version is 1, and the first check that applies decides
abbrev pub query_reply : Table → ℕ → ℕ → List ℕ → Frame
query_reply t scheme version words =
    if scheme == 0 then (
    if version == 1 then (
    if length words == digit_cols t.layout then Answer 0 1 (simple_answer t.digits words)
    else Refused 11)
    else Stale 1 t.layout.count)
    else Refused 13

-- what a frame is answered at each stage
abbrev pub reply : Stage → Frame → Option Frame
reply Fresh (Load record_len groups width records) = if is_load record_len groups width records then None else Some (Refused 1)
reply Fresh other = Some (Refused 1)
reply (Loaded t) (Query scheme version words) = Some (query_reply t scheme version words)
reply (Loaded t) Bye = None
reply (Loaded t) other = Some (Refused 1)
reply Done f = None
reply Bad f = None

-- the stage after a frame; what comes after the end is not judged
abbrev pub next : Stage → Frame → Stage
next Fresh (Load record_len groups width records) = if is_load record_len groups width records then Loaded (table_of record_len groups width records) else Bad
next Fresh other = Bad
next (Loaded t) (Query scheme version words) = Loaded t
next (Loaded t) Bye = Done
next (Loaded t) other = Bad
next Done f = Done
next Bad f = Bad

-- the replies to frames, in order
abbrev pub replies_to : Stage → List Frame → List Frame
replies_to st [] = []
replies_to st (f ∷ fs) = option_to_list (reply st f) ++ replies_to (next st f) fs

-- the stage after them
abbrev pub stage_after : Stage → List Frame → Stage
stage_after st [] = st
stage_after st (f ∷ fs) = stage_after (next st f) fs

-- a reply that may be sent
abbrev pub FitsWorkReply : Option Frame → Type 0
FitsWorkReply None = Unit {0}
FitsWorkReply (Some f) = payload_size f ≤ payload_limit

-- a database whose digits have the sizes of its layout
pub record IsTable (t : Table) : Type 0 where
  pub layout : IsLayout t.layout
  pub rows : t.digits.rows ≡ digit_rows t.layout
  pub cols : t.digits.cols ≡ digit_cols t.layout

-- the database of a stage, if it has one, is such
abbrev pub HasTable : Stage → Type 0
HasTable Fresh = Unit {0}
HasTable (Loaded t) = IsTable t
HasTable Done = Unit {0}
HasTable Bad = Unit {0}

-- what a frame does: its reply, and the stage that it leads to, if it leads to another
pub record WorkSteps (st : Stage) (f : Frame) (answer : Option Frame) (moves : Option Stage) : Type 0 where
  pub reply_is : answer ≡ reply st f
  pub stage_is : unwrap_or moves st ≡ next st f
  pub fits : FitsWorkReply answer
  pub kept : HasTable (unwrap_or moves st)

-- the bytes of a reply
abbrev pub work_reply_bytes : Option Frame → List ℕ
work_reply_bytes None = []
work_reply_bytes (Some f) = encoding f

-- the bytes of frames
abbrev pub encodings : List Frame → List ℕ
encodings frames = flat_map encoding frames
