-- What a script prints, line by line.
use Rattle.std.specs.Prelude.{◌≡◌, ◌≢◌, ◌<◌, ◌≤◌, ◌+◌, ◌⊎◌, ◌++◌, ◌==◌, ◌&&◌, ℕ, List, [], ◌∷◌, length, take, drop, map, replicate, true, false, nat_lt, nat_le, if◌then◌else◌, Option, Some, None}
use Rattle.std.specs.List.{flat_map}
use Rattle.std.specs.Io.KnownBytes.{IsAtEnd}
use Rattle.pir_schemes.specs.declared.plan.Plan.{Plan}
use Rattle.pir_schemes.specs.Plans.{fits, slot}
use Rattle.snapshot_file.specs.declared.snapshot.Header.{Header}
use Rattle.version_store.specs.declared.opening.OpenError.{OpenError}
use Rattle.version_store.specs.declared.opening.OpenError.TheVariants as opening_error
use Rattle.version_store.specs.Openings.{IsOpenFault, plan_held}
use Rattle.pir_world.specs.declared.steps.Step.{Step}
use Rattle.pir_world.specs.declared.steps.Step.TheVariants as step
use Rattle.pir_world.specs.declared.steps.Outcome.{Outcome}
use Rattle.pir_world.specs.Runs.{State, StepsTo, setting_in, opening, outcomes_of}
use Rattle.pir_world.specs.Headlines.{IsOpening}
use Rattle.pir_world.specs.Sides.{has_client}
use Rattle.world_script.specs.declared.line.HeaderSizes.{HeaderSizes}
use Rattle.world_script.specs.declared.line.Line.{Line}
use Rattle.world_script.specs.declared.line.Line.TheVariants as line
use Rattle.world_script.specs.Texts.{outcome_text, no_client_text, bad_line_text, refused_world_text, too_long_text, memory_text}
use Rattle.world_script.specs.Lines.{lines_of, is_silent, line_of}

-- ---- how far a script has come

-- what a header has said: the sizes, the public seed, the records' bytes one after another, how
-- many they are, the clients' seeds
pub record Filling : Type 0 where
  pub sizes : HeaderSizes
  pub seed : List ℕ
  pub records : List ℕ
  pub count : ℕ
  pub clients : List (List ℕ)

-- a world that runs: what it was opened with, how many clients it has, and its state
pub record RunningWorld : Type 0 where
  pub header : Header
  pub clients : ℕ
  pub state : State

-- nothing was said; the sizes were; the seed was, and maybe records and clients; steps are made
pub data ScriptPlace : Type 0 where
  Start : ScriptPlace
  Sized : (sizes : HeaderSizes) → ScriptPlace
  Filled : (filling : Filling) → ScriptPlace
  Running : (world : RunningWorld) → ScriptPlace

-- what a line leads to: the next place and the texts that are printed on the way, or an end of the
-- script
pub data ScriptMove : Type 0 where
  Goes : (next : ScriptPlace) (texts : List (List ℕ)) → ScriptMove
  Bad : ScriptMove
  Refused : (fault : OpenError) → ScriptMove

-- ---- the header

-- what a world is opened with: version 1, and no publisher
abbrev pub header_of_filling : Filling → Header
header_of_filling f = record {
  form = f.sizes.form;
  width = f.sizes.width;
  record_len = f.sizes.record_len;
  groups = f.sizes.groups;
  count = f.count;
  dimension = f.sizes.dimension;
  version = 1;
  seed = f.seed;
  publisher = replicate 32 0;
}

-- what stays the same in every version of it
abbrev pub plan_of_filling : Filling → Plan
plan_of_filling f = plan_held (header_of_filling f)

-- the bytes that are kept of a record: those that it has in the digits; none if no world has
-- records so long
abbrev pub kept_of : Plan → List ℕ → List ℕ
kept_of p bytes = if nat_le p.record_len 256 then slot p bytes else []

-- one record more
abbrev pub with_record : Filling → List ℕ → Filling
with_record f bytes = record f { records = f.records ++ kept_of (plan_of_filling f) bytes; count = f.count + 1 }

-- one client more
abbrev pub with_client : Filling → List ℕ → Filling
with_client f seed = record f { clients = f.clients ++ seed ∷ [] }

-- a record has its place before all clients, and a length that the sizes allow
abbrev pub record_move : Filling → List ℕ → ScriptMove
record_move f bytes =
    if (length f.clients == 0) && fits (plan_of_filling f) bytes then Goes (Filled (with_record f bytes)) [] else Bad

-- a client has its place after the records, if there are fewer than 16
abbrev pub client_move : Filling → List ℕ → ScriptMove
client_move f seed = if nat_lt 0 f.count && nat_lt (length f.clients) 16 then Goes (Filled (with_client f seed)) [] else Bad

-- what the first line of a header leads to
abbrev pub start_move : Line → ScriptMove
start_move (line.World sizes) = Goes (Sized sizes) []
start_move _ = Bad

-- what its second line leads to
abbrev pub sized_move : HeaderSizes → Line → ScriptMove
sized_move sizes (line.Seed seed) = Goes (Filled (record { sizes = sizes; seed = seed; records = []; count = 0; clients = [] })) []
sized_move sizes _ = Bad

-- ---- the world

-- the world as it is opened
abbrev pub opened_world : Filling → RunningWorld
opened_world f = record {
  header = header_of_filling f;
  clients = length f.clients;
  state = opening (header_of_filling f) f.records f.clients;
}

-- the world is opened and goes on, or it is refused for a fault of what it is opened with
abbrev pub Opens : Filling → (RunningWorld → ScriptMove → Type 0) → ScriptMove → Type 0
Opens f goes move =
    (IsOpening (header_of_filling f) f.records × goes (opened_world f) move)
    ⊎ ((fault : OpenError) × (fault ≢ opening_error.Memory) × IsOpenFault (header_of_filling f) f.records fault × (move ≡ Refused fault))

-- the client that a step names; of the others none is asked
abbrev pub named_client : Step → ℕ
named_client (step.Hello k) = k
named_client (step.Sync k scheme) = k
named_client (step.Ask k i) = k
named_client (step.ToServer k most) = k
named_client (step.ToClient k most) = k
named_client _ = 0

-- the outcomes of a state that an earlier one hadn't
abbrev pub added_outcomes : State → State → List Outcome
added_outcomes s t = drop (length (outcomes_of s.log)) (outcomes_of t.log)

-- a step is made, and each outcome that it adds is printed; or it names a client that doesn't exist
abbrev pub MakesStep : RunningWorld → Step → ScriptMove → Type 0
MakesStep c s move =
    ((has_client s c.clients ≡ true)
    × ((t : State)
    × StepsTo (setting_in c.header) c.state s t
    × (move ≡ Goes (Running (record c { state = t })) (map outcome_text (added_outcomes c.state t)))))
    ⊎ ((has_client s c.clients ≡ false) × (move ≡ Goes (Running c) (no_client_text (named_client s) ∷ [])))

-- ---- lines

-- what a line leads to once the seed was said; the first step opens the world
abbrev pub LeadsFilled : Filling → Line → ScriptMove → Type 0
LeadsFilled f (line.Step s) move =
    ((length f.clients ≡ 0) × (move ≡ Bad)) ⊎ ((0 < length f.clients) × Opens f (λ c m. MakesStep c s m) move)
LeadsFilled f (line.Record bytes) move = move ≡ record_move f bytes
LeadsFilled f (line.Client seed) move = move ≡ client_move f seed
LeadsFilled f _ move = move ≡ Bad

-- what a line leads to while the world runs
abbrev pub LeadsRunning : RunningWorld → Line → ScriptMove → Type 0
LeadsRunning c (line.Step s) move = MakesStep c s move
LeadsRunning c _ move = move ≡ Bad

-- what a line leads to at a place
abbrev pub Leads : ScriptPlace → Line → ScriptMove → Type 0
Leads Start l move = move ≡ start_move l
Leads (Sized sizes) l move = move ≡ sized_move sizes l
Leads (Filled f) l move = LeadsFilled f l move
Leads (Running c) l move = LeadsRunning c l move

-- a line as it was read; one that is not written so is bad
abbrev pub LeadsRead : ScriptPlace → Option Line → ScriptMove → Type 0
LeadsRead place None move = move ≡ Bad
LeadsRead place (Some l) move = Leads place l move

-- a line of a script; a silent one leads nowhere
abbrev pub LeadsText : ScriptPlace → List ℕ → ScriptMove → Type 0
LeadsText place text move =
    ((is_silent text ≡ true) × (move ≡ Goes place [])) ⊎ ((is_silent text ≡ false) × LeadsRead place (line_of text) move)

-- what the end of a script leads to; a world that made no step is opened now
abbrev pub LeadsAtEnd : ScriptPlace → ScriptMove → Type 0
LeadsAtEnd (Filled f) move =
    ((length f.clients ≡ 0) × (move ≡ Bad))
    ⊎ ((0 < length f.clients) × Opens f (λ c m. m ≡ Goes (Running c) []) move)
LeadsAtEnd (Running c) move = move ≡ Goes (Running c) []
LeadsAtEnd place move = move ≡ Bad

-- ---- scripts

-- texts one after another
abbrev pub joined_texts : List (List ℕ) → List ℕ
joined_texts texts = flat_map (λ text. text) texts

-- memory was refused: one line says so, and nothing comes after it
abbrev pub IsOutOfMemory : List ℕ → ℕ → Type 0
IsOutOfMemory printed status = (printed ≡ memory_text) × (status ≡ 4)

-- what is printed from a move on, and the status. The number is that of the line. Memory may be
-- refused after any of the texts.
abbrev pub FollowsMove : ℕ → (ScriptPlace → List ℕ → ℕ → Type 0) → ScriptMove → List ℕ → ℕ → Type 0
FollowsMove number then_ (Goes next texts) printed status =
    ((rest : List ℕ) × (printed ≡ joined_texts texts ++ rest) × then_ next rest status)
    ⊎ ((k : ℕ) × (printed ≡ joined_texts (take k texts) ++ memory_text) × (status ≡ 4))
FollowsMove number then_ Bad printed status = (printed ≡ bad_line_text number) × (status ≡ 3)
FollowsMove number then_ (Refused fault) printed status = (printed ≡ refused_world_text fault) × (status ≡ 3)

-- a script that was played to its end prints nothing more
abbrev pub IsPlayedOut : ScriptPlace → List ℕ → ℕ → Type 0
IsPlayedOut place printed status = (printed ≡ []) × (status ≡ 0)

-- What these lines print from a place on, and the status. The number is that of the next line.
-- Memory may be refused at any of them.
abbrev pub Plays : List (List ℕ) → ScriptPlace → ℕ → List ℕ → ℕ → Type 0
Plays [] place number printed status =
    IsOutOfMemory printed status ⊎ ((move : ScriptMove) × LeadsAtEnd place move × FollowsMove number IsPlayedOut move printed status)
Plays (text ∷ texts) place number printed status =
    IsOutOfMemory printed status
    ⊎ ((move : ScriptMove) × LeadsText place text move × FollowsMove number (λ next rest s. Plays texts next (number + 1) rest s) move printed status)

-- What a script prints, and the status: it is played, or it is too long. `script` has its bytes as
-- far as they were read, `left` those after them.
abbrev pub IsRehearsal : List ℕ → Option (List ℕ) → List ℕ → ℕ → Type 0
IsRehearsal script left printed status =
    IsOutOfMemory printed status
    ⊎ ((1048576 < length script) × (printed ≡ too_long_text) × (status ≡ 3))
    ⊎ (IsAtEnd left × (length script ≤ 1048576) × Plays (lines_of script) Start 1 printed status)
