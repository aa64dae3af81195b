-- What the progress of a script represents, and what its functions return.
use Rattle.std.specs.Prelude.{◌≡◌, ◌≢◌, ◌<◌, ◌⊎◌, ◌++◌, ℕ, List, [], length, take, false, Option, Result, Ok, Err}
use Rattle.std.specs.List.{flat_map}
use Rattle.std.specs.Io.KnownBytes.{Appends, Consumes}
use Rattle.pir_world.specs.declared.steps.Outcome.{Outcome}
use Rattle.version_store.specs.declared.opening.OpenError.TheVariants as opening_error
use Rattle.version_store.specs.Openings.{IsOpenFault}
use Rattle.pir_world.specs.Runs.{State, opening}
use Rattle.pir_world.specs.Worlds.{WorldSeen, IsRunOf}
use Rattle.world_script.specs.declared.progress.Progress.{Progress}
use Rattle.world_script.specs.declared.progress.Progress.TheVariants as progress
use Rattle.world_script.specs.declared.progress.WorldOpening.{WorldOpening}
use Rattle.world_script.specs.declared.stop.Stop.{Stop}
use Rattle.world_script.specs.declared.stop.Stop.TheVariants as stop
use Rattle.world_script.specs.declared.play.RehearseFault.{RehearseFault}
use Rattle.world_script.specs.declared.play.RehearseFault.TheVariants as fault
use Rattle.world_script.specs.Texts.{outcome_text, bad_line_text, refused_world_text, too_long_text, memory_text}
use Rattle.world_script.specs.Scripts.{Filling, RunningWorld, ScriptPlace, ScriptMove, Start, Sized, Filled, Running, Goes, Bad, Refused, header_of_filling, joined_texts}

-- what a header has said
abbrev pub filling_of : WorldOpening → Filling
filling_of o = record { sizes = o.sizes; seed = o.seed; records = o.records.items; count = o.count; clients = o.clients.items }

-- a world in a state
abbrev pub running_world : WorldSeen → State → RunningWorld
running_world w s = record { header = w.header; clients = length w.ends; state = s }

-- progress is at a place: of a world, its steps lead to the state
abbrev pub IsAt : Progress → ScriptPlace → Type 0
IsAt progress.Start place = place ≡ Start
IsAt (progress.Sized sizes) place = place ≡ Sized sizes
IsAt (progress.Filling o) place = place ≡ Filled (filling_of o)
IsAt (progress.Running w) place = (s : State) × IsRunOf w s × (w.broken ≡ false) × (place ≡ Running (running_world w s))

-- what the outcomes' lines are, after a fault those that were printed before it, or a part of them
abbrev pub SaysAll : List Outcome → Option (List ℕ) → Result (Unit {0}) Stop → Option (List ℕ) → Type 0
SaysAll outcomes old (Ok _) new = Appends old new (flat_map outcome_text outcomes)
SaysAll outcomes old (Err stop.Memory) new = (k : ℕ) × Appends old new (flat_map outcome_text (take k outcomes))
SaysAll outcomes old (Err stop.Write) new =
    (k : ℕ) × (k < length (flat_map outcome_text outcomes)) × Appends old new (take k (flat_map outcome_text outcomes))
SaysAll outcomes old (Err _) new = ⊥

-- why a script ends at moves of a kind, and what was printed on the way
abbrev pub StopsAtMove : (ScriptMove → Type 0) → ℕ → Option (List ℕ) → Stop → Option (List ℕ) → Type 0
StopsAtMove Makes number old (stop.BadLine n) new = (n ≡ number) × Makes Bad × Appends old new []
StopsAtMove Makes number old (stop.World fault) new = Makes (Refused fault) × Appends old new []
StopsAtMove Makes number old stop.Memory new =
    Appends old new []
    ⊎ ((next : ScriptPlace) × (texts : List (List ℕ)) × (k : ℕ) × Makes (Goes next texts) × Appends old new (joined_texts (take k texts)))
StopsAtMove Makes number old stop.Write new =
    (next : ScriptPlace) × (texts : List (List ℕ)) × (k : ℕ) × Makes (Goes next texts) × (k < length (joined_texts texts)) × Appends old new (take k (joined_texts texts))
StopsAtMove Makes number old _ new = ⊥

-- one of these moves is made, and its texts are printed
abbrev pub MakesMove : (ScriptMove → Type 0) → ℕ → Option (List ℕ) → Result Progress Stop → Option (List ℕ) → Type 0
MakesMove Makes number old (Ok s) new =
    (next : ScriptPlace) × (texts : List (List ℕ)) × IsAt s next × Makes (Goes next texts) × Appends old new (joined_texts texts)
MakesMove Makes number old (Err e) new = StopsAtMove Makes number old e new

-- one of these moves is made, and nothing is printed
abbrev pub MovesQuietly : (ScriptMove → Type 0) → ℕ → Result Progress Stop → Type 0
MovesQuietly Makes number (Ok s) = (next : ScriptPlace) × IsAt s next × Makes (Goes next [])
MovesQuietly Makes number (Err (stop.BadLine n)) = (n ≡ number) × Makes Bad
MovesQuietly Makes number (Err stop.Memory) = Unit {0}
MovesQuietly Makes number (Err _) = ⊥

-- the end of a script is such a move
abbrev pub EndsAs : (ScriptMove → Type 0) → ℕ → Result (Unit {0}) Stop → Type 0
EndsAs Makes number (Ok _) = (next : ScriptPlace) × Makes (Goes next [])
EndsAs Makes number (Err (stop.BadLine n)) = (n ≡ number) × Makes Bad
EndsAs Makes number (Err (stop.World fault)) = Makes (Refused fault)
EndsAs Makes number (Err stop.Memory) = Unit {0}
EndsAs Makes number (Err _) = ⊥

-- a text is printed, after a fault none or a part of it
abbrev pub SaysText : List ℕ → Option (List ℕ) → Result (Unit {0}) Stop → Option (List ℕ) → Type 0
SaysText text old (Ok _) new = Appends old new text
SaysText text old (Err stop.Memory) new = Appends old new []
SaysText text old (Err stop.Write) new = (k : ℕ) × (k < length text) × Appends old new (take k text)
SaysText text old (Err _) new = ⊥

-- a world that has made no step
pub record IsOpened (f : Filling) (w : WorldSeen) : Type 0 where
  pub header : w.header ≡ header_of_filling f
  pub records : w.records ≡ f.records
  pub clients : length w.ends ≡ length f.clients
  pub alive : w.broken ≡ false
  pub run : IsRunOf w (opening (header_of_filling f) f.records f.clients)

-- a world that is opened, or why it isn't
abbrev pub OpensWorld : Filling → Result WorldSeen Stop → Type 0
OpensWorld f (Ok w) = IsOpened f w
OpensWorld f (Err (stop.World fault)) = (fault ≢ opening_error.Memory) × IsOpenFault (header_of_filling f) f.records fault
OpensWorld f (Err stop.Memory) = Unit {0}
OpensWorld f (Err _) = ⊥

-- the last line of a script that ends early
abbrev pub last_text : Stop → List ℕ
last_text stop.TooLong = too_long_text
last_text (stop.BadLine n) = bad_line_text n
last_text (stop.World fault) = refused_world_text fault
last_text stop.Memory = memory_text
last_text _ = []

-- the status of a script that ends early
abbrev pub last_status : Stop → ℕ
last_status stop.Memory = 4
last_status _ = 3

-- bytes that were printed, the first of a script's
pub record IsOutputCutShort (Prints : List ℕ → ℕ → Type 0) (old new : Option (List ℕ)) : Type 0 where
  pub printed : List ℕ
  pub status : ℕ
  pub count : ℕ
  pub prints : Prints printed status
  pub short : count < length printed
  pub wrote : Appends old new (take count printed)

-- what was printed, but for the last line; or, if memory for it was refused, but for the line that
-- says so
pub record IsBefore (Prints : List ℕ → ℕ → Type 0) (e : Stop) (old new : Option (List ℕ)) : Type 0 where
  pub said : List ℕ
  pub wrote : Appends old new said
  pub ends : Prints (said ++ last_text e) (last_status e)
  pub forgets : Prints (said ++ memory_text) 4

-- how a script ends early
abbrev pub StopsScript : (List ℕ → ℕ → Type 0) → Option (List ℕ) → Stop → Option (List ℕ) → Type 0
StopsScript Prints old stop.Write new = IsOutputCutShort Prints old new
StopsScript Prints old stop.Read new = ⊥
StopsScript Prints old e new = IsBefore Prints e old new

-- how a script ends
abbrev pub PlaysScript : (List ℕ → ℕ → Type 0) → Option (List ℕ) → Result (Unit {0}) Stop → Option (List ℕ) → Type 0
PlaysScript Prints old (Ok _) new = (printed : List ℕ) × Prints printed 0 × Appends old new printed
PlaysScript Prints old (Err e) new = StopsScript Prints old e new

-- a script that was not wholly read
abbrev pub StopsReading : Option (List ℕ) → Stop → Option (List ℕ) → Type 0
StopsReading old stop.Read new = Unit {0}
StopsReading old stop.Memory new = (read : List ℕ) × Consumes old new read
StopsReading old stop.TooLong new = (read : List ℕ) × Consumes old new read × (1048576 < length read)
StopsReading old _ new = ⊥

-- an end that has a line of its own, and no fault of a reader or a writer
abbrev pub HasLastLine : Stop → Type 0
HasLastLine stop.Read = ⊥
HasLastLine stop.Write = ⊥
HasLastLine _ = Unit {0}

-- what is printed of an end: its last line; or that memory for it was refused; after a fault a part
-- of these
abbrev pub ReportsEnd : Stop → Option (List ℕ) → Result ℕ RehearseFault → Option (List ℕ) → Type 0
ReportsEnd e old (Ok status) new =
    HasLastLine e × ((Appends old new (last_text e) × (status ≡ last_status e)) ⊎ (Appends old new memory_text × (status ≡ 4)))
ReportsEnd e old (Err fault.Read) new = (e ≡ stop.Read) × Appends old new []
ReportsEnd e old (Err fault.Write) new =
    ((e ≡ stop.Write) × Appends old new [])
    ⊎ (HasLastLine e × ((k : ℕ) × (k < length (last_text e)) × Appends old new (take k (last_text e))))
    ⊎ (HasLastLine e × ((k : ℕ) × (k < length memory_text) × Appends old new (take k memory_text)))

-- an end with a line of its own, but for memory
abbrev pub IsEarly : Stop → Type 0
IsEarly stop.TooLong = Unit {0}
IsEarly (stop.BadLine n) = Unit {0}
IsEarly (stop.World fault) = Unit {0}
IsEarly _ = ⊥
