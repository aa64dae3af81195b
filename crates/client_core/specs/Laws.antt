-- Laws of clients.
use Rattle.std.specs.Prelude.{◌≡◌, ◌<◌, ◌≤◌, ◌+◌, ℕ, List, [], ◌∷◌, ◌++◌, ◌⊎◌, length, map, slice_index, Some, None, true}
use Rattle.std.specs.List.{Contains}
use Rattle.matrix_u32.specs.Matrix.{WordMatrix, IsWhole, row, product}
use Rattle.digit_pack.specs.Layout.{digit_matrix}
use Rattle.hint_changes.specs.Changes.{changes_between}
use Rattle.hint_changes.specs.Entries.{changes_in}
use Rattle.frame_codec.specs.Rows.{Row, row_list}
use Rattle.frame_codec.specs.declared.frame.Frame.{Frame}
use Rattle.frame_codec.specs.declared.frame.Frame.TheVariants as frame
use Rattle.pir_schemes.specs.declared.scheme.Scheme.{Scheme}
use Rattle.pir_schemes.specs.declared.scheme.Scheme.TheVariants.{Simple}
use Rattle.pir_schemes.specs.Schemes.{scheme_byte}
use Rattle.pir_schemes.specs.Parts.{part_of}
use Rattle.pir_schemes.specs.declared.plan.Plan.{Plan}
use Rattle.pir_schemes.specs.Plans.{shape_at, first_public}
use Rattle.pir_schemes.specs.Retrievals.{hint_rows, hint_len}
use Rattle.client_core.specs.States.{shape_known}
use Rattle.client_core.specs.declared.state.ClientState.{ClientState}
use Rattle.client_core.specs.declared.state.ServerInfo.{ServerInfo}
use Rattle.client_core.specs.declared.state.Hint.{Hint}
use Rattle.client_core.specs.declared.state.Call.TheVariants.{Sync, Delta, Changes}
use Rattle.client_core.specs.declared.state.Event.TheVariants.{Synced}
use Rattle.client_core.specs.Calls.{ClientCall, Ask, state_after_call, spent}
use Rattle.client_core.specs.Replies.{reaction_to_reply, ended, hint_made, with_current, is_delta, is_changes}
use Rattle.client_core.specs.Feeding.{takes_all}

-- what happens to a client: a call is accepted, a call is refused by a check, a call is refused
-- memory, a reply is taken, the client fails
pub data Happening : Type 0 where
  Accepted : (want : ClientCall) → Happening
  TurnedDown : (want : ClientCall) → Happening
  Lacking : (want : ClientCall) → Happening
  Replied : (reply : Frame) → Happening
  Failing : Happening

-- a client's state after a happening
abbrev pub after : ClientState → Happening → ClientState
after c (Accepted want) = state_after_call want c
after c (TurnedDown want) = c
after c (Lacking want) = spent want c
after c (Replied reply) = (reaction_to_reply c reply).state
after c Failing = record c { failed = true }

-- the number of the query that a call sends
abbrev pub number_of_call : ClientState → ClientCall → List ℕ
number_of_call c (Ask i) = c.number ∷ []
number_of_call c _ = []

-- the numbers of the queries sent then: one, if the call is an ask
abbrev pub numbers_at : ClientState → Happening → List ℕ
numbers_at c (Accepted want) = number_of_call c want
numbers_at c _ = []

-- the numbers of the queries that a client sends, in order
abbrev pub numbers : ClientState → List Happening → List ℕ
numbers c [] = []
numbers c (h ∷ hs) = numbers_at c h ++ numbers (after c h) hs

-- the numbers of the queries grow, whatever happens: none is used twice, and none is below the
-- first
pub record NoNumberTwice : Type 0 where
  pub grows : (c : ClientState) (hs : List Happening) (i j : ℕ) → i < j → j < length (numbers c hs) →
      slice_index (numbers c hs) i < slice_index (numbers c hs) j
  pub fresh : (c : ClientState) (hs : List Happening) (i : ℕ) → i < length (numbers c hs) → c.number ≤ slice_index (numbers c hs) i

-- the replies are parts j, j + 1, .. of a version's hint, and these are their words, one after
-- another
abbrev pub ArePartsFrom : Scheme → ℕ → ℕ → List Frame → List ℕ → Type 0
ArePartsFrom s v j [] words = words ≡ []
ArePartsFrom s v j (f ∷ fs) words =
    (here : List ℕ) × (rest : List ℕ) × (f ≡ frame.HintPart (scheme_byte s) v j here) × (words ≡ here ++ rest) × ArePartsFrom s v (j + 1) fs rest

-- the replies since a sync began made it end with its hint
pub record IsSyncedBy (c : ClientState) (s : Scheme) (k : ServerInfo) (v version : ℕ) (replies : List Frame) : Type 0 where
  pub known : c.known ≡ Some k
  pub asked : c.call ≡ Sync s v 0
  pub none : c.parts ≡ []
  pub good : (takes_all c replies).fault ≡ None
  pub reported : (takes_all c replies).events ≡ Synced s version ∷ []

-- the hint held is made of the parts that came, in order, all of the one version asked
pub record IsMadeOfParts (c : ClientState) (s : Scheme) (k : ServerInfo) (v version : ℕ) (replies : List Frame) : Type 0 where
  pub words : List ℕ
  pub parts : ArePartsFrom s v 0 replies words
  pub count : length words ≡ hint_len s (shape_known k) k.plan.dimension
  pub same : version ≡ v
  pub hint : (takes_all c replies).state.hint ≡ Some (hint_made s k v words)

-- so it is after every sync
abbrev pub SyncedHintIsMadeOfParts : Type 0
SyncedHintIsMadeOfParts = (c : ClientState) (s : Scheme) (k : ServerInfo) (v version : ℕ) (replies : List Frame) → IsSyncedBy c s k v version replies →
    IsMadeOfParts c s k v version replies

-- each reply is a part of these words, from part j on
abbrev pub ArePartsOf : Scheme → List ℕ → ℕ → ℕ → List Frame → Type 0
ArePartsOf s whole v j [] = Unit {0}
ArePartsOf s whole v j (f ∷ fs) = (f ≡ frame.HintPart (scheme_byte s) v j (part_of whole j)) × ArePartsOf s whole v (j + 1) fs

-- if the parts are those of a hint, the hint held is that hint
abbrev pub PartsOfAHintMakeIt : Type 0
PartsOfAHintMakeIt = (c : ClientState) (s : Scheme) (k : ServerInfo) (v version : ℕ) (replies : List Frame) (hint : WordMatrix) →
    IsSyncedBy c s k v version replies → hint.rows ≡ hint_rows s (shape_known k) k.plan.dimension → hint.cols ≡ k.plan.dimension → IsWhole hint →
    ArePartsOf s hint.words v 0 replies →
    (takes_all c replies).state.hint ≡ Some (record { scheme = s; version = v; matrix = hint })

-- the rows of a matrix with these numbers
abbrev pub rows_of : WordMatrix → List ℕ → List Row
rows_of m numbers = map (λ i. record { number = i; words = row m i }) numbers

-- If the rows of a Delta are those of a hint, and each row that it doesn't name is the same in
-- the hint held, the hint held is that hint then.
abbrev pub DeltaMakesTheHint : Type 0
DeltaMakesTheHint = (c : ClientState) (k : ServerInfo) (h : Hint) (since now count : ℕ) (hint : WordMatrix) (numbers : List ℕ) →
    c.known ≡ Some k → c.hint ≡ Some h → c.call ≡ Delta since → is_delta k since since now count hint.cols numbers ≡ true →
    IsWhole h.matrix → IsWhole hint → h.matrix.rows ≡ hint.rows → h.matrix.cols ≡ hint.cols →
    ((i : ℕ) → i < hint.rows → Contains numbers i ⊎ (row h.matrix i ≡ row hint i)) →
    reaction_to_reply c (frame.Delta since now count (row_list hint.cols (rows_of hint numbers)))
    ≡ ended (record c { known = Some (with_current k now count); hint = Some (record h { version = now; matrix = hint }) }) (Synced Simple now)

-- the SimplePIR hint of records with these bytes in the digits, made from scratch for a version of
-- so many records
abbrev pub hint_of_slots : Plan → ℕ → List (List ℕ) → WordMatrix
hint_of_slots p count slots = product (digit_matrix (shape_at p count) slots) (first_public (shape_at p count) p.dimension p.seed)

-- If the entries of Changes are what differs between two lists of records that are as long, and the
-- hint held is the one made from scratch of the records before, the hint held then is the one made
-- from scratch of the records after.
abbrev pub ChangesMakeTheHint : Type 0
ChangesMakeTheHint = (c : ClientState) (k : ServerInfo) (h : Hint) (since now count : ℕ) (entries : List ℕ) (before after : List (List ℕ)) →
    c.known ≡ Some k → c.hint ≡ Some h → c.call ≡ Changes since → is_changes k since since now count entries ≡ true →
    changes_in k.plan.record_len entries ≡ changes_between before after → length before ≡ length after → length after ≤ count →
    h.matrix ≡ hint_of_slots k.plan count before →
    reaction_to_reply c (frame.Changes since now count entries)
    ≡ ended (record c { known = Some (with_current k now count); hint = Some (record h { version = now; matrix = hint_of_slots k.plan count after }) })
    (Synced Simple now)
