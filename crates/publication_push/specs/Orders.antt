-- What a server is asked for, so that it comes to have the publications that it lacks.
use Rattle.std.specs.Prelude.{◌≡◌, nat_lt, if◌then◌else◌, ℕ, List, [], ◌∷◌, ◌++◌, Option, Some, None}
use Rattle.frame_codec.specs.declared.frame.Frame.{Frame}
use Rattle.frame_codec.specs.declared.frame.Frame.TheVariants as frame
use Rattle.publication_log.specs.declared.changes.Change.{Change}
use Rattle.publication_log.specs.declared.changes.Publication.{Publication}
use Rattle.publication_log.specs.Publications.{Placed, Published, changes_bytes, AreChanges}
use Rattle.publication_log.specs.Entries.{chain_bytes}
use Rattle.publication_log.specs.Logs.{bodies_of, AreNext}
use Rattle.log_replay.specs.Replays.{count_after, count_after_all}
use Rattle.publication_push.specs.declared.orders.Order.{Order}
use Rattle.publication_push.specs.declared.orders.Order.TheVariants as order
use Rattle.publication_push.specs.declared.orders.Orders.{Orders}

-- what a server is asked for: bytes for a record, a record more, or that the changes before become
-- this version
pub data Ordered : Type 0 where
  Edits : (place : ℕ) (bytes : List ℕ) → Ordered
  Appends : (bytes : List ℕ) → Ordered
  Publishes : (version : ℕ) → Ordered

-- an order, by the bytes that it lends
abbrev pub ordered_of : Order → Ordered
ordered_of (order.Edit place bytes) = Edits place bytes.now
ordered_of (order.Append bytes) = Appends bytes.now
ordered_of (order.Publish version) = Publishes version

-- its frame
abbrev pub ordered_frame : Ordered → Frame
ordered_frame (Edits place bytes) = frame.Edit place bytes
ordered_frame (Appends bytes) = frame.Append bytes
ordered_frame (Publishes version) = frame.Publish

-- the version that the Done to it is to name, if the server is at this one before: an edit and an
-- append leave the version
abbrev pub done_version : ℕ → Ordered → ℕ
done_version before (Publishes version) = version
done_version before _ = before

-- the edit of one of so many records, or the append, that a change is
abbrev pub change_order : ℕ → Placed → Ordered
change_order count c = if nat_lt c.place count then Edits c.place c.bytes else Appends c.bytes

-- a change by the bytes that it lends
abbrev pub placed_of : Change → Placed
placed_of c = record { place = c.place; bytes = c.bytes.now }

-- the edits and appends that changes of so many records are
abbrev pub change_orders : ℕ → List Placed → List Ordered
change_orders count [] = []
change_orders count (c ∷ cs) = change_order count c ∷ change_orders (count_after count c) cs

-- what a server of so many records that lacks these publications is asked for: of each its changes,
-- and then that they become its version
abbrev pub orders_of : ℕ → List Published → List Ordered
orders_of count [] = []
orders_of count (p ∷ ps) = change_orders count p.changes ++ (Publishes p.version ∷ orders_of (count_after_all count p.changes) ps)

-- ---- orders that are handed out one after another

-- bytes that are the entries of publications whose versions follow one another
pub record AreEntriesOf (bytes : List ℕ) (ps : List Published) : Type 0 where
  pub link : List ℕ
  pub version : ℕ
  pub each : AreNext version ps
  pub bytes_are : bytes ≡ chain_bytes link (bodies_of ps)

-- bytes that are those of changes by ascending place
pub record AreLeft (bytes : List ℕ) (cs : List Placed) : Type 0 where
  pub low : ℕ
  pub each : AreChanges low cs
  pub bytes_are : bytes ≡ changes_bytes cs

-- what is left of a publication of which these changes are left, before other publications
abbrev pub begun_orders : ℕ → ℕ → List Placed → List Published → List Ordered
begun_orders count version cs ps = change_orders count cs ++ (Publishes version ∷ orders_of (count_after_all count cs) ps)

-- these orders are left, by the publication that is begun, if one is, and by the bytes after it
abbrev pub AreOrders : ℕ → Option Publication → List ℕ → List Ordered → Type 0
AreOrders count None rest left = (ps : List Published) × AreEntriesOf rest ps × (left ≡ orders_of count ps)
AreOrders count (Some p) rest left =
    (cs : List Placed) × (ps : List Published) × AreLeft p.changes.rest.now cs × AreEntriesOf rest ps × (left ≡ begun_orders count p.version cs ps)

-- these orders are left
abbrev pub HasOrders : Orders → List Ordered → Type 0
HasOrders orders left = AreOrders orders.count orders.begun orders.rest.rest.now left
