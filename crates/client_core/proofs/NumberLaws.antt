-- The numbers of a client's queries grow.
use Rattle.std.proofs.Common.{◌≡◌, ℕ, zero, suc, ◌+◌, ◌<◌, ◌≤◌, Bool, true, false, cond, List, [], ◌∷◌, ◌++◌, length, Option, Some, None, refl, arith}
use Rattle.std.specs.Prelude.{slice_index}
use Rattle.frame_codec.specs.declared.frame.Frame.{Frame}
use Rattle.frame_codec.specs.declared.frame.Frame.TheVariants as frame
use Rattle.frame_codec.specs.Rows.{RowList}
use Rattle.pir_schemes.specs.declared.plan.Plan.{Plan}
use Rattle.pir_schemes.specs.declared.scheme.Scheme.{Scheme}
use Rattle.client_core.specs.declared.state.ClientState.{ClientState}
use Rattle.client_core.specs.declared.state.ServerInfo.{ServerInfo}
use Rattle.client_core.specs.declared.state.Hint.{Hint}
use Rattle.client_core.specs.declared.state.Call.{Call}
use Rattle.client_core.specs.declared.state.Call.TheVariants as call
use Rattle.client_core.specs.States.{delta_base}
use Rattle.client_core.specs.Calls.{ClientCall, Hello, Sync, Ask, Edit, Append, Publish, sync_begun}
use Rattle.client_core.specs.Replies.{AfterReply, plan_given, reaction_to_reply, reaction_to_part, reaction_to_stale, reaction_to_delta, reaction_to_changes, reaction_to_no_delta}
use Rattle.client_core.specs.Kinds.{takes_welcome, takes_asked_part, takes_part, answered, takes_answer, takes_stale, takes_delta, takes_changes, takes_no_delta, takes_done, takes_refused}
use Rattle.client_core.specs.Laws.{Happening, Accepted, TurnedDown, Lacking, Replied as Reply, Failing, after, numbers, NoNumberTwice}

-- ---- no reply changes the number

either : (n : ℕ) (b : Bool) (x y : AfterReply) → x.state.number ≡ n → y.state.number ≡ n → (cond b x y).state.number ≡ n
either n true x y p q = p
either n false x y p q = q

welcome_number : (k : Call) (c : ClientState) (plan : Plan) (count version : ℕ) →
    (takes_welcome k c plan count version).state.number ≡ c.number
welcome_number call.Idle c plan count version = refl
welcome_number call.Hello c plan count version = either c.number _ _ _ refl refl
welcome_number (call.Sync s v p) c plan count version = refl
welcome_number (call.Delta since) c plan count version = refl
welcome_number (call.Changes since) c plan count version = refl
welcome_number (call.Ask i v m) c plan count version = refl
welcome_number call.Edit c plan count version = refl
welcome_number call.Append c plan count version = refl
welcome_number call.Publish c plan count version = refl

asked_part_number : (known : Option ServerInfo) (s : Scheme) (c : ClientState) (v p scheme version part : ℕ) (words : List ℕ) →
    (takes_asked_part known s c v p scheme version part words).state.number ≡ c.number
asked_part_number None s c v p scheme version part words = refl
asked_part_number (Some k) s c v p scheme version part words =
    either c.number _ (reaction_to_part s k c v p (c.parts ++ words)) _ (either c.number _ _ _ refl refl) refl

part_number : (k : Call) (c : ClientState) (scheme version part : ℕ) (words : List ℕ) → (takes_part k c scheme version part words).state.number ≡ c.number
part_number call.Idle c scheme version part words = refl
part_number call.Hello c scheme version part words = refl
part_number (call.Sync s v p) c scheme version part words = asked_part_number c.known s c v p scheme version part words
part_number (call.Delta since) c scheme version part words = refl
part_number (call.Changes since) c scheme version part words = refl
part_number (call.Ask i v m) c scheme version part words = refl
part_number call.Edit c scheme version part words = refl
part_number call.Append c scheme version part words = refl
part_number call.Publish c scheme version part words = refl

answered_number : (known : Option ServerInfo) (hint : Option Hint) (c : ClientState) (i v m scheme version : ℕ) (words : List ℕ) →
    (answered known hint c i v m scheme version words).state.number ≡ c.number
answered_number None hint c i v m scheme version words = refl
answered_number (Some k) None c i v m scheme version words = refl
answered_number (Some k) (Some h) c i v m scheme version words = either c.number _ _ _ refl refl

answer_number : (k : Call) (c : ClientState) (scheme version : ℕ) (words : List ℕ) → (takes_answer k c scheme version words).state.number ≡ c.number
answer_number call.Idle c scheme version words = refl
answer_number call.Hello c scheme version words = refl
answer_number (call.Sync s v p) c scheme version words = refl
answer_number (call.Delta since) c scheme version words = refl
answer_number (call.Changes since) c scheme version words = refl
answer_number (call.Ask i v m) c scheme version words = answered_number c.known c.hint c i v m scheme version words
answer_number call.Edit c scheme version words = refl
answer_number call.Append c scheme version words = refl
answer_number call.Publish c scheme version words = refl

staled_number : (known : Option ServerInfo) (later c : ClientState) (asked version count : ℕ) → later.number ≡ c.number →
    (reaction_to_stale known later c asked version count).state.number ≡ c.number
staled_number None later c asked version count e = refl
staled_number (Some k) later c asked version count e = either c.number _ _ _ e refl

stale_number : (k : Call) (c : ClientState) (version count : ℕ) → (takes_stale k c version count).state.number ≡ c.number
stale_number call.Idle c version count = refl
stale_number call.Hello c version count = refl
stale_number (call.Sync s v p) c version count = staled_number c.known (record c { parts = [] }) c v version count refl
stale_number (call.Delta since) c version count = refl
stale_number (call.Changes since) c version count = refl
stale_number (call.Ask i v m) c version count = staled_number c.known c c v version count refl
stale_number call.Edit c version count = refl
stale_number call.Append c version count = refl
stale_number call.Publish c version count = refl

moved_number : (known : Option ServerInfo) (hint : Option Hint) (c : ClientState) (asked since now count : ℕ) (rows : RowList) →
    (reaction_to_delta known hint c asked since now count rows).state.number ≡ c.number
moved_number None hint c asked since now count rows = refl
moved_number (Some k) None c asked since now count rows = refl
moved_number (Some k) (Some h) c asked since now count rows = either c.number _ _ _ refl refl

delta_number : (k : Call) (c : ClientState) (since now count : ℕ) (rows : RowList) → (takes_delta k c since now count rows).state.number ≡ c.number
delta_number call.Idle c since now count rows = refl
delta_number call.Hello c since now count rows = refl
delta_number (call.Sync s v p) c since now count rows = refl
delta_number (call.Delta asked) c since now count rows = moved_number c.known c.hint c asked since now count rows
delta_number (call.Changes asked) c since now count rows = refl
delta_number (call.Ask i v m) c since now count rows = refl
delta_number call.Edit c since now count rows = refl
delta_number call.Append c since now count rows = refl
delta_number call.Publish c since now count rows = refl

changed_number : (known : Option ServerInfo) (hint : Option Hint) (c : ClientState) (asked since now count : ℕ) (entries : List ℕ) →
    (reaction_to_changes known hint c asked since now count entries).state.number ≡ c.number
changed_number None hint c asked since now count entries = refl
changed_number (Some k) None c asked since now count entries = refl
changed_number (Some k) (Some h) c asked since now count entries = either c.number _ _ _ refl refl

changes_number : (k : Call) (c : ClientState) (since now count : ℕ) (entries : List ℕ) →
    (takes_changes k c since now count entries).state.number ≡ c.number
changes_number call.Idle c since now count entries = refl
changes_number call.Hello c since now count entries = refl
changes_number (call.Sync s v p) c since now count entries = refl
changes_number (call.Delta asked) c since now count entries = refl
changes_number (call.Changes asked) c since now count entries = changed_number c.known c.hint c asked since now count entries
changes_number (call.Ask i v m) c since now count entries = refl
changes_number call.Edit c since now count entries = refl
changes_number call.Append c since now count entries = refl
changes_number call.Publish c since now count entries = refl

by_parts_number : (known : Option ServerInfo) (c : ClientState) (version count : ℕ) → (reaction_to_no_delta known c version count).state.number ≡ c.number
by_parts_number None c version count = refl
by_parts_number (Some k) c version count = either c.number _ _ _ refl refl

no_delta_number : (k : Call) (c : ClientState) (version count : ℕ) → (takes_no_delta k c version count).state.number ≡ c.number
no_delta_number call.Idle c version count = refl
no_delta_number call.Hello c version count = refl
no_delta_number (call.Sync s v p) c version count = refl
no_delta_number (call.Delta asked) c version count = by_parts_number c.known c version count
no_delta_number (call.Changes asked) c version count = by_parts_number c.known c version count
no_delta_number (call.Ask i v m) c version count = refl
no_delta_number call.Edit c version count = refl
no_delta_number call.Append c version count = refl
no_delta_number call.Publish c version count = refl

done_number : (k : Call) (c : ClientState) (version : ℕ) → (takes_done k c version).state.number ≡ c.number
done_number call.Idle c version = refl
done_number call.Hello c version = refl
done_number (call.Sync s v p) c version = refl
done_number (call.Delta since) c version = refl
done_number (call.Changes since) c version = refl
done_number (call.Ask i v m) c version = refl
done_number call.Edit c version = refl
done_number call.Append c version = refl
done_number call.Publish c version = refl

refused_number : (k : Call) (c : ClientState) (code : ℕ) → (takes_refused k c code).state.number ≡ c.number
refused_number call.Idle c code = refl
refused_number call.Hello c code = refl
refused_number (call.Sync s v p) c code = refl
refused_number (call.Delta since) c code = refl
refused_number (call.Changes since) c code = refl
refused_number (call.Ask i v m) c code = refl
refused_number call.Edit c code = refl
refused_number call.Append c code = refl
refused_number call.Publish c code = refl

pub takes_number : (c : ClientState) (f : Frame) → (reaction_to_reply c f).state.number ≡ c.number
takes_number c (frame.Welcome profile width record_len groups count version dimension seed) =
    welcome_number c.call c (plan_given profile width record_len groups dimension seed) count version
takes_number c (frame.HintPart scheme version part words) = part_number c.call c scheme version part words
takes_number c (frame.Answer scheme version words) = answer_number c.call c scheme version words
takes_number c (frame.Stale version count) = stale_number c.call c version count
takes_number c (frame.Delta since now count rows) = delta_number c.call c since now count rows
takes_number c (frame.Changes since now count entries) = changes_number c.call c since now count entries
takes_number c (frame.NoDelta version count) = no_delta_number c.call c version count
takes_number c (frame.Done version) = done_number c.call c version
takes_number c (frame.Refused code) = refused_number c.call c code
takes_number c _ = refl

-- ---- what happens to a client spends numbers at most

pub sync_number : (base : Option ℕ) (s : Scheme) (c : ClientState) → (sync_begun base s c).number ≡ c.number
sync_number None s c = refl
sync_number (Some since) s c = refl

calmly : (c : ClientState) (want : ClientCall) → c.number ≤ (after c (Lacking want)).number
calmly c (Hello key) = omega arith
calmly c (Sync scheme) = omega arith
calmly c (Ask i) = omega arith
calmly c (Edit i bytes) = omega arith
calmly c (Append bytes) = omega arith
calmly c Publish = omega arith

-- the numbers are those from n on, and grow
record Above (n : ℕ) (ns : List ℕ) : Type 0 where
  from : (i : ℕ) → i < length ns → n ≤ slice_index ns i
  grow : (i j : ℕ) → i < j → j < length ns → slice_index ns i < slice_index ns j

none_above : (n : ℕ) → Above n []
none_above n = record { from = λ i lt. absurd (omega arith); grow = λ i j lt lt2. absurd (omega arith) }

lower : (n m : ℕ) (ns : List ℕ) → n ≤ m → Above m ns → Above n ns
lower n m ns le a = record { from = λ i lt. let h : m ≤ slice_index ns i = a.from i lt in omega arith; grow = a.grow }

from_more : (n : ℕ) (ns : List ℕ) → Above (n + 1) ns → (i : ℕ) → i < length (n ∷ ns) → n ≤ slice_index (n ∷ ns) i
from_more n ns a zero lt = omega arith
from_more n ns a (suc i) lt = let h : n + 1 ≤ slice_index ns i = a.from i (omega arith) in omega arith

grow_more : (n : ℕ) (ns : List ℕ) → Above (n + 1) ns → (i j : ℕ) → i < j → j < length (n ∷ ns) → slice_index (n ∷ ns) i < slice_index (n ∷ ns) j
grow_more n ns a i zero lt lt2 = absurd (omega arith)
grow_more n ns a zero (suc j) lt lt2 = let h : n + 1 ≤ slice_index ns j = a.from j (omega arith) in omega arith
grow_more n ns a (suc i) (suc j) lt lt2 = a.grow i j (omega arith) (omega arith)

all_above : (c : ClientState) (hs : List Happening) → Above c.number (numbers c hs)
all_above c [] = none_above c.number
all_above c (Accepted (Hello key) ∷ hs) = all_above (after c (Accepted (Hello key))) hs
all_above c (Accepted (Sync scheme) ∷ hs) =
    lower c.number (after c (Accepted (Sync scheme))).number (numbers (after c (Accepted (Sync scheme))) hs)
    (omega (arith, sync_number (delta_base scheme c.hint) scheme c)) (all_above (after c (Accepted (Sync scheme))) hs)
all_above c (Accepted (Ask i) ∷ hs) =
    let a : Above (c.number + 1) (numbers (after c (Accepted (Ask i))) hs) = all_above (after c (Accepted (Ask i))) hs in
    record { from = from_more c.number (numbers (after c (Accepted (Ask i))) hs) a; grow = grow_more c.number (numbers (after c (Accepted (Ask i))) hs) a }
all_above c (Accepted (Edit i bytes) ∷ hs) = all_above (after c (Accepted (Edit i bytes))) hs
all_above c (Accepted (Append bytes) ∷ hs) = all_above (after c (Accepted (Append bytes))) hs
all_above c (Accepted Publish ∷ hs) = all_above (after c (Accepted Publish)) hs
all_above c (TurnedDown want ∷ hs) = all_above c hs
all_above c (Lacking want ∷ hs) =
    lower c.number (after c (Lacking want)).number (numbers (after c (Lacking want)) hs) (calmly c want) (all_above (after c (Lacking want)) hs)
all_above c (Reply f ∷ hs) = lower c.number (after c (Reply f)).number (numbers (after c (Reply f)) hs) (omega (arith, takes_number c f))
    (all_above (after c (Reply f)) hs)
all_above c (Failing ∷ hs) = all_above (after c Failing) hs

pub no_number_is_used_twice : NoNumberTwice
no_number_is_used_twice = record { grows = λ c hs. (all_above c hs).grow; fresh = λ c hs. (all_above c hs).from }
