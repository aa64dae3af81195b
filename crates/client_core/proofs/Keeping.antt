-- What no reply and no call changes.
use Rattle.std.proofs.Common.{◌≡◌, ◌≢◌, ℕ, ◌+◌, ◌*◌, ◌≤◌, Bool, true, false, cond, List, [], ◌++◌, length, Option, Some, None, refl, ◌∙◌, subst, arith}
use Rattle.std.specs.Prelude.{◌==◌, ◌&&◌, nat_lt, nat_le, not}
use Rattle.std.proofs.lemmas.Bool.{and_parts, eqb-true, eqb-false, leb-true}
use Rattle.std.proofs.lemmas.List.{length-append}
use Rattle.frame_codec.specs.declared.frame.Frame.{Frame}
use Rattle.frame_codec.specs.declared.frame.Frame.TheVariants as frame
use Rattle.frame_codec.specs.Rows.{RowList, rows_in}
use Rattle.digit_pack.specs.Layout.{digit_rows}
use Rattle.pir_schemes.specs.declared.scheme.Scheme.{Scheme}
use Rattle.pir_schemes.specs.declared.scheme.Scheme.TheVariants.{Simple, Double}
use Rattle.pir_schemes.specs.Schemes.{scheme_byte}
use Rattle.pir_schemes.specs.Parts.{part_len}
use Rattle.pir_schemes.specs.declared.plan.Plan.{Plan}
use Rattle.digit_pack.specs.Slots.{is_form}
use Rattle.pir_schemes.specs.Plans.{accepts_profile, shape_at}
use Rattle.pir_schemes.specs.Retrievals.{hint_rows, hint_len}
use Rattle.client_core.specs.declared.state.ClientState.{ClientState}
use Rattle.client_core.specs.declared.state.ServerInfo.{ServerInfo}
use Rattle.client_core.specs.declared.state.Hint.{Hint}
use Rattle.client_core.specs.declared.state.Call.{Call}
use Rattle.client_core.specs.declared.state.Call.TheVariants.{Idle, Hello, Sync, Delta, Changes, Ask, Edit, Append, Publish}
use Rattle.client_core.specs.declared.state.Event.TheVariants.{Welcomed}
use Rattle.client_core.specs.declared.state.ClientFault.TheVariants.{BadWelcome, BadReply}
use Rattle.client_core.specs.States.{IsState, IsKnown, shape_known, KeepsNumber, KnownFits, HintFits, CallFits, is_layout}
use Rattle.client_core.specs.Replies.{AfterReply, plan_given, reaction_to_reply, faulty, ended, is_accepted_welcome, is_part, reaction_to_part, is_answer, is_current, with_current, reaction_to_stale, are_ascending, row_numbers, is_delta, reaction_to_delta, are_entries, have_slots, is_changes, reaction_to_changes, reaction_to_no_delta}
use Rattle.client_core.specs.Kinds.{takes_welcome, takes_asked_part, takes_part, answered, takes_answer, takes_stale, takes_delta, takes_changes, takes_no_delta, takes_done, takes_refused}
use Rattle.client_core.proofs.MovedRows.{with_rows-rows, with_rows-cols}
use Rattle.digit_pack.proofs.Layouts.{layout_means}

pub faulty_keeps : (c : ClientState) → IsState c → KeepsNumber c (record c { failed = true })
faulty_keeps c s = record { good = record { number = s.number; known = s.known; hint = s.hint; call = s.call; delta = s.delta }; number = refl }

pub ended_keeps : (c : ClientState) → IsState c → KeepsNumber c (record c { call = Idle })
ended_keeps c s = record { good = record { number = s.number; known = s.known; hint = s.hint; call = tt; delta = tt }; number = refl }

emptied_keeps : (c : ClientState) → IsState c → KeepsNumber c (record c { parts = []; call = Idle })
emptied_keeps c s = record { good = record { number = s.number; known = s.known; hint = s.hint; call = tt; delta = tt }; number = refl }

if_keeps : (c : ClientState) (b : Bool) (x y : AfterReply) → (b ≡ true → KeepsNumber c x.state) → (b ≡ false → KeepsNumber c y.state) → KeepsNumber c (cond b x y).state
if_keeps c true x y p q = p refl
if_keeps c false x y p q = q refl

-- ---- Welcome

no_hint : (known : Option ServerInfo) (hint : Option Hint) (parts : List ℕ) (k : ServerInfo) → CallFits Hello known parts → HintFits known hint →
    HintFits (Some k) hint
no_hint None None parts k a b = tt
no_hint None (Some h) parts k a b = absurd b
no_hint (Some j) hint parts k a b = absurd a

reported : ℕ → Plan → ℕ → ServerInfo
reported version plan count = record { version = version; count = count; plan = plan }

welcome_known : (profile : ℕ) (plan : Plan) (count version : ℕ) → is_accepted_welcome profile plan count version ≡ true → IsKnown (reported version plan count)
unfolding reported
welcome_known profile plan count version h =
    let asked = and_parts (accepts_profile plan profile) _ h in
    let a = and_parts (is_form plan.form plan.record_len) (is_layout (shape_at plan count) && ((nat_le 1 plan.dimension && nat_le plan.dimension 1024) && nat_lt 0 version)) asked.1 in
    let b = and_parts (is_layout (shape_at plan count)) ((nat_le 1 plan.dimension && nat_le plan.dimension 1024) && nat_lt 0 version) a.1 in
    let d = and_parts (nat_le 1 plan.dimension && nat_le plan.dimension 1024) (nat_lt 0 version) b.1 in
    let e = and_parts (nat_le 1 plan.dimension) (nat_le plan.dimension 1024) d.0 in
    record { form = a.0; layout = layout_means (shape_at plan count) b.0; low = leb-true 1 plan.dimension e.0; high = leb-true plan.dimension 1024 e.1 }

welcomed_keeps : (c : ClientState) (plan : Plan) (count version : ℕ) → IsState c → CallFits Hello c.known c.parts
    → is_accepted_welcome c.profile plan count version ≡ true → KeepsNumber c (record c { known = Some (reported version plan count); call = Idle })
welcomed_keeps c plan count version s fits is = record {
  good = record {
    number = s.number;
    known = welcome_known c.profile plan count version is;
    hint = no_hint c.known c.hint c.parts (reported version plan count) fits s.hint;
    call = tt;
    delta = tt;
  };
  number = refl;
}

welcome_keeps : (call : Call) (c : ClientState) (plan : Plan) (count version : ℕ) → IsState c → CallFits call c.known c.parts →
    KeepsNumber c (takes_welcome call c plan count version).state
unfolding reported
welcome_keeps Idle c plan count version s fits = faulty_keeps c s
welcome_keeps Hello c plan count version s fits =
    if_keeps c (is_accepted_welcome c.profile plan count version)
    (ended (record c { known = Some (reported version plan count) }) (Welcomed version))
    (faulty c BadWelcome)
    (welcomed_keeps c plan count version s fits)
    (λ _. faulty_keeps c s)
welcome_keeps (Sync x v p) c plan count version s fits = faulty_keeps c s
welcome_keeps (Delta since) c plan count version s fits = faulty_keeps c s
welcome_keeps (Changes since) c plan count version s fits = faulty_keeps c s
welcome_keeps (Ask i v m) c plan count version s fits = faulty_keeps c s
welcome_keeps Edit c plan count version s fits = faulty_keeps c s
welcome_keeps Append c plan count version s fits = faulty_keeps c s
welcome_keeps Publish c plan count version s fits = faulty_keeps c s

-- ---- HintPart

pub is_part_len : (s : Scheme) (total asked next scheme version part : ℕ) (words : List ℕ) → is_part s total asked next scheme version part words ≡ true →
    length words ≡ part_len total next
is_part_len s total asked next scheme version part words h =
    let a = and_parts (scheme == scheme_byte s) ((version == asked) && ((part == next) && (length words == part_len total next))) h in
    let b = and_parts (version == asked) ((part == next) && (length words == part_len total next)) a.1 in
    let d = and_parts (part == next) (length words == part_len total next) b.1 in
    eqb-true (length words) (part_len total next) d.1

-- a part after whole ones that isn't the last is a whole one
part_fits : (total p : ℕ) (parts words : List ℕ) → length parts ≡ 65536 * p → length parts ≤ total → length words ≡ part_len total p →
    (length (parts ++ words) == total) ≡ false
    → (length (parts ++ words) ≡ 65536 * (p + 1)) × (length (parts ++ words) ≤ total)
part_fits total p parts words e le len ne =
    let all : length (parts ++ words) ≡ length parts + length words = length-append parts words in
    let other : length (parts ++ words) ≢ total = eqb-false (length (parts ++ words)) total ne in
    (omega arith, omega arith)

more_keeps : (x : Scheme) (k : ServerInfo) (c : ClientState) (v p : ℕ) (words : List ℕ) → c.known ≡ Some k → IsState c → length c.parts ≡ 65536 * p
    → length c.parts ≤ hint_len x (shape_known k) k.plan.dimension → length words ≡ part_len (hint_len x (shape_known k) k.plan.dimension) p
    → KeepsNumber c (reaction_to_part x k c v p (c.parts ++ words)).state
more_keeps x k c v p words e s len le is =
    if_keeps c (length (c.parts ++ words) == hint_len x (shape_known k) k.plan.dimension) _ _
    (λ whole. record { good = record { number = s.number; known = s.known; hint = rw e (refl, refl); call = tt; delta = tt }; number = refl })
    (λ other. record {
      good = record {
        number = s.number;
        known = s.known;
        hint = s.hint;
        call =
            rw e (part_fits (hint_len x (shape_known k) k.plan.dimension) p c.parts words len le is other);
        delta = tt;
      };
      number = refl;
    })

asked_part_keeps : (known : Option ServerInfo) (x : Scheme) (c : ClientState) (v p scheme version part : ℕ) (words : List ℕ) → c.known ≡ known → IsState c →
    CallFits (Sync x v p) known c.parts
    → KeepsNumber c (takes_asked_part known x c v p scheme version part words).state
asked_part_keeps None x c v p scheme version part words e s fits = faulty_keeps c s
asked_part_keeps (Some k) x c v p scheme version part words e s fits =
    if_keeps c (is_part x (hint_len x (shape_known k) k.plan.dimension) v p scheme version part words) (reaction_to_part x k c v p (c.parts ++ words)) (faulty c BadReply)
    (λ is. more_keeps x k c v p words e s fits.0 fits.1 (is_part_len x (hint_len x (shape_known k) k.plan.dimension) v p scheme version part words is))
    (λ _. faulty_keeps c s)

part_keeps : (call : Call) (c : ClientState) (scheme version part : ℕ) (words : List ℕ) → IsState c → CallFits call c.known c.parts →
    KeepsNumber c (takes_part call c scheme version part words).state
part_keeps Idle c scheme version part words s fits = faulty_keeps c s
part_keeps Hello c scheme version part words s fits = faulty_keeps c s
part_keeps (Sync x v p) c scheme version part words s fits = asked_part_keeps c.known x c v p scheme version part words refl s fits
part_keeps (Delta since) c scheme version part words s fits = faulty_keeps c s
part_keeps (Changes since) c scheme version part words s fits = faulty_keeps c s
part_keeps (Ask i v m) c scheme version part words s fits = faulty_keeps c s
part_keeps Edit c scheme version part words s fits = faulty_keeps c s
part_keeps Append c scheme version part words s fits = faulty_keeps c s
part_keeps Publish c scheme version part words s fits = faulty_keeps c s

-- ---- Answer

answered_keeps : (known : Option ServerInfo) (hint : Option Hint) (c : ClientState) (i v m scheme version : ℕ) (words : List ℕ) → IsState c →
    KeepsNumber c (answered known hint c i v m scheme version words).state
answered_keeps None hint c i v m scheme version words s = faulty_keeps c s
answered_keeps (Some k) None c i v m scheme version words s = faulty_keeps c s
answered_keeps (Some k) (Some h) c i v m scheme version words s =
    if_keeps c (is_answer h.scheme k v scheme version words) _ (faulty c BadReply) (λ _. ended_keeps c s) (λ _. faulty_keeps c s)

answer_keeps : (call : Call) (c : ClientState) (scheme version : ℕ) (words : List ℕ) → IsState c → KeepsNumber c (takes_answer call c scheme version words).state
answer_keeps Idle c scheme version words s = faulty_keeps c s
answer_keeps Hello c scheme version words s = faulty_keeps c s
answer_keeps (Sync x v p) c scheme version words s = faulty_keeps c s
answer_keeps (Delta since) c scheme version words s = faulty_keeps c s
answer_keeps (Changes since) c scheme version words s = faulty_keeps c s
answer_keeps (Ask i v m) c scheme version words s = answered_keeps c.known c.hint c i v m scheme version words s
answer_keeps Edit c scheme version words s = faulty_keeps c s
answer_keeps Append c scheme version words s = faulty_keeps c s
answer_keeps Publish c scheme version words s = faulty_keeps c s

-- ---- Stale

same_rows : (k : ServerInfo) (version count : ℕ) (hint : Option Hint) → HintFits (Some k) hint →
    HintFits (Some (with_current k version count)) hint
same_rows k version count None fits = tt
same_rows k version count (Some h) fits = (fits.0 ∙ rows_stay h.scheme k count, fits.1)
  where
    rows_stay : (s : Scheme) (k : ServerInfo) (count : ℕ) → hint_rows s (shape_known k) k.plan.dimension ≡ hint_rows s (shape_at k.plan count) k.plan.dimension
    rows_stay Simple k count = refl
    rows_stay Double k count = refl

pub current_known : (k : ServerInfo) (version count : ℕ) → IsKnown k → is_current k version count ≡ true → IsKnown (with_current k version count)
current_known k version count old h =
    let b = and_parts (nat_lt 0 version) (is_layout (shape_at k.plan count)) h in
    record { form = old.form; layout = layout_means (shape_at k.plan count) b.1; low = old.low; high = old.high }

stale_known : (k : ServerInfo) (asked version count : ℕ) → IsKnown k → (not (version == asked) && is_current k version count) ≡ true →
    IsKnown (with_current k version count)
stale_known k asked version count old h = current_known k version count old (and_parts (not (version == asked)) (is_current k version count) h).1

staled_keeps : (known : Option ServerInfo) (c after : ClientState) (asked version count : ℕ) → c.known ≡ known → IsState c → after.number ≡ c.number →
    after.hint ≡ c.hint → KeepsNumber c (reaction_to_stale known after c asked version count).state
staled_keeps None c after asked version count e s en eh = faulty_keeps c s
staled_keeps (Some k) c after asked version count e s en eh =
    let known : IsKnown k = let P : Option ServerInfo → Type 0 = KnownFits in subst P e s.known in
    let hint : HintFits (Some k) c.hint = let P : Option ServerInfo → Type 0 = λ o. HintFits o c.hint in subst P e s.hint in
    if_keeps c (not (version == asked) && is_current k version count) _ (faulty c BadReply)
    (λ is. record {
      good = record {
        number = rw en s.number;
        known = stale_known k asked version count known is;
        hint = rw eh (same_rows k version count c.hint hint);
        call =
            tt;
        delta = tt;
      };
      number = en;
    })
    (λ _. faulty_keeps c s)

stale_keeps : (call : Call) (c : ClientState) (version count : ℕ) → IsState c → KeepsNumber c (takes_stale call c version count).state
stale_keeps Idle c version count s = faulty_keeps c s
stale_keeps Hello c version count s = faulty_keeps c s
stale_keeps (Sync x v p) c version count s = staled_keeps c.known c (record c { parts = [] }) v version count refl s refl refl
stale_keeps (Delta since) c version count s = faulty_keeps c s
stale_keeps (Changes since) c version count s = faulty_keeps c s
stale_keeps (Ask i v m) c version count s = staled_keeps c.known c c v version count refl s refl refl
stale_keeps Edit c version count s = faulty_keeps c s
stale_keeps Append c version count s = faulty_keeps c s
stale_keeps Publish c version count s = faulty_keeps c s

-- ---- Delta, Changes and NoDelta

moved_keeps : (known : Option ServerInfo) (hint : Option Hint) (c : ClientState) (asked since now count : ℕ) (rows : RowList) → c.known ≡ known →
    c.hint ≡ hint → IsState c → KeepsNumber c (reaction_to_delta known hint c asked since now count rows).state
moved_keeps None hint c asked since now count rows e eh s = faulty_keeps c s
moved_keeps (Some k) None c asked since now count rows e eh s = faulty_keeps c s
moved_keeps (Some k) (Some h) c asked since now count rows e eh s =
    let known : IsKnown k = let P : Option ServerInfo → Type 0 = KnownFits in subst P e s.known in
    let held : HintFits (Some k) c.hint = let P : Option ServerInfo → Type 0 = λ o. HintFits o c.hint in subst P e s.hint in
    let hint : HintFits (Some k) (Some h) = let P : Option Hint → Type 0 = λ o. HintFits (Some k) o in subst P eh held in
    let fits : HintFits (Some (with_current k now count)) (Some h) = same_rows k now count (Some h) hint in
    if_keeps c (is_delta k asked since now count rows.dimension (row_numbers rows)) _ (faulty c BadReply)
    (λ is. record {
      good = record {
        number = s.number;
        known = current_known k now count known (delta_current k asked since now count rows.dimension (row_numbers rows) is);
        hint = (with_rows-rows h.matrix (rows_in rows) ∙ fits.0, with_rows-cols h.matrix (rows_in rows) ∙ fits.1);
        call = tt;
        delta = tt;
      };
      number = refl;
    })
    (λ _. faulty_keeps c s)
  where
    delta_current : (k : ServerInfo) (asked since now count dimension : ℕ) (numbers : List ℕ) → is_delta k asked since now count dimension numbers ≡ true →
        is_current k now count ≡ true
    delta_current k asked since now count dimension numbers h =
        let a = and_parts (since == asked) (is_current k now count && ((dimension == k.plan.dimension) && (nat_le (length numbers) 1024
        && are_ascending 0 (digit_rows (shape_known k)) numbers))) h in
        (and_parts (is_current k now count) ((dimension == k.plan.dimension) && (nat_le (length numbers) 1024
        && are_ascending 0 (digit_rows (shape_known k)) numbers)) a.1).0

delta_keeps : (call : Call) (c : ClientState) (since now count : ℕ) (rows : RowList) → IsState c → KeepsNumber c (takes_delta call c since now count rows).state
delta_keeps Idle c since now count rows s = faulty_keeps c s
delta_keeps Hello c since now count rows s = faulty_keeps c s
delta_keeps (Sync x v p) c since now count rows s = faulty_keeps c s
delta_keeps (Delta asked) c since now count rows s = moved_keeps c.known c.hint c asked since now count rows refl refl s
delta_keeps (Changes asked) c since now count rows s = faulty_keeps c s
delta_keeps (Ask i v m) c since now count rows s = faulty_keeps c s
delta_keeps Edit c since now count rows s = faulty_keeps c s
delta_keeps Append c since now count rows s = faulty_keeps c s
delta_keeps Publish c since now count rows s = faulty_keeps c s

-- changes that were asked for name a version that can be
changes_current : (k : ServerInfo) (asked since now count : ℕ) (entries : List ℕ) → is_changes k asked since now count entries ≡ true →
    is_current k now count ≡ true
changes_current k asked since now count entries h =
    let a = and_parts (since == asked) (is_current k now count && (are_entries (shape_at k.plan count) entries && have_slots k.plan entries)) h in
    (and_parts (is_current k now count) (are_entries (shape_at k.plan count) entries && have_slots k.plan entries) a.1).0

changed_keeps : (known : Option ServerInfo) (hint : Option Hint) (c : ClientState) (asked since now count : ℕ) (entries : List ℕ) → c.known ≡ known →
    c.hint ≡ hint → IsState c → KeepsNumber c (reaction_to_changes known hint c asked since now count entries).state
changed_keeps None hint c asked since now count entries e eh s = faulty_keeps c s
changed_keeps (Some k) None c asked since now count entries e eh s = faulty_keeps c s
changed_keeps (Some k) (Some h) c asked since now count entries e eh s =
    let known : IsKnown k = let P : Option ServerInfo → Type 0 = KnownFits in subst P e s.known in
    let held : HintFits (Some k) c.hint = let P : Option ServerInfo → Type 0 = λ o. HintFits o c.hint in subst P e s.hint in
    let hint : HintFits (Some k) (Some h) = let P : Option Hint → Type 0 = λ o. HintFits (Some k) o in subst P eh held in
    let fits : HintFits (Some (with_current k now count)) (Some h) = same_rows k now count (Some h) hint in
    if_keeps c (is_changes k asked since now count entries) _ (faulty c BadReply)
    (λ is. record {
      good = record {
        number = s.number;
        known = current_known k now count known (changes_current k asked since now count entries is);
        hint = (fits.0, fits.1);
        call = tt;
        delta = tt;
      };
      number = refl;
    })
    (λ _. faulty_keeps c s)

changes_keep : (call : Call) (c : ClientState) (since now count : ℕ) (entries : List ℕ) → IsState c →
    KeepsNumber c (takes_changes call c since now count entries).state
changes_keep Idle c since now count entries s = faulty_keeps c s
changes_keep Hello c since now count entries s = faulty_keeps c s
changes_keep (Sync x v p) c since now count entries s = faulty_keeps c s
changes_keep (Delta asked) c since now count entries s = faulty_keeps c s
changes_keep (Changes asked) c since now count entries s = changed_keeps c.known c.hint c asked since now count entries refl refl s
changes_keep (Ask i v m) c since now count entries s = faulty_keeps c s
changes_keep Edit c since now count entries s = faulty_keeps c s
changes_keep Append c since now count entries s = faulty_keeps c s
changes_keep Publish c since now count entries s = faulty_keeps c s

by_parts_keeps : (known : Option ServerInfo) (c : ClientState) (version count : ℕ) → c.known ≡ known → IsState c →
    KeepsNumber c (reaction_to_no_delta known c version count).state
by_parts_keeps None c version count e s = faulty_keeps c s
by_parts_keeps (Some k) c version count e s =
    let known : IsKnown k = let P : Option ServerInfo → Type 0 = KnownFits in subst P e s.known in
    if_keeps c (is_current k version count) _ (faulty c BadReply)
    (λ is. record {
      good = record { number = s.number; known = current_known k version count known is; hint = tt; call = (refl, omega arith); delta = tt };
      number = refl;
    })
    (λ _. faulty_keeps c s)

no_delta_keeps : (call : Call) (c : ClientState) (version count : ℕ) → IsState c → KeepsNumber c (takes_no_delta call c version count).state
no_delta_keeps Idle c version count s = faulty_keeps c s
no_delta_keeps Hello c version count s = faulty_keeps c s
no_delta_keeps (Sync x v p) c version count s = faulty_keeps c s
no_delta_keeps (Delta asked) c version count s = by_parts_keeps c.known c version count refl s
no_delta_keeps (Changes asked) c version count s = by_parts_keeps c.known c version count refl s
no_delta_keeps (Ask i v m) c version count s = faulty_keeps c s
no_delta_keeps Edit c version count s = faulty_keeps c s
no_delta_keeps Append c version count s = faulty_keeps c s
no_delta_keeps Publish c version count s = faulty_keeps c s

-- ---- Done and Refused

done_keeps : (call : Call) (c : ClientState) (version : ℕ) → IsState c → KeepsNumber c (takes_done call c version).state
done_keeps Idle c version s = faulty_keeps c s
done_keeps Hello c version s = faulty_keeps c s
done_keeps (Sync x v p) c version s = faulty_keeps c s
done_keeps (Delta since) c version s = faulty_keeps c s
done_keeps (Changes since) c version s = faulty_keeps c s
done_keeps (Ask i v m) c version s = faulty_keeps c s
done_keeps Edit c version s = ended_keeps c s
done_keeps Append c version s = ended_keeps c s
done_keeps Publish c version s = ended_keeps c s

refused_keeps : (call : Call) (c : ClientState) (code : ℕ) → IsState c → KeepsNumber c (takes_refused call c code).state
refused_keeps Idle c code s = faulty_keeps c s
refused_keeps Hello c code s = ended_keeps c s
refused_keeps (Sync x v p) c code s = emptied_keeps c s
refused_keeps (Delta since) c code s = ended_keeps c s
refused_keeps (Changes since) c code s = ended_keeps c s
refused_keeps (Ask i v m) c code s = ended_keeps c s
refused_keeps Edit c code s = ended_keeps c s
refused_keeps Append c code s = ended_keeps c s
refused_keeps Publish c code s = ended_keeps c s

-- ---- any frame

pub takes_keeps : (c : ClientState) (f : Frame) → IsState c → KeepsNumber c (reaction_to_reply c f).state
takes_keeps c (frame.Welcome profile width record_len groups count version dimension seed) s =
    welcome_keeps c.call c (plan_given profile width record_len groups dimension seed) count version s s.call
takes_keeps c (frame.HintPart scheme version part words) s = part_keeps c.call c scheme version part words s s.call
takes_keeps c (frame.Answer scheme version words) s = answer_keeps c.call c scheme version words s
takes_keeps c (frame.Stale version count) s = stale_keeps c.call c version count s
takes_keeps c (frame.Delta since now count rows) s = delta_keeps c.call c since now count rows s
takes_keeps c (frame.Changes since now count entries) s = changes_keep c.call c since now count entries s
takes_keeps c (frame.NoDelta version count) s = no_delta_keeps c.call c version count s
takes_keeps c (frame.Done version) s = done_keeps c.call c version s
takes_keeps c (frame.Refused code) s = refused_keeps c.call c code s
takes_keeps c _ s = faulty_keeps c s
