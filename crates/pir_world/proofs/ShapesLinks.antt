-- Links and states that differ in indices and words alone, and what calls and deliveries make of
-- them.
use Rattle.std.proofs.Common.{◌≡◌, ℕ, List, [], ◌∷◌, Bool, true, false, cond, Option, Some, None, refl, sym, ap, subst, ◌∙◌, inl, inr}
use Rattle.std.specs.Prelude.{map, slice_get, slice_set, is_some}
use Rattle.std.specs.List.{flat_map}
use Rattle.std.proofs.lemmas.Bool.{cases_eq}
use Rattle.frame_codec.specs.declared.frame.Frame.{Frame}
use Rattle.pir_schemes.specs.declared.scheme.Scheme.{Scheme}
use Rattle.version_store.specs.Histories.{History}
use Rattle.server_core.specs.Serving.{Setting}
use Rattle.client_core.specs.declared.state.ClientState.{ClientState}
use Rattle.client_core.specs.declared.state.Call.{Call}
use Rattle.client_core.specs.declared.state.Call.TheVariants.{Ask}
use Rattle.client_core.specs.declared.state.CallFault.{CallFault}
use Rattle.client_core.specs.declared.state.Event.{Event}
use Rattle.client_core.specs.declared.state.Reaction.{Reaction}
use Rattle.client_core.specs.declared.state.Reaction.TheVariants.{Asks, Reports, Fails}
use Rattle.client_core.specs.States.{scheme_held}
use Rattle.client_core.specs.Calls.{ClientCall, call_refusal}
use Rattle.client_core.specs.Replies.{reaction_to_reply}
use Rattle.client_core.specs.Feeding.{sends_of, takes_all, fault_of}
use Rattle.client_core.specs.Shapes.{outline}
use Rattle.pir_world.specs.Runs.{
  State,
  ClientLink,
  Wire,
  LogEntry,
  Called,
  Sent,
  arrived,
  wire_after,
  with_link,
  reports,
  reacts,
  call_at,
  called_at,
  served_at,
}
use Rattle.pir_world.specs.Shapes.{sights, HaveEqualSights}
use Rattle.pir_world.proofs.Receipts.{reported_by, reported_by_course}
use Rattle.pir_world.proofs.Links.{link_called, link_served, link_reported, turn_of}
use Rattle.pir_world.proofs.Later.{get_same, get_other}
use Rattle.pir_world.proofs.Wires.{IsFew, Split, split_few}
use Rattle.pir_world.proofs.ShapesFrames.{IsFrameLike, same_frame, same_shape, AreFramesLike, IsWireLike, sent_like, arrived_like, beyond_like}
use Rattle.pir_world.proofs.ShapesServed.{equal_append, IsTurnLike, turns_like}
use Rattle.pir_world.proofs.ShapesClients.{IsCallLike, IsReaders, called_outline, call_frame_like, replied_outline, replied_sends}

-- ---- states

pub record IsLinkLike (l m : ClientLink) : Type 0 where
  pub outlined : outline l.client ≡ outline m.client
  pub standing : m.standing ≡ l.standing
  pub up : IsWireLike l.up m.up
  pub down : IsWireLike l.down m.down

abbrev pub AreBothLike : Option ClientLink → Option ClientLink → Type 0
AreBothLike None None = Unit {0}
AreBothLike (Some l) (Some m) = IsLinkLike l m
AreBothLike _ _ = ⊥

pub record IsStateLike (s t : State) : Type 0 where
  pub history : t.history ≡ s.history
  pub links : (k : ℕ) → AreBothLike (slice_get s.links k) (slice_get t.links k)
  pub logs : HaveEqualSights s.log t.log

set_like : (xs ys : List ClientLink) (k : ℕ) (l m l2 m2 : ClientLink) → slice_get xs k ≡ Some l → slice_get ys k ≡ Some m
    → ((j : ℕ) → AreBothLike (slice_get xs j) (slice_get ys j)) → IsLinkLike l2 m2
    → (j : ℕ) → AreBothLike (slice_get (slice_set xs k l2) j) (slice_get (slice_set ys k m2) j)
set_like xs ys k l m l2 m2 at at2 a e j = elim (cases_eq j k) [
  | inl same ↦ rw (same, get_same xs k l2 l at, get_same ys k m2 m at2) e
  | inr other ↦ rw (get_other xs k j l2 other, get_other ys k j m2 other) (a j)
]

-- the frames of a few
frames_itself : (fs : List Frame) → AreFramesLike fs fs
frames_itself [] = tt
frames_itself (f ∷ fs) = (same_frame f f refl, frames_itself fs)

frames_same : (fs gs : List Frame) → fs ≡ gs → AreFramesLike fs gs
frames_same fs gs e = subst (λ (y : List Frame). AreFramesLike fs y) e (frames_itself fs)

wire_itself : (w : Wire) → IsWireLike w w
wire_itself w = record { frames = frames_itself w.frames; got = refl }

both_itself : (o : Option ClientLink) → AreBothLike o o
both_itself None = tt
both_itself (Some l) = record { outlined = refl; standing = refl; up = wire_itself l.up; down = wire_itself l.down }

pub state_itself : (s : State) → IsStateLike s s
state_itself s = record { history = refl; links = λ k. both_itself (slice_get s.links k); logs = λ k. refl }

-- ---- what a client writes into the log

called_equal : (k : ℕ) (v w : ClientCall) (f g : Frame) → IsFrameLike f g → HaveEqualSights (Called k v None ∷ Sent k f ∷ []) (Called k w None ∷ Sent k g ∷ [])
called_equal k v w f g e = λ j. rw (same_shape f g e) refl

reports_shown : (j k : ℕ) (z : Scheme) (q : Call) (f : Frame) (e : Event) → flat_map (sights j) (reports k z q f e ∷ []) ≡ []
reports_shown j k z (Ask i v n) f e = refl
reports_shown j k z q f e = refl

reacts_shown : (j k : ℕ) (z : Scheme) (q : Call) (f : Frame) (r : Reaction) →
    flat_map (sights j) (reacts k z q f r) ≡ flat_map (sights j) (map (λ (y : Frame). Sent k y) (sends_of r))
reacts_shown j k z q f (Asks s v p) = refl
reacts_shown j k z q f (Reports e) = reports_shown j k z q f e
reacts_shown j k z q f (Fails fault) = refl

reacts_equal : (k : ℕ) (y z : Scheme) (q q2 : Call) (f g : Frame) (r r2 : Reaction) → sends_of r ≡ sends_of r2 →
    HaveEqualSights (reacts k y q f r) (reacts k z q2 g r2)
reacts_equal k y z q q2 f g r r2 e j =
    reacts_shown j k y q f r ∙ ap (λ (fs : List Frame). flat_map (sights j) (map (λ (u : Frame). Sent k u) fs)) e ∙ sym (reacts_shown j k z q2 g r2)

abbrev none_or : Bool → List LogEntry
none_or b = cond b [] []

nothing_equal : (b d : Bool) → HaveEqualSights (none_or b) (none_or d)
nothing_equal true true = λ j. refl
nothing_equal true false = λ j. refl
nothing_equal false true = λ j. refl
nothing_equal false false = λ j. refl

-- ---- at most one reply

record AreTakenLike (k : ℕ) (c d : ClientState) (fs gs : List Frame) : Type 0 where
  outlined : outline (takes_all c fs).state ≡ outline (takes_all d gs).state
  sends : (takes_all c fs).sends ≡ (takes_all d gs).sends
  logs : HaveEqualSights (reported_by k c fs) (reported_by k d gs)

not_few : (f f2 : Frame) (fs : List Frame) → IsFew (f ∷ f2 ∷ fs) → ⊥
not_few f f2 fs (inl e) = cc
not_few f f2 fs (inr z) = let e : f ∷ f2 ∷ fs ≡ z.0 ∷ [] = z.1 in cc

taken_like : (k : ℕ) (c d : ClientState) (fs gs : List Frame) → outline c ≡ outline d → AreFramesLike fs gs → IsFew fs → AreTakenLike k c d fs gs
taken_like k c d [] [] a e few = record { outlined = a; sends = refl; logs = λ j. refl }
taken_like k c d (f ∷ []) (g ∷ []) a e few = record {
  outlined = replied_outline c d f g a e.0;
  sends = replied_sends c d f g a e.0;
  logs =
      equal_append (reacts k (scheme_held c.hint) c.call f (reaction_to_reply c f).reaction) (reacts k (scheme_held d.hint) d.call g (reaction_to_reply d g).reaction)
      (none_or (is_some (fault_of (reaction_to_reply c f).reaction))) (none_or (is_some (fault_of (reaction_to_reply d g).reaction)))
      (reacts_equal k (scheme_held c.hint) (scheme_held d.hint) c.call d.call f g _ _ (replied_sends c d f g a e.0))
      (nothing_equal _ _);
}
taken_like k c d (f ∷ f2 ∷ fs) gs a e few = absurd (not_few f f2 fs few)
taken_like k c d [] (g ∷ gs) a e few = absurd e
taken_like k c d (f ∷ []) [] a e few = absurd e
taken_like k c d (f ∷ []) (g ∷ g2 ∷ gs) a e few = absurd e.1

few_arrive : (w : Wire) (most : ℕ) → IsFew w.frames → IsFew (arrived w most)
few_arrive w most few = of_split (split_few w most few)
  where
    of_split : Split w.frames (arrived w most) (wire_after w most).frames → IsFew (arrived w most)
    of_split (inl p) = inl p.0
    of_split (inr p) = subst (λ (fs : List Frame). IsFew fs) (sym p.0) few

-- ---- a link's steps

-- at two links whose clients differ in indices and words alone, two calls are refused alike
abbrev pub IsRefusedLike : ClientCall → ClientCall → Option ClientLink → Option ClientLink → Type 0
IsRefusedLike v w o o2 = (l m : ClientLink) → o ≡ Some l → o2 ≡ Some m → outline l.client ≡ outline m.client → call_refusal v l.client ≡ call_refusal w m.client

module _ (s t : State) (a : IsStateLike s t) (k : ℕ) where
  replaced : (l m l2 m2 : ClientLink) (h h2 : History) (es gs : List LogEntry)
      → slice_get s.links k ≡ Some l → slice_get t.links k ≡ Some m → h2 ≡ h → IsLinkLike l2 m2 → HaveEqualSights es gs
      → IsStateLike (with_link s h k l2 es) (with_link t h2 k m2 gs)
  replaced l m l2 m2 h h2 es gs at at2 e b logs = record {
    history = e;
    links = set_like s.links t.links k l m l2 m2 at at2 a.links b;
    logs = equal_append s.log t.log es gs a.logs logs;
  }

  call_like : (v w : ClientCall) (l m : ClientLink) (f : Option CallFault)
      → slice_get s.links k ≡ Some l → slice_get t.links k ≡ Some m → IsLinkLike l m → IsReaders v → IsCallLike v w
      → IsStateLike (call_at s k v l f) (call_at t k w m f)
  call_like v w l m (Some fault) at at2 b r e = replaced l m l m s.history t.history _ _ at at2 a.history b (λ j. refl)
  call_like v w l m None at at2 b r e =
      let f = call_frame_like l.client m.client v w r b.outlined e in
      replaced l m (link_called v l) (link_called w m) s.history t.history _ _ at at2 a.history
      (record {
        outlined = called_outline l.client m.client v w b.outlined e;
        standing = b.standing;
        up = sent_like l.up m.up _ _ b.up (f, tt);
        down = b.down;
      })
      (called_equal k v w _ _ f)

  pub called_like : (v w : ClientCall) (o o2 : Option ClientLink) → slice_get s.links k ≡ o → slice_get t.links k ≡ o2 → AreBothLike o o2 → IsReaders v → IsCallLike v w
      → IsRefusedLike v w o o2
      → IsStateLike (called_at s v k o) (called_at t w k o2)
  called_like v w None None at at2 b r e same = a
  called_like v w (Some l) (Some m) at at2 b r e same =
      subst (λ (f : Option CallFault). IsStateLike (call_at s k v l (call_refusal v l.client)) (call_at t k w m f))
      (same l m refl refl b.outlined)
      (call_like v w l m (call_refusal v l.client) at at2 b r e)
  called_like v w None (Some m) at at2 b r e same = absurd b
  called_like v w (Some l) None at at2 b r e same = absurd b

  pub served_like : (x : Setting) (most : ℕ) (o o2 : Option ClientLink) → slice_get s.links k ≡ o → slice_get t.links k ≡ o2 → AreBothLike o o2
      → IsStateLike (served_at x false s k most o) (served_at x false t k most o2)
  served_like x most None None at at2 b = a
  served_like x most (Some l) (Some m) at at2 b =
      let turned = turns_like x k _ _ (arrived l.up most) (arrived m.up most)
      (at_start l m b) (arrived_like l.up m.up most b.up) in
      replaced l m (link_served x false k most s.history l) (link_served x false k most t.history m)
      (turn_of x false k most s.history l).history (turn_of x false k most t.history m).history
      _ _ at at2 turned.history
      (record {
        outlined = b.outlined;
        standing = turned.standing;
        up = beyond_like l.up m.up most b.up;
        down = sent_like l.down m.down _ _ b.down turned.replies;
      })
      turned.log
    where
      at_start : (l m : ClientLink) → IsLinkLike l m
          → IsTurnLike (record { history = s.history; standing = l.standing; replies = []; log = [] })
          (record { history = t.history; standing = m.standing; replies = []; log = [] })
      at_start l m b = record { history = a.history; standing = b.standing; replies = tt; log = λ j. refl }
  served_like x most None (Some m) at at2 b = absurd b
  served_like x most (Some l) None at at2 b = absurd b

  pub reported_like : (most : ℕ) (o o2 : Option ClientLink) → slice_get s.links k ≡ o → slice_get t.links k ≡ o2 → AreBothLike o o2
      → ((l : ClientLink) → o ≡ Some l → IsFew l.down.frames)
      → IsStateLike (reported_by_course s k most o) (reported_by_course t k most o2)
  reported_like most None None at at2 b few = a
  reported_like most (Some l) (Some m) at at2 b few =
      let taken = taken_like k l.client m.client (arrived l.down most) (arrived m.down most) b.outlined
      (arrived_like l.down m.down most b.down) (few_arrive l.down most (few l refl)) in
      replaced l m (link_reported most l) (link_reported most m) s.history t.history _ _ at at2 a.history
      (record {
        outlined = taken.outlined;
        standing = b.standing;
        up = sent_like l.up m.up _ _ b.up (frames_same _ _ taken.sends);
        down = beyond_like l.down m.down most b.down;
      })
      taken.logs
  reported_like most None (Some m) at at2 b few = absurd b
  reported_like most (Some l) None at at2 b few = absurd b
