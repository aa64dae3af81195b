-- What a client makes of replies, as the course that its core takes.
use Rattle.std.proofs.Common.{◌≡◌, ℕ, List, [], ◌∷◌, ◌++◌, cond, Option, Some, None, is_some, append_assoc, append-nil, refl, sym, ap, ◌∙◌}
use Rattle.frame_codec.specs.declared.frame.Frame.{Frame}
use Rattle.client_core.specs.declared.state.ClientState.{ClientState}
use Rattle.client_core.specs.declared.state.ClientFault.{ClientFault}
use Rattle.client_core.specs.States.{scheme_held}
use Rattle.client_core.specs.Replies.{AfterReply, reaction_to_reply}
use Rattle.client_core.specs.Feeding.{Course, start, course_after_reply, course_more, runs, takes_all, sends_of, fault_of}
use Rattle.client_core.proofs.Courses.{fault_stays}
use Rattle.pir_world.specs.Runs.{State, ClientLink, LogEntry, Receipt, receives, reacts, arrived, wire_after, sent, with_link, received_at}

-- what client k reports and sends at replies, one after another, up to a fault
abbrev pub reported_by : ℕ → ClientState → List Frame → List LogEntry
reported_by k c [] = []
reported_by k c (f ∷ fs) =
    reacts k (scheme_held c.hint) c.call f (reaction_to_reply c f).reaction ++ cond (is_some (fault_of (reaction_to_reply c f).reaction)) []
    (reported_by k (reaction_to_reply c f).state fs)

-- a delivery to client k, by the course that its core takes
abbrev pub reported_by_course : State → ℕ → ℕ → Option ClientLink → State
reported_by_course s k most None = s
reported_by_course s k most (Some l) =
    let fs = arrived l.down most in
    let t = takes_all l.client fs in
    with_link s s.history k (record l { client = t.state; up = sent l.up t.sends; down = wire_after l.down most }) (reported_by k l.client fs)

-- ---- a course from one without a fault on

record AreFrom (k : Course) (fs : List Frame) : Type 0 where
  state : (runs k fs).state ≡ (takes_all k.state fs).state
  sends : (runs k fs).sends ≡ k.sends ++ (takes_all k.state fs).sends

one_more : (k : Course) (f : Frame) → k.fault ≡ None → course_more k f ≡ course_after_reply k (reaction_to_reply k.state f)
one_more k f none = rw none refl

module _ (k : Course) (f : Frame) (fs : List Frame) where
  abbrev t : AfterReply
  t = reaction_to_reply k.state f

  abbrev here : Course
  here = course_after_reply k t

  abbrev alone : Course
  alone = course_after_reply (start k.state) t

  one_before : k.fault ≡ None → (fault_of t.reaction ≡ None → AreFrom here fs) → (fault_of t.reaction ≡ None → AreFrom alone fs) →
      (o : Option ClientFault) → fault_of t.reaction ≡ o → AreFrom k (f ∷ fs)
  one_before none p q None e =
      let first : runs k (f ∷ fs) ≡ runs here fs = ap (λ (y : Course). runs y fs) (one_more k f none) in
      let a = p e in
      let b = q e in
      record {
        state = ap (λ (y : Course). y.state) first ∙ a.state ∙ sym b.state;
        sends = ap (λ (y : Course). y.sends) first ∙ a.sends
            ∙ append_assoc k.sends (sends_of t.reaction) (takes_all t.state fs).sends
            ∙ ap (λ (y : List Frame). k.sends ++ y) (sym b.sends);
      }
  one_before none p q (Some x) e =
      let first : runs k (f ∷ fs) ≡ runs here fs = ap (λ (y : Course). runs y fs) (one_more k f none) in
      let a : runs here fs ≡ here = fault_stays here fs x e in
      let b : runs alone fs ≡ alone = fault_stays alone fs x e in
      record {
        state = ap (λ (y : Course). y.state) (first ∙ a) ∙ sym (ap (λ (y : Course). y.state) b);
        sends = ap (λ (y : Course). y.sends) (first ∙ a) ∙ ap (λ (y : Course). k.sends ++ y.sends) (sym b);
      }

runs_from : (k : Course) (fs : List Frame) → k.fault ≡ None → AreFrom k fs
runs_from k [] none = record { state = refl; sends = sym (append-nil k.sends) }
runs_from k (f ∷ fs) none =
    one_before k f fs none (λ e. runs_from (course_after_reply k (reaction_to_reply k.state f)) fs e)
    (λ e. runs_from (course_after_reply (start k.state) (reaction_to_reply k.state f)) fs e)
    (fault_of (reaction_to_reply k.state f).reaction) refl

-- ---- what is received

abbrev by_course : ℕ → ClientState → List Frame → Receipt
by_course k c fs = record { client = (takes_all c fs).state; sends = (takes_all c fs).sends; log = reported_by k c fs }

same_receipt : (c d : ClientState) (ss ts : List Frame) (es gs : List LogEntry) → c ≡ d → ss ≡ ts → es ≡ gs →
    ◌≡◌ {A = Receipt} (record { client = c; sends = ss; log = es }) (record { client = d; sends = ts; log = gs })
same_receipt c d ss ts es gs a b e = cc

module _ (k : ℕ) (c : ClientState) (f : Frame) (fs : List Frame) where
  abbrev reply : AfterReply
  reply = reaction_to_reply c f

  abbrev written : List LogEntry
  written = reacts k (scheme_held c.hint) c.call f reply.reaction

  abbrev from_start : Course
  from_start = course_after_reply (start c) reply

  abbrev nothing : Receipt
  nothing = record { client = reply.state; sends = []; log = [] }

  abbrev after : Receipt → Receipt
  after rest = record { client = rest.client; sends = sends_of reply.reaction ++ rest.sends; log = written ++ rest.log }

  received_by : receives k reply.state fs ≡ by_course k reply.state fs → (o : Option ClientFault) → fault_of reply.reaction ≡ o →
      receives k c (f ∷ fs) ≡ by_course k c (f ∷ fs)
  received_by rest None e =
      let a = runs_from from_start fs e in
      let o : receives k c (f ∷ fs) ≡ after (receives k reply.state fs) =
      ap (λ (o : Option ClientFault). after (cond (is_some o) nothing (receives k reply.state fs))) e in
      let g : reported_by k c (f ∷ fs) ≡ written ++ reported_by k reply.state fs =
      ap (λ (o : Option ClientFault). written ++ cond (is_some o) [] (reported_by k reply.state fs)) e in
      o ∙ ap after rest ∙ same_receipt _ _ _ _ _ _ (sym a.state) (sym a.sends) (sym g)
  received_by rest (Some x) e =
      let a : runs from_start fs ≡ from_start = fault_stays from_start fs x e in
      let o : receives k c (f ∷ fs) ≡ after nothing =
      ap (λ (o : Option ClientFault). after (cond (is_some o) nothing (receives k reply.state fs))) e in
      let g : reported_by k c (f ∷ fs) ≡ written ++ [] =
      ap (λ (o : Option ClientFault). written ++ cond (is_some o) [] (reported_by k reply.state fs)) e in
      o ∙ same_receipt _ _ _ _ _ _ (sym (ap (λ (y : Course). y.state) a)) (append-nil (sends_of reply.reaction) ∙ sym (ap (λ (y : Course). y.sends) a)) (sym g)

received : (k : ℕ) (c : ClientState) (fs : List Frame) → receives k c fs ≡ by_course k c fs
received k c [] = refl
received k c (f ∷ fs) =
    received_by k c f fs (received k (reaction_to_reply c f).state fs) (fault_of (reaction_to_reply c f).reaction) refl

pub receipt_at : (s : State) (k most : ℕ) (o : Option ClientLink) → received_at s k most o ≡ reported_by_course s k most o
receipt_at s k most None = refl
receipt_at s k most (Some l) =
    ap (λ (t : Receipt). with_link s s.history k (record l { client = t.client; up = sent l.up t.sends; down = wire_after l.down most }) t.log)
    (received k l.client (arrived l.down most))
