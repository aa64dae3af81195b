-- How long what one frame is replied may be.
use Rattle.std.proofs.Common.{◌≡◌, ◌≤◌, ◌⊎◌, ℕ, List, [], ◌∷◌, ◌++◌, length, Option, Some, None, Result, Ok, Err, Bool, true, false, ap, subst, ◌∙◌, arith, inl, inr}
use Rattle.std.specs.Prelude.{MatchBool, option_to_list}
use Rattle.std.specs.List.{flat_map, AllByRecursion}
use Rattle.std.proofs.lemmas.List.{append-nil, length-append}
use Rattle.std.proofs.lemmas.List.Concat.{flat_map-cons}
use Rattle.frame_codec.specs.declared.frame.Frame.{Frame}
use Rattle.frame_codec.specs.declared.reader.ReadFault.{ReadFault}
use Rattle.frame_codec.specs.declared.reader.ReadFault.TheVariants.{TooLong, UnknownKind, BadPayload, Memory, Failed}
use Rattle.frame_codec.specs.declared.reader.FrameRead.{FrameRead}
use Rattle.frame_codec.specs.declared.refusal.Refusal.TheVariants as refusal
use Rattle.frame_codec.specs.Refusals.{refused}
use Rattle.frame_codec.specs.Frames.{IsFrame, encoding}
use Rattle.frame_codec.proofs.Prefixes.{encoded_length}
use Rattle.version_store.specs.Histories.{History}
use Rattle.server_core.specs.declared.standing.Standing.{Standing}
use Rattle.server_core.specs.Serving.{Setting, AfterFrame, IsAfterFrame, ServesAll, is_closed}
use Rattle.server_core.specs.Sessions.{Session, AfterReading, EndsPiece, ServesFrame, FeedsFirst, frames_taken, reading_end}
use Rattle.connection_turns.specs.Connections.{ConnectionSeen}
use Rattle.connection_turns.specs.Turns.{OwedIsBounded}

of_option : (o : Option Frame) → (o2 : List Frame) → o2 ≡ option_to_list o → (o2 ≡ []) ⊎ ((f : Frame) × (o2 ≡ f ∷ []))
of_option None o2 e = inl e
of_option (Some f) o2 e = inr (f, e)

-- what frames reply, of which there is one at most
one_served : (x : Setting) (h : History) (st : Standing) (o : Option Frame) (h2 : History) (st2 : Standing) (replies : List Frame) →
    ServesAll x h st (option_to_list o) h2 st2 replies → (replies ≡ []) ⊎ ((f : Frame) × (replies ≡ f ∷ []))
one_served x h st None h2 st2 replies s = inl s.2
one_served x h st (Some f) h2 st2 replies s = by_state (is_closed st) s
  where
    by_state : (b : Bool) → MatchBool b ((h2 ≡ h) × (st2 ≡ st) × (replies ≡ []))
        ((o : AfterFrame) × (others : List Frame) × IsAfterFrame x h st f o × (replies ≡ option_to_list o.reply ++ others)
        × ServesAll x o.history o.standing [] h2 st2 others) → (replies ≡ []) ⊎ ((f : Frame) × (replies ≡ f ∷ []))
    by_state true m = inl m.2
    by_state false m =
        of_option m.0.reply replies
        (m.3 ∙ ap (λ (y : List Frame). option_to_list m.0.reply ++ y) m.4.2 ∙ append-nil (option_to_list m.0.reply))

-- what the end of a reading adds to them
reported_well : (middle after : Standing) (more : List Frame) → EndsPiece (Ok tt) middle after more → more ≡ []
reported_well middle after more e = by_state (is_closed middle) e
  where
    by_state : (b : Bool) → MatchBool b ((after ≡ middle) × (more ≡ [])) ((after ≡ middle) × (more ≡ [])) → more ≡ []
    by_state true m = m.1
    by_state false m = m.1

reported_fault : (fault : ReadFault) (middle after : Standing) (more : List Frame) → AfterReading (Err fault) middle after more →
    (more ≡ []) ⊎ ((f : Frame) × (more ≡ f ∷ []))
reported_fault TooLong middle after more e = inr (refused refusal.BadFrame, e.1)
reported_fault UnknownKind middle after more e = inr (refused refusal.BadFrame, e.1)
reported_fault BadPayload middle after more e = inr (refused refusal.BadFrame, e.1)
reported_fault Memory middle after more e = absurd e
reported_fault Failed middle after more e = absurd e

reported_ill : (fault : ReadFault) (middle after : Standing) (more : List Frame) → EndsPiece (Err fault) middle after more →
    (more ≡ []) ⊎ ((f : Frame) × (more ≡ f ∷ []))
reported_ill fault middle after more e = by_state (is_closed middle) e
  where
    by_state : (b : Bool) → MatchBool b ((after ≡ middle) × (more ≡ [])) (AfterReading (Err fault) middle after more) →
        (more ≡ []) ⊎ ((f : Frame) × (more ≡ f ∷ []))
    by_state true m = inl m.1
    by_state false m = reported_fault fault middle after more m

both_parts : (x : Setting) (h : History) (st : Standing) (answer : Result FrameRead ReadFault) (h2 : History) (middle after : Standing)
    (reported more replies : List Frame) → ServesAll x h st (frames_taken answer) h2 middle reported → EndsPiece (reading_end answer) middle after more →
    replies ≡ reported ++ more → (replies ≡ []) ⊎ ((f : Frame) × (replies ≡ f ∷ []))
both_parts x h st (Ok t) h2 middle after reported more replies s e all =
    let same : replies ≡ reported = all ∙ ap (λ (y : List Frame). reported ++ y) (reported_well middle after more e) ∙ append-nil reported in
    elim (one_served x h st t.frame h2 middle reported s) [ inl n ↦ inl (same ∙ n) | inr f ↦ inr (f.0, same ∙ f.1) ]
both_parts x h st (Err fault) h2 middle after reported more replies s e all =
    let same : replies ≡ more = all ∙ ap (λ (y : List Frame). y ++ more) s.2 in
    elim (reported_ill fault middle after more e) [ inl n ↦ inl (same ∙ n) | inr f ↦ inr (f.0, same ∙ f.1) ]

at_most_one : (x : Setting) (h : History) (s : Session) (piece : List ℕ) (count : ℕ) (h2 : History) (t : Session) (replies : List Frame) →
    FeedsFirst x h s piece (Ok count) h2 t replies → (replies ≡ []) ⊎ ((f : Frame) × (replies ≡ f ∷ []))
at_most_one x h s piece count h2 t replies f = by_state (is_closed s.standing) f
  where
    by_state : (b : Bool) → MatchBool b ((count ≡ length piece) × (h2 ≡ h) × (t ≡ s) × (replies ≡ [])) (ServesFrame x h s piece count h2 t replies) →
        (replies ≡ []) ⊎ ((f : Frame) × (replies ≡ f ∷ []))
    by_state true m = inl m.3
    by_state false m = both_parts x h s.standing m.answer h2 m.middle t.standing m.reported m.more replies m.serves m.ends m.all

short : (replies : List Frame) → (replies ≡ []) ⊎ ((f : Frame) × (replies ≡ f ∷ [])) → AllByRecursion IsFrame replies →
    length (flat_map encoding replies) ≤ 16777221
short replies (inl n) all = rw n (omega arith)
short replies (inr f) all =
    let one : AllByRecursion IsFrame (f.0 ∷ []) = subst (λ (y : List Frame). AllByRecursion IsFrame y) f.1 all in
    let fits : IsFrame f.0 = one.0 in
    let size = encoded_length f.0 in
    let e : flat_map encoding replies ≡ encoding f.0 = ap (flat_map encoding) f.1 ∙ flat_map-cons encoding f.0 [] ∙ append-nil (encoding f.0) in
    omega (arith, ap length e, size, fits.short)

pub owed_is_bounded : OwedIsBounded
owed_is_bounded x h s id now old new after may n =
    let owed_is : new.owed ≡ old.owed ++ flat_map encoding n.replies = ap (λ (y : ConnectionSeen). y.owed) n.new_is in
    let le = short n.replies (at_most_one x h s old.unserved n.count n.history n.session n.replies n.served) n.each in
    omega (arith, ap length owed_is, length-append old.owed (flat_map encoding n.replies), le, may.little_owed)
