-- That a publication that was foreseen is made, unless memory is refused to it.
use Rattle.std.proofs.Common.{◌≡◌, ◌⊎◌, ◌+◌, ◌^◌, ℕ, List, [], ◌∷◌, ◌++◌, length, take, drop, Bool, true, false, Option, Some, None, Result, Ok, Err, inl, inr, refl, sym, ap, subst, ◌∙◌, append_assoc, ne_eqb, arith}
use Rattle.std.specs.Prelude.{◌==◌, IfNone, MatchBool, option_to_list}
use Rattle.std.specs.List.{flat_map}
use Rattle.std.proofs.lemmas.List.{append-nil, take-append-drop, take_all}
use Rattle.frame_codec.specs.declared.frame.Frame.{Frame}
use Rattle.frame_codec.specs.declared.frame.Frame.TheVariants.{Publish, Done}
use Rattle.frame_codec.specs.declared.refusal.Refusal.TheVariants as refusal
use Rattle.frame_codec.specs.Refusals.{refused}
use Rattle.frame_codec.specs.declared.reader.FrameRead.{FrameRead}
use Rattle.frame_codec.specs.declared.reader.ReadFault.{ReadFault}
use Rattle.frame_codec.specs.declared.reader.ReadFault.TheVariants.{TooLong, UnknownKind, BadPayload, Memory, Failed}
use Rattle.frame_codec.specs.Frames.{IsFrame, encoding, payload_of}
use Rattle.frame_codec.specs.Streams.{IsFrameOf, HasFrame, HasPublishNext, Feeds, FeedsFrame, Reads}
use Rattle.frame_codec.proofs.Unique.{one_encoding, fault_of_frame}
use Rattle.version_store.specs.Histories.{StoreState, History, StandsFor, current_version, published}
use Rattle.server_core.specs.declared.standing.Standing.{Standing}
use Rattle.server_core.specs.declared.standing.Standing.TheVariants.{Stranger, Reader, Publisher, Closed}
use Rattle.server_core.specs.Serving.{is_wide_setting, Setting, AfterFrame, MayPublish, IsAfterFrame, ServesAll, is_closed, is_publisher, after_frame}
use Rattle.server_core.specs.Sessions.{Session, AfterReading, ServesFrame, frames_taken}
use Rattle.server_core.specs.Laws.{ForeseenArePublished}

-- Publish is a frame
publish_fits : IsFrame Publish
unfolding payload_of
publish_fits = record { fields = tt; short = omega arith }

-- of every stream
publish_fits_in : (wide : Bool) → IsFrameOf wide Publish
publish_fits_in wide = record { frame = publish_fits; known = refl }

-- where it is next, there is no fault
no_fault : (wide : Bool) (kept piece : List ℕ) (fault : ReadFault) (new : Option (List ℕ)) (middle after : Standing) (more : List Frame) → HasFrame wide (kept ++ piece) →
    Feeds wide (Some kept) piece (Err fault) [] new → AfterReading (Err fault) middle after more → ⊥
no_fault wide kept piece TooLong new middle after more h f ends = fault_of_frame wide TooLong f.0.0 f.0.2 (subst (HasFrame wide) f.0.1.whole h)
no_fault wide kept piece UnknownKind new middle after more h f ends = fault_of_frame wide UnknownKind f.0.0 f.0.2 (subst (HasFrame wide) f.0.1.whole h)
no_fault wide kept piece BadPayload new middle after more h f ends = fault_of_frame wide BadPayload f.0.0 f.0.2 (subst (HasFrame wide) f.0.1.whole h)
no_fault wide kept piece Memory new middle after more h f ends = ends
no_fault wide kept piece Failed new middle after more h f ends = ends

-- and it is the frame that is taken
taken_is : (wide : Bool) (kept piece more rest : List ℕ) (count : ℕ) (frame : Option Frame) → kept ++ piece ≡ encoding Publish ++ more →
    Reads wide (kept ++ take count piece) (option_to_list frame) rest → IfNone frame (count ≡ length piece) → option_to_list frame ≡ Publish ∷ []
taken_is wide kept piece more rest count None e r all =
    let whole : take count piece ≡ piece = take_all count piece (omega (arith, all)) in
    let is : rest ≡ encoding Publish ++ more = sym r.begins.whole ∙ ap (λ (y : List ℕ). kept ++ y) whole ∙ e in
    absurd (r.partial.no_frame (Publish, more, publish_fits_in wide, is))
taken_is wide kept piece more rest count (Some f) e r all =
    let first : encoding f ++ (rest ++ drop count piece) ≡ encoding Publish ++ more =
    sym (append_assoc (encoding f) rest (drop count piece))
    ∙ ap (λ (y : List ℕ). (y ++ rest) ++ drop count piece) (sym (append-nil (encoding f)))
    ∙ ap (λ (y : List ℕ). y ++ drop count piece) (sym r.begins.whole)
    ∙ append_assoc kept (take count piece) (drop count piece)
    ∙ ap (λ (y : List ℕ). kept ++ y) (take-append-drop count piece) ∙ e in
    ap (λ (g : Frame). g ∷ []) (one_encoding f Publish (rest ++ drop count piece) more r.begins.each.0.frame publish_fits first).0

-- the publisher's session is open
is_open : (A B : Type 0) (st : Standing) → is_publisher st ≡ true → MatchBool (is_closed st) A B → (st ≡ Publisher) × B
is_open A B Stranger p m = let no : false ≡ true = p in cc
is_open A B Reader p m = let no : false ≡ true = p in cc
is_open A B Publisher p m = (refl, m)
is_open A B Closed p m = let no : false ≡ true = p in cc

-- the same in both cases
either : (A : Type 0) (b : Bool) → MatchBool b A A → A
either A true m = m
either A false m = m

-- what the frame leads to, where nothing refuses it but memory
outcome_is : (x : Setting) (h : History) (store : StoreState) → StandsFor store h → MayPublish Publisher store →
    after_frame x h Publisher Publish ≡ record { reply = Some (Done (current_version h + 1)); standing = Publisher; history = published h }
outcome_is x h store s may =
    let marked : h.marked ≡ true = s.marked ∙ may.marked in
    let more : (current_version h + 1 == 2 ^ 64) ≡ false = ne_eqb (current_version h + 1) (2 ^ 64) (λ e. omega (arith, e, s.version, may.below)) in
    rw (marked, more) refl

-- the reply and the version after it
pub record Ends (store : StoreState) (h : History) (o : AfterFrame) : Type 0 where
  pub reply : Frame
  pub reply_is : o.reply ≡ Some reply
  pub course : ((current_version o.history ≡ store.version + 1) × (reply ≡ Done (store.version + 1)))
      ⊎ ((current_version o.history ≡ store.version) × (reply ≡ refused refusal.Memory))

ends_of : (x : Setting) (h : History) (store : StoreState) (o : AfterFrame) → StandsFor store h → MayPublish Publisher store →
    IsAfterFrame x h Publisher Publish o → Ends store h o
ends_of x h store o s may (inl is) =
    let whole = is ∙ outcome_is x h store s may in
    record {
      reply = Done (current_version h + 1);
      reply_is = ap (λ (p : AfterFrame). p.reply) whole;
      course = inl (
        ap (λ (p : AfterFrame). current_version p.history) whole ∙ omega (arith, s.version),
        ap (λ (n : ℕ). Done (n + 1)) s.version,
      );
    }
ends_of x h store o s may (inr memory) = record {
  reply = refused refusal.Memory;
  reply_is = ap (λ (p : AfterFrame). p.reply) memory.1;
  course = inr (ap (λ (p : AfterFrame). current_version p.history) memory.1 ∙ s.version, refl);
}

-- what is written then
Told : StoreState → StoreState → List ℕ → List ℕ → Type 0
Told store after out written =
    ((after.version ≡ store.version + 1) × (written ≡ out ++ encoding (Done (store.version + 1))))
    ⊎ ((after.version ≡ store.version) × (written ≡ out ++ encoding (refused refusal.Memory)))

told : (store after : StoreState) (h end : History) (o : AfterFrame) (replies others more reported : List Frame) (out written : List ℕ) → Ends store h o →
    StandsFor after end → end ≡ o.history → reported ≡ option_to_list o.reply ++ others → others ≡ [] → more ≡ [] → replies ≡ reported ++ more
    → written ≡ out ++ flat_map encoding replies → Told store after out written
unfolding Told
told store after h end o replies others more reported out written e s end_is reported_is others_is more_is replies_is written_is =
    let only : replies ≡ e.reply ∷ [] = replies_is ∙ ap (λ (y : List Frame). reported ++ y) more_is
    ∙ ap (λ (y : List Frame). y ++ []) (reported_is ∙ ap (λ (y : List Frame). option_to_list o.reply ++ y) others_is
    ∙ ap (λ (y : Option Frame). option_to_list y ++ []) e.reply_is) in
    let bytes : written ≡ out ++ encoding e.reply = written_is
    ∙ ap (λ (y : List Frame). out ++ flat_map encoding y) only ∙ ap (λ (y : List ℕ). out ++ y) (append-nil (encoding e.reply)) in
    let now : after.version ≡ current_version o.history = sym s.version ∙ ap current_version end_is in
    elim e.course [
      | inl made ↦ inl (now ∙ made.0, bytes ∙ ap (λ (f : Frame). out ++ encoding f) made.1)
      | inr stays ↦ inr (now ∙ stays.0, bytes ∙ ap (λ (f : Frame). out ++ encoding f) stays.1)
    ]

-- the frame that is served is the publication
served : (x : Setting) (h : History) (standing : Standing) (unfinished : Option (List ℕ)) (piece : List ℕ) (store after : StoreState) (count : ℕ)
    (h2 : History) (new : Session) (replies : List Frame) (out written : List ℕ) (answer : Result FrameRead ReadFault)
    → StandsFor store h → MayPublish standing store → HasPublishNext unfinished piece → standing ≡ Publisher
    → (w : ServesFrame x h (record { standing = standing; unfinished = unfinished }) piece count h2 new replies) → w.answer ≡ answer
    → StandsFor after h2 → written ≡ out ++ flat_map encoding replies → Told store after out written
served x h standing None piece store after count h2 new replies out written answer s may next is w a stands bytes = absurd next
served x h standing (Some kept) piece store after count h2 new replies out written (Err fault) s may next is w a stands bytes =
    let reads = subst (λ (r : Result FrameRead ReadFault). FeedsFrame (is_wide_setting x) (Some kept) piece r new.unfinished) a w.reads in
    let serves = subst (λ (r : Result FrameRead ReadFault). ServesAll x h standing (frames_taken r) h2 w.middle w.reported) a w.serves in
    let open_ : is_closed w.middle ≡ false = ap is_closed (serves.1 ∙ is) in
    let ends = rw (a, open_) at w.ends in
    absurd (no_fault (is_wide_setting x) kept piece fault new.unfinished w.middle new.standing w.more (Publish, next.0, publish_fits_in (is_wide_setting x), next.1) reads ends)
served x h standing (Some kept) piece store after count h2 new replies out written (Ok taken) s may next is w a stands bytes =
    let reads = subst (λ (r : Result FrameRead ReadFault). FeedsFrame (is_wide_setting x) (Some kept) piece r new.unfinished) a w.reads in
    let frame = taken_is (is_wide_setting x) kept piece next.0 reads.fed.0 taken.count taken.frame next.1 (reads.fed.1) reads.whole in
    let first = subst (λ (r : Result FrameRead ReadFault). ServesAll x h standing (frames_taken r) h2 w.middle w.reported) a w.serves in
    let second = subst (λ (fs : List Frame). ServesAll x h standing fs h2 w.middle w.reported) frame first in
    let serves = subst (λ (st : Standing). ServesAll x h st (Publish ∷ []) h2 w.middle w.reported) is second in
    let ends = either _ (is_closed w.middle) (rw a at w.ends) in
    let e = ends_of x h store serves.0 s (subst (λ (st : Standing). MayPublish st store) is may) serves.2 in
    told store after h h2 serves.0 replies serves.1 w.more w.reported out written e stands serves.4.0 serves.3 serves.4.2 ends.1 w.all bytes

pub foreseen_are_published : ForeseenArePublished
unfolding Told
foreseen_are_published x h s piece store count after new out written stands would fed =
    let open_ = is_open _ _ s.standing would.may.publisher fed.course in
    served x h s.standing s.unfinished piece store after count fed.history new fed.replies out written open_.1.answer stands would.may would.next open_.0
    open_.1 refl fed.store_is fed.written
