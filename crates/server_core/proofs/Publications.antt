-- What makes a session's next frame a publication.
use Rattle.std.proofs.Common.{◌≡◌, ℕ, Bool, List, [], ◌∷◌, ◌++◌, take, drop, Option, Some, None, Result, Ok, Err, sym, ap, ◌∙◌, append_assoc, inl, inr}
use Rattle.std.specs.List.{flat_map}
use Rattle.std.proofs.lemmas.List.{append-nil, take-append-drop}
use Rattle.frame_codec.specs.declared.frame.Frame.{Frame}
use Rattle.frame_codec.specs.declared.frame.Frame.TheVariants.{Publish}
use Rattle.frame_codec.specs.declared.reader.FrameRead.{FrameRead}
use Rattle.frame_codec.specs.declared.reader.ReadFault.{ReadFault}
use Rattle.frame_codec.specs.Frames.{encoding}
use Rattle.frame_codec.specs.Streams.{FeedsFrame, HasPublishNext}
use Rattle.server_core.specs.Serving.{PublishesIf}
use Rattle.server_core.specs.Sessions.{frames_taken}

-- what could be published for a reason could be for one that follows from it
pub publishes_since : {P Q : Type 0} (f : P → Q) (before after : ℕ) → PublishesIf P before after → PublishesIf Q before after
publishes_since f before after (inl same) = inl same
publishes_since f before after (inr made) = inr (f made.0, made.1)

-- a reader that takes the frame Publish had it next
pub taken_publish : (wide : Bool) (old : Option (List ℕ)) (piece : List ℕ) (answer : Result FrameRead ReadFault) (new : Option (List ℕ)) →
    FeedsFrame wide old piece answer new → frames_taken answer ≡ Publish ∷ [] → HasPublishNext old piece
taken_publish wide old piece (Err fault) new f e = let no : [] ≡ Publish ∷ [] = e in cc
taken_publish wide None piece (Ok taken) new f e = let no : Ok tt ≡ Err _ = f.fed.0 in cc
taken_publish wide (Some kept) piece (Ok taken) new f e =
    let n : ℕ = taken.count in
    let rest : List ℕ = f.fed.0 in
    let frames : List Frame = frames_taken (Ok taken) in
    let whole : kept ++ take n piece ≡ flat_map encoding frames ++ rest = f.fed.1.begins.whole in (
      rest ++ drop n piece,
      ap (λ (x : List ℕ). kept ++ x) (sym (take-append-drop n piece))
          ∙ sym (append_assoc kept (take n piece) (drop n piece))
          ∙ ap (λ (x : List ℕ). x ++ drop n piece) (whole ∙ ap (λ (fs : List Frame). flat_map encoding fs ++ rest) e)
          ∙ ap (λ (x : List ℕ). (x ++ rest) ++ drop n piece) (append-nil (encoding Publish))
          ∙ append_assoc (encoding Publish) rest (drop n piece),
    )
