use Rattle.std.proofs.Common.{◌≡◌, ◌∷◌, [], ◌++◌, ◌∙◌, Ok, Err, Option, None, Some, ap, sym, subst, append_assoc, List, ℕ}
use Rattle.std.proofs.lemmas.List.{append-nil}
use Rattle.frame_codec.specs.declared.frame.Frame.{Frame}
use Rattle.frame_codec.specs.declared.reader.ReadFault.TheVariants.{Memory}
use Rattle.frame_codec.specs.Streams.{Feeds}
use Rattle.frame_codec.proofs.Takings.{GoesOn, goes_on_frame, refused_frame, fed_one, fed_none}
use Rattle.frame_codec.proofs.reader.Reader.feed.Goals as goal

pub returns-in_default : goal.returns-in_default
returns-in_default c =
    let i = c.frames.invariant in (
      i.frames ++ [],
      i.added ∙ ap (λ (x : List Frame). c.args.out.now.items ++ x) (sym (append-nil i.frames)),
      i.goes_on (Ok tt) [] c.feed_frame.new.self
          (fed_none c.args.wide c.frames.self c.frames.rest.now c.in_ok-count.field-0 c.feed_frame.new.self c.in_ok-count.ensures c.in_default.is),
    )

pub returns-in_default-add : goal.returns-in_default-add
returns-in_default-add c =
    let i = c.frames.invariant in
    let is : c.in_ok-count.field-0.frame ≡ Some c.in-Some.frame = cc in
    let fed = fed_one c.args.wide c.frames.self c.frames.rest.now c.in_ok-count.field-0 c.feed_frame.new.self c.in-Some.frame c.in_ok-count.ensures is in
    let stop = refused_frame c.args.wide c.frames.self c.frames.rest.now c.in_ok-count.field-0.count c.in-Some.frame c.feed_frame.new.self fed in (
      i.frames ++ [],
      c.in_default-add.ensures.err ∙ i.added ∙ ap (λ (x : List Frame). c.args.out.now.items ++ x) (sym (append-nil i.frames)),
      subst (λ (x : Option (List ℕ)). Feeds c.args.wide c.args.self.now c.args.piece.now (Err Memory) (i.frames ++ []) x) (sym c.fail.ensures)
          (i.goes_on (Err Memory) [] None stop),
    )

pub frames-preserved : goal.frames-preserved
frames-preserved c =
    let i = c.frames.invariant in
    let is : c.in_ok-count.field-0.frame ≡ Some c.in-Some.frame = cc in
    let fed = fed_one c.args.wide c.frames.self c.frames.rest.now c.in_ok-count.field-0 c.feed_frame.new.self c.in-Some.frame c.in_ok-count.ensures is in
    record {
      frames = i.frames ++ c.in-Some.frame ∷ [];
      added = c.in-Ok.ensures.ok ∙ ap (λ (x : List Frame). x ++ c.in-Some.frame ∷ []) i.added ∙ append_assoc c.args.out.now.items i.frames (c.in-Some.frame ∷ []);
      goes_on = subst (λ (x : List ℕ). GoesOn c.args.wide c.args.self.now c.args.piece.now (i.frames ++ c.in-Some.frame ∷ []) c.feed_frame.new.self x)
          (sym c.split_at.ensures.back)
          (goes_on_frame c.args.wide c.args.self.now c.args.piece.now i.frames c.frames.self c.frames.rest.now c.in_ok-count.field-0.count c.in-Some.frame c.feed_frame.new.self
          i.goes_on fed);
    }
