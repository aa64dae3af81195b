use Rattle.std.proofs.Common.{◌∙◌, ◌+◌, ◌*◌, length, refl}
use Rattle.frame_codec.specs.declared.frame.Frame.TheVariants.{HintPart}
use Rattle.frame_codec.proofs.Prefixes.{encoded_in_order}
use Rattle.frame_codec.proofs.writer.write_hint_part.Goals as goal

pub returns-clause-ok : goal.returns-clause-ok
returns-clause-ok c =
    c.put_hint_part.ensures.items
    ∙ rw c.in_ok-put_head.ensures.ok
    (encoded_in_order c.args.out.now.items (HintPart c.args.scheme c.args.version c.args.part c.args.words.now) (13 + 4 * length c.args.words.now) 131 refl refl)
