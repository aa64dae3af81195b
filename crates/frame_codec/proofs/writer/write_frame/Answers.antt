use Rattle.std.proofs.Common.{◌∙◌}
use Rattle.frame_codec.proofs.Prefixes.{encoded_in_order}
use Rattle.frame_codec.proofs.writer.write_frame.Goals as goal

pub returns-clause-ok : goal.returns-clause-ok
returns-clause-ok c =
    c.put_payload.ensures.items
    ∙ rw c.in_ok-put_head.ensures.ok
    (encoded_in_order c.args.out.now.items c.args.frame.now c.payload_len-len.result c.kind_number.result c.payload_len-len.ensures c.kind_number.ensures)
