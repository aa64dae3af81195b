use Rattle.std.proofs.Common.{◌++◌, ◌∙◌, ℕ, List, ap, arith}
use Rattle.std.specs.Prelude.{string_bytes}
use Rattle.hint_file.proofs.HeadTexts.{one_more, all_done}
use Rattle.hint_file.proofs.texts.all_lines.Goals as goal

pub loop-head-preserved : goal.loop-head-preserved
loop-head-preserved c =
    one_more (string_bytes c.loop-head.text) _ (string_bytes c.in_ok-lines.lines) c.args.heads.now c.loop-head.head-index c.head-item.result (omega arith)
    c.head-item.is c.loop-head.invariant c.in_ok-lines.ensures (c.in_ok-push_str.ensures.bytes ∙ ap (λ (b : List ℕ). string_bytes c.loop-head.text ++ b) c.as_str.ensures.value)

pub returns : goal.returns
returns c = all_done (string_bytes c.loop-head.text) c.args.heads.now c.loop-head.head-index (omega arith) c.loop-head.invariant
