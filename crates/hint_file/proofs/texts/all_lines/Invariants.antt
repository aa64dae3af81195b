use Rattle.std.proofs.Common.{◌≡◌, ◌++◌, drop}
use Rattle.std.specs.Prelude.{string_bytes}
use Rattle.hint_file.specs.Texts.{hint_texts}
use Rattle.hint_file.proofs.texts.all_lines.Given as goal

abbrev pub invariant-loop-head : goal.invariant-loop-head
invariant-loop-head l = string_bytes l.text ++ hint_texts (drop l.head-index l.heads) ≡ hint_texts l.heads
