use Rattle.std.proofs.Common.{◌≡◌, ◌++◌, ◌-◌, ◌∙◌, List, ℕ, [], ap, sym, arith, rules, append_assoc, min}
use Rattle.std.proofs.lemmas.List.{take-append-drop, nil_from_length, append-nil}
use Rattle.frame_codec.specs.Numbers.{word_bytes}
use Rattle.hint_file.proofs.word_bytes.add_read.Goals as goal

pub add_read_block-requires : goal.add_read_block-requires
add_read_block-requires c =
    let (n, four) = c.loop-rest.invariant.whole in
    (min n 256, omega (arith, four, c.min.ensures, c.split_at.ensures.front_len), omega arith)

pub loop-rest-preserved : goal.loop-rest-preserved
loop-rest-preserved c =
    let (n, four) = c.loop-rest.invariant.whole in
    let block : List ℕ = c.split_at.result.0.now in
    let beyond : List ℕ = c.split_at.result.1.now in
    let whole : block ++ beyond ≡ c.loop-rest.rest.now = rw (c.split_at.ensures.front, c.split_at.ensures.back) (take-append-drop _ c.loop-rest.rest.now) in
    record {
      read = ap (λ (x : List ℕ). x ++ beyond) c.in_ok-add_read_block.ensures ∙ append_assoc (word_bytes c.loop-rest.out.items) block beyond
          ∙ ap (λ (x : List ℕ). word_bytes c.loop-rest.out.items ++ x) whole ∙ c.loop-rest.invariant.read;
      whole = (n - min n 256, omega (arith, four, c.min.ensures, c.split_at.ensures.front_len, c.split_at.ensures.back_len));
    }

pub returns : goal.returns
returns c =
    let none : c.loop-rest.rest.now ≡ [] = nil_from_length c.loop-rest.rest.now (search rules) in
    sym (append-nil (word_bytes c.loop-rest.out.items)) ∙ ap (λ (x : List ℕ). word_bytes c.loop-rest.out.items ++ x) (sym none) ∙ c.loop-rest.invariant.read
