use Rattle.std.proofs.Common.{rules, ◌≡◌, ◌++◌, ◌+◌, ℕ, List, [], length, arith, ap, sym, ◌∙◌, append_assoc}
use Rattle.std.proofs.lemmas.List.{take-append-drop, append-nil, length-append, nil_from_length}
use Rattle.frame_codec.specs.Numbers.{word_bytes}
use Rattle.frame_codec.proofs.NumberBytes.{no_words}
use Rattle.frame_codec.proofs.payload.words_of.Goals as goal

pub loop-rest-init : goal.loop-rest-init
loop-rest-init c = record {
  items = ap (λ (x : List ℕ). word_bytes x ++ c.args.bytes.now) c.in_ok-items.ensures.items ∙ no_words c.args.bytes.now;
  whole = omega (arith, c.requires.1);
  space = omega (arith, c.in_ok-items.ensures.len, c.in_ok-items.ensures.capacity);
}

pub loop-rest-preserved : goal.loop-rest-preserved
loop-rest-preserved c =
    let i = c.loop-rest.invariant in
    let block : List ℕ = c.split_at.result.0.now in
    let beyond : List ℕ = c.split_at.result.1.now in
    let whole : block ++ beyond ≡ c.loop-rest.rest.now = rw (c.split_at.ensures.front, c.split_at.ensures.back) (take-append-drop _ c.loop-rest.rest.now) in
    let sizes : length block + length beyond ≡ length c.loop-rest.rest.now = sym (length-append block beyond) ∙ ap length whole in
    record {
      items = ap (λ (x : List ℕ). x ++ beyond) c.push_block.ensures.items ∙ append_assoc (word_bytes c.loop-rest.items.items) block beyond
          ∙ ap (λ (x : List ℕ). word_bytes c.loop-rest.items.items ++ x) whole ∙ i.items;
      whole = omega (arith, sizes, i.whole);
      space = omega (arith, i.space, i.whole, c.push_block.ensures.len, c.push_block.ensures.room, sizes);
    }

pub returns-clause-bytes : goal.returns-clause-bytes
returns-clause-bytes c =
    let none : c.loop-rest.rest.now ≡ [] = nil_from_length c.loop-rest.rest.now (search rules) in
    ap word_bytes c.new.ensures.items ∙ sym (append-nil (word_bytes c.loop-rest.items.items))
    ∙ ap (λ (x : List ℕ). word_bytes c.loop-rest.items.items ++ x) (sym none) ∙ c.loop-rest.invariant.items
