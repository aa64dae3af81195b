use Rattle.std.proofs.Common.{◌≡◌, ◌++◌, List, ℕ, [], ap, sym, ◌∙◌, rules}
use Rattle.std.proofs.lemmas.List.{take-append-drop, nil_from_length}
use Rattle.frame_codec.specs.Numbers.{word_bytes}
use Rattle.frame_codec.proofs.NumberBytes.{words_none, words_on}
use Rattle.hint_file.proofs.word_bytes.add_words.Goals as goal

pub loop-rest-preserved : goal.loop-rest-preserved
loop-rest-preserved c =
    let block : List ℕ = c.split_at.result.0.now in
    let beyond : List ℕ = c.split_at.result.1.now in
    let whole : block ++ beyond ≡ c.loop-rest.rest.now = rw (c.split_at.ensures.front, c.split_at.ensures.back) (take-append-drop _ c.loop-rest.rest.now) in
    ap (λ (x : List ℕ). x ++ word_bytes beyond) c.in_ok-add_block.ensures ∙ words_on c.loop-rest.out.items block beyond
    ∙ ap (λ (x : List ℕ). c.loop-rest.out.items ++ word_bytes x) whole ∙ c.loop-rest.invariant

pub returns : goal.returns
returns c =
    let none : c.loop-rest.rest.now ≡ [] = nil_from_length c.loop-rest.rest.now (search rules) in
    sym (words_none c.loop-rest.out.items) ∙ ap (λ (x : List ℕ). c.loop-rest.out.items ++ word_bytes x) (sym none) ∙ c.loop-rest.invariant
