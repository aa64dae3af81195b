use Rattle.std.proofs.Common.{◌≡◌, length, ap, sym, ◌∙◌, ◌==◌, arith}
use Rattle.std.proofs.lemmas.List.{length-map}
use Rattle.std.specs.List.{slice_split}
use Rattle.world_script.proofs.Values.{other_words}
use Rattle.world_script.proofs.line.read_words.Goals as goal

pub returns-in-empty : goal.returns-in-empty
returns-in-empty c =
    let n : length c.as_slice.result.now ≡ length (slice_split (λ b. b == 32) c.args.text.now) =
    ap length c.as_slice.ensures.value ∙ sym (length-map c.in_ok-words.words.items (λ word. word.now)) ∙ ap length c.in_ok-words.ensures in
    other_words (slice_split (λ b. b == 32) c.args.text.now)
    (λ h. omega (arith, n, h)) (λ h. omega (arith, n, h)) (λ h. omega (arith, n, h)) (λ h. omega (arith, n, h))

pub returns-in-len4 : goal.returns-in-len4
returns-in-len4 c =
    let n : length c.as_slice.result.now ≡ length (slice_split (λ b. b == 32) c.args.text.now) =
    ap length c.as_slice.ensures.value ∙ sym (length-map c.in_ok-words.words.items (λ word. word.now)) ∙ ap length c.in_ok-words.ensures in
    other_words (slice_split (λ b. b == 32) c.args.text.now)
    (λ h. omega (arith, n, h)) (λ h. omega (arith, n, h)) (λ h. omega (arith, n, h)) (λ h. omega (arith, n, h))

pub returns : goal.returns
returns c =
    let n : length c.as_slice.result.now ≡ length (slice_split (λ b. b == 32) c.args.text.now) =
    ap length c.as_slice.ensures.value ∙ sym (length-map c.in_ok-words.words.items (λ word. word.now)) ∙ ap length c.in_ok-words.ensures in
    other_words (slice_split (λ b. b == 32) c.args.text.now)
    (λ h. omega (arith, n, h)) (λ h. omega (arith, n, h)) (λ h. omega (arith, n, h)) (λ h. omega (arith, n, h))
