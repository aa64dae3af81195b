use Rattle.std.proofs.Common.{ap, ◌∙◌, sym, arith, ◌≡◌, ◌*◌, ◌-◌, ℕ, List, length, take, drop}
use Rattle.std.proofs.lemmas.List.{length-drop}
use Rattle.std.proofs.Math.Seq.{take-length}
use Rattle.pir_schemes.proofs.parts.part_words.Goals as goal

pub returns-clause-words : goal.returns-clause-words
returns-clause-words c =
    let words : List ℕ = c.args.words.now in
    let start : ℕ = c.in_ok-start.start in
    let is : start ≡ 65536 * c.args.part = omega (arith, c.in_ok-start.ensures.1) in
    let rest : take (length words - start) (drop start words) ≡ drop start words =
    ap (λ n. take n (drop start words)) (sym (length-drop start words)) ∙ take-length (drop start words) in
    c.prefix.ensures ∙ ap (take 65536) rest ∙ ap (λ n. take 65536 (drop n words)) is
