use Rattle.std.proofs.Common.{◌≡◌, ℕ, List, ◌+◌, ◌-◌, ◌*◌, take, drop, ap, ◌∙◌, arith}
use Rattle.std.proofs.lemmas.List.{take_rest, drop-take, drop-drop}
use Rattle.frame_codec.proofs.frame.Rows.row.Goals as goal

-- the words after the first of d + 1 from a place on
words_of_row : (j d : ℕ) (words : List ℕ) → drop 1 (take ((j + 1) * (d + 1) - j * (d + 1)) (drop (j * (d + 1)) words)) ≡ take d (drop (j * (d + 1) + 1) words)
words_of_row j d words =
    let size : (j + 1) * (d + 1) - j * (d + 1) ≡ 1 + d = omega arith in
    ap (λ (n : ℕ). drop 1 (take n (drop (j * (d + 1)) words))) size
    ∙ drop-take 1 d (drop (j * (d + 1)) words)
    ∙ ap (λ (x : List ℕ). take d x) (drop-drop 1 (j * (d + 1)) words)

pub returns-clause-words : goal.returns-clause-words
returns-clause-words c = rw (take_rest, c.as_slice.ensures.items, ← c.self.view_is) (words_of_row c.args.j c.self.inside.dimension c.self.inside.words)
