use Rattle.std.proofs.Common.{◌≡◌, ℕ, ◌+◌, ◌*◌, ◌<◌, List, arith, ap, ◌∙◌, sym, mul_comm, length}
use Rattle.std.proofs.lemmas.Nat.{mul-add-lt}
use Rattle.std.proofs.lemmas.List.{with_items_is}
use Rattle.std.specs.Prelude.{slice_index}
use Rattle.matrix_u32.specs.Sum.{list_of}
use Rattle.matrix_u32.specs.Matrix.{WordMatrix, row}
use Rattle.matrix_u32.proofs.Products.{at-list_of, same-list_of, length-list_of}
use Rattle.seed_expand.specs.Words.{word, source_word, words_from}
use Rattle.seed_expand.proofs.Sources.{words-source_at}
use Rattle.double_scheme.specs.Double.{part_secret}
use Rattle.double_scheme.proofs.secrets.part_secrets.Goals as goal

pub returns-clause-secrets : goal.returns-clause-secrets
returns-clause-secrets c = λ d p.
    let seed : List ℕ = c.args.seed.now in
    let stream : ℕ = 4 * c.args.number + 2 in
    let n : ℕ = c.args.n in
    let size : ℕ = c.args.parts * n in
    let room : length c.deref_mut.result.now ≡ size = omega (arith, ap length c.deref_mut.ensures.value, c.requires.room) in
    let filled : c.fill_words.new.out ≡ words_from seed stream 0 size =
    c.fill_words.ensures.words
    ∙ ap (λ k. list_of k (source_word c.at.result)) room
    ∙ ap (λ s. list_of size (source_word s)) c.at.ensures
    ∙ words-source_at seed stream 0 size in
    let as_long : length c.fill_words.new.out ≡ size = ap length filled ∙ length-list_of size _ in
    let kept =
    with_items_is c.args.words c.fill_words.new.out (as_long ∙ sym c.requires.room ∙ sym c.args.words.ok.0) ∙ filled in
    let made : c.unwrap.result ≡ record { rows = c.args.parts; cols = n; words = words_from seed stream 0 size } =
    (rw c.unwrap.ensures at c.from_words.ensures.words).0 ∙ ap (λ (ws : List ℕ). record { rows = c.args.parts; cols = n; words = ws }) kept in
    ap (λ (m : WordMatrix). row m d) made
    ∙ same-list_of n _ (λ k. word seed stream (d * n + k)) (λ k l.
    at-list_of size (λ i. word seed stream (0 + i)) (d * n + k) (omega (arith, mul-add-lt d n k c.args.parts p l, mul_comm n c.args.parts))
    ∙ ap (word seed stream) (omega arith))
