-- Readings.
use Rattle.std.proofs.Common.{◌≡◌, ◌∙◌, ap, sym, ℕ, ◌+◌, ◌*◌, ◌<◌, ◌^◌, arith, List, length, take, drop}
use Rattle.std.proofs.lemmas.List.{take-take}
use Rattle.std.proofs.lemmas.List.Elements.{All-from_get_or}
use Rattle.std.proofs.lemmas.Nat.{pow_pos}
use Rattle.std.specs.Prelude.{All}
use Rattle.matrix_u32.specs.Matrix.{WordMatrix}
use Rattle.matrix_u32.proofs.Products.{length-list_of, each-list_of}
use Rattle.regev_core.specs.Encryption.{stripped, nearest}
use Rattle.regev_core.proofs.Rounding.{nearest-lt}
use Rattle.digit_pack.specs.Layout.{Shape, IsLayout, digits_per_record}
use Rattle.lane_kernels.specs.Digit.{split_count}
use Rattle.simple_scheme.specs.Simple.{secret}
use Rattle.double_scheme.specs.Double.{part_secret, answer_part_count, answer_hint, answer_part, server_hint_words, row_read, word_read, part_read, double_digit_read, double_reading}

pub small_reading : (l : Shape) (hint : WordMatrix) (seed : List ℕ) (number : ℕ) (answer : List ℕ) → IsLayout l →
    All (λ d. d < 2 ^ l.width) (double_reading l hint seed number answer)
unfolding double_reading
small_reading l hint seed number answer ok =
    All-from_get_or (λ d. d < 2 ^ l.width) (double_reading l hint seed number answer) 0 (λ k _.
    each-list_of (λ d. d < 2 ^ l.width) (digits_per_record l) (double_digit_read l hint seed number answer) 0 (pow_pos l.width)
    (λ k. nearest-lt l.width _ (omega (arith, ok.width.1))) k)

pub length-reading : (l : Shape) (hint : WordMatrix) (seed : List ℕ) (number : ℕ) (answer : List ℕ) →
    length (double_reading l hint seed number answer) ≡ digits_per_record l
unfolding double_reading
length-reading l hint seed number answer = length-list_of (digits_per_record l) (double_digit_read l hint seed number answer)

-- what was read from part d and its row is the reading's digit d
pub digit_is : (l : Shape) (hint : WordMatrix) (seed : List ℕ) (number : ℕ) (answer : List ℕ) (d w : ℕ) (h : WordMatrix) (s1 s2 r : List ℕ) →
    w ≡ l.width → h ≡ answer_hint w hint.cols answer → s1 ≡ secret seed number hint.cols → s2 ≡ part_secret seed number hint.cols d →
    r ≡ row_read w hint.cols hint s2 (answer_part w hint.cols answer d) →
    nearest w (stripped (word_read w h.cols h s2 (answer_part w h.cols answer d)) r s1) ≡ double_digit_read l hint seed number answer d
digit_is l hint seed number answer d w h s1 s2 r ew eh e1 e2 er =
    let n : ℕ = hint.cols in
    ap (λ (h : WordMatrix). nearest w (stripped (word_read w h.cols h s2 (answer_part w h.cols answer d)) r s1)) eh
    ∙ ap (λ (r : List ℕ). nearest w (stripped (word_read w n (answer_hint w n answer) s2 (answer_part w n answer d)) r s1)) er
    ∙ ap (λ (s2 : List ℕ). part_read w n hint (answer_hint w n answer) s1 s2 (answer_part w n answer d)) e2
    ∙ ap (λ (s1 : List ℕ). part_read w n hint (answer_hint w n answer) s1 (part_secret seed number n d) (answer_part w n answer d)) e1
    ∙ ap (λ w. part_read w n hint (answer_hint w n answer) (secret seed number n) (part_secret seed number n d) (answer_part w n answer d)) ew

-- the words of part d of an answer that are the server's hint times its query
pub words_for_the_row : (w n : ℕ) (answer : List ℕ) (d prefix size : ℕ) → prefix ≡ n * split_count w → size ≡ answer_part_count w n →
    take prefix (drop (prefix + d * size) answer) ≡ server_hint_words w n (answer_part w n answer d)
words_for_the_row w n answer d prefix size ep es =
    let k : ℕ = n * split_count w in
    ap (λ p. take p (drop (p + d * size) answer)) ep
    ∙ ap (λ s. take k (drop (k + d * s) answer)) es
    ∙ sym (take-take k (answer_part_count w n) (drop (k + d * answer_part_count w n) answer) (omega arith))
