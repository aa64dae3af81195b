-- Words and noise that a source gives from its place on.
use Rattle.std.proofs.Common.{◌≡◌, ℕ, ◌+◌, ◌<◌, ◌^◌, arith, ap, ◌∙◌, sym, List, length}
use Rattle.std.proofs.lemmas.List.{with_items_is}
use Rattle.std.proofs.lemmas.List.Elements.{All-from_get_or}
use Rattle.std.proofs.lemmas.Nat.{pow_pos}
use Rattle.std.specs.Prelude.{All, slice_index}
use Rattle.std.specs.Vec.{with_items}
use Rattle.std.specs.declared.vec.Vec.{Vec}
use Rattle.matrix_u32.specs.Matrix.{WordMatrix, row}
use Rattle.regev_core.specs.Encryption.{nearest, stripped}
use Rattle.regev_core.proofs.Rounding.{nearest-lt}
use Rattle.digit_pack.specs.Layout.{Shape, IsLayout, digits_per_record, first_row}
use Rattle.simple_scheme.specs.Simple.{secret, simple_reading, simple_digit_read}
use Rattle.matrix_u32.specs.Sum.{list_of}
use Rattle.matrix_u32.proofs.Products.{length-list_of, each-list_of}

-- a vector whose elements were written over
pub kept : {X Z : Type 0} (v : Vec X Z) (ws : List X) (n : ℕ) → length ws ≡ n → v.len ≡ n → (with_items v ws).items ≡ ws
kept v ws n e h = with_items_is v ws (e ∙ sym h)

-- the digits that were read are the reading
pub read_is : (l : Shape) (hint : WordMatrix) (seed : List ℕ) (number i : ℕ) (answer : List ℕ) (w first n : ℕ) (s out : List ℕ) →
    w ≡ l.width → first ≡ first_row l i → n ≡ digits_per_record l → s ≡ secret seed number hint.cols →
    out ≡ list_of n (λ d. nearest w (stripped (slice_index answer (first + d)) (row hint (first + d)) s)) → out ≡ simple_reading l hint seed number i answer
unfolding simple_reading
read_is l hint seed number i answer w first n s out ew ef en es e =
    e
    ∙ ap (λ n. list_of n (λ d. nearest w (stripped (slice_index answer (first + d)) (row hint (first + d)) s))) en
    ∙ ap (λ w. list_of (digits_per_record l) (λ d. nearest w (stripped (slice_index answer (first + d)) (row hint (first + d)) s))) ew
    ∙ ap (λ f. list_of (digits_per_record l) (λ d. nearest l.width (stripped (slice_index answer (f + d)) (row hint (f + d)) s))) ef
    ∙ ap (λ (s : List ℕ). list_of (digits_per_record l)
    (λ d. nearest l.width (stripped (slice_index answer (first_row l i + d)) (row hint (first_row l i + d)) s))) es

pub small_reading : (l : Shape) (hint : WordMatrix) (seed : List ℕ) (number i : ℕ) (answer : List ℕ) → IsLayout l →
    All (λ d. d < 2 ^ l.width) (simple_reading l hint seed number i answer)
unfolding simple_reading
small_reading l hint seed number i answer ok =
    All-from_get_or (λ d. d < 2 ^ l.width) (simple_reading l hint seed number i answer) 0 (λ k _.
    each-list_of (λ d. d < 2 ^ l.width) (digits_per_record l) (simple_digit_read l hint (secret seed number hint.cols) i answer) 0 (pow_pos l.width)
    (λ k. nearest-lt l.width _ (omega arith)) k)

pub length-reading : (l : Shape) (hint : WordMatrix) (seed : List ℕ) (number i : ℕ) (answer : List ℕ) →
    length (simple_reading l hint seed number i answer) ≡ digits_per_record l
unfolding simple_reading
length-reading l hint seed number i answer = length-list_of (digits_per_record l) (simple_digit_read l hint (secret seed number hint.cols) i answer)
