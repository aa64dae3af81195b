-- What is read of a SimplePIR hint: the rows of one record.
use Rattle.std.proofs.Common.{◌≡◌, ◌<◌, ◌+◌, ℕ, List, refl, ap, ◌∙◌}
use Rattle.matrix_u32.specs.Sum.{list_of}
use Rattle.matrix_u32.specs.Matrix.{WordMatrix, row}
use Rattle.matrix_u32.proofs.Products.{same-list_of}
use Rattle.digit_pack.specs.Layout.{Shape, digits_per_record, first_row}
use Rattle.simple_scheme.specs.Simple.{secret, simple_digit_read, simple_reading}
use Rattle.pir_schemes.specs.declared.scheme.Scheme.TheVariants.{Simple}
use Rattle.pir_schemes.specs.Retrievals.{reading}

-- one digit is read of one row
same_digit : (l : Shape) (hint part : WordMatrix) (s : List ℕ) (i : ℕ) (answer : List ℕ) (d : ℕ) →
    row part (first_row l i + d) ≡ row hint (first_row l i + d) → simple_digit_read l part s i answer d ≡ simple_digit_read l hint s i answer d
same_digit l hint part s i answer d e = rw e refl

-- hints of one width that agree in the rows of record i read every answer alike
pub same_reading : (l : Shape) (hint part : WordMatrix) (seed : List ℕ) (number i : ℕ) (answer : List ℕ) → part.cols ≡ hint.cols →
    ((d : ℕ) → d < digits_per_record l → row part (first_row l i + d) ≡ row hint (first_row l i + d)) →
    reading Simple l part seed number i answer ≡ reading Simple l hint seed number i answer
unfolding reading simple_reading
same_reading l hint part seed number i answer cols each =
    same-list_of (digits_per_record l) _ (simple_digit_read l hint (secret seed number part.cols) i answer)
    (λ d lt. same_digit l hint part (secret seed number part.cols) i answer d (each d lt))
    ∙ ap (λ (n : ℕ). list_of (digits_per_record l) (simple_digit_read l hint (secret seed number n) i answer)) cols
