-- The shape of a version, whose records are one after another in bytes, and what is made from it.
use Rattle.std.proofs.Common.{◌≡◌, ◌∙◌, ℕ, ap, List, length, ◌*◌, take, drop}
use Rattle.std.proofs.lemmas.List.{length-map}
use Rattle.matrix_u32.specs.Matrix.{product}
use Rattle.matrix_u32.proofs.Products.{length-list_of}
use Rattle.digit_pack.specs.Layout.{Shape, records_in, digit_matrix}
use Rattle.simple_scheme.specs.Simple.{hint_of}
use Rattle.pir_schemes.specs.declared.scheme.Scheme.TheVariants.{Simple}
use Rattle.pir_schemes.specs.declared.plan.Plan.{Plan}
use Rattle.pir_schemes.specs.Plans.{shape_at, digits_at, content, records_held, slots, first_public}
use Rattle.pir_schemes.specs.Retrievals.{hint_matrix}

pub long_records : (l : Shape) (bytes : List ℕ) → length (records_in l bytes) ≡ l.count
long_records l bytes = length-list_of l.count (λ i. take l.record_len (drop (i * l.record_len) bytes))

pub long_held : (p : Plan) (count : ℕ) (bytes : List ℕ) → length (records_held p count bytes) ≡ count
long_held p count bytes = length-map (records_in (shape_at p count) bytes) (content p) ∙ long_records (shape_at p count) bytes

pub shape_again : (p : Plan) (l : Shape) (bytes : List ℕ) → shape_at p l.count ≡ l → shape_at p (length (records_held p l.count bytes)) ≡ l
shape_again p l bytes sizes = ap (shape_at p) (long_held p l.count bytes) ∙ sizes

pub digits_again : (p : Plan) (l : Shape) (bytes : List ℕ) → shape_at p l.count ≡ l → slots p (records_held p l.count bytes) ≡ records_in l bytes →
    digits_at p (records_held p l.count bytes) ≡ digit_matrix l (records_in l bytes)
digits_again p l bytes sizes are =
    ap (λ s. digit_matrix s (slots p (records_held p l.count bytes))) (shape_again p l bytes sizes) ∙ ap (digit_matrix l) are

-- the SimplePIR hint of those records is the product of the digits and the public matrix
pub hint_again : (p : Plan) (l : Shape) (bytes : List ℕ) → shape_at p l.count ≡ l →
    hint_matrix Simple p (records_held p l.count bytes) ≡ product (digits_at p (records_held p l.count bytes)) (first_public l p.dimension p.seed)
unfolding hint_matrix hint_of
hint_again p l bytes sizes =
    ap (λ s. product (digits_at p (records_held p l.count bytes)) (first_public s p.dimension p.seed)) (shape_again p l bytes sizes)
