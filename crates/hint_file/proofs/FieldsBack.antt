-- What the bytes of fields determine of them.
use Rattle.std.proofs.Common.{◌≡◌, ℕ, ◌^◌, ◌<◌, List, [], ◌∷◌, ◌++◌, length, slice_index, Some, None, refl, sym, ap, ◌∙◌, append_assoc}
use Rattle.std.proofs.lemmas.List.{length-append, drop_at, get_or-drop}
use Rattle.frame_codec.specs.Numbers.{number_bytes, number_in}
use Rattle.frame_codec.proofs.NumberBytes.{length-number, number_back}
use Rattle.pir_schemes.specs.declared.scheme.Scheme.{Scheme}
use Rattle.pir_schemes.specs.declared.scheme.Scheme.TheVariants.{Simple, Double}
use Rattle.pir_schemes.specs.Schemes.{scheme_byte, scheme_of_byte}
use Rattle.client_core.specs.declared.state.ServerInfo.{ServerInfo}
use Rattle.hint_file.specs.declared.heads.HintFields.{HintFields}
use Rattle.hint_file.specs.Files.{plan_bytes, field_bytes}
use Rattle.hint_file.proofs.Bytes.{cut_back}

-- the fields before the scheme
before : ServerInfo → List ℕ
before known =
    number_bytes 2 known.plan.form
    ++ (known.plan.width ∷ [])
    ++ number_bytes 2 known.plan.record_len
    ++ number_bytes 2 known.plan.groups
    ++ number_bytes 2 known.plan.dimension
    ++ known.plan.seed
    ++ number_bytes 4 known.count
    ++ number_bytes 8 known.version

length-before : (known : ServerInfo) → length known.plan.seed ≡ 32 → length (before known) ≡ 53
unfolding before
length-before known len = simp (length-append, length-number, len) refl

pub length-fields : (f : HintFields) → length f.known.plan.seed ≡ 32 → length (field_bytes f) ≡ 78
unfolding field_bytes plan_bytes
length-fields f len = simp (length-append, length-number, len) refl

-- the byte of the scheme is at its place
pub scheme_at : (f : HintFields) → length f.known.plan.seed ≡ 32 → slice_index (field_bytes f) 53 ≡ scheme_byte f.scheme
unfolding field_bytes plan_bytes before
scheme_at f len =
    let b : ℕ = scheme_byte f.scheme in
    let rest : List ℕ = number_bytes 8 f.version ++ (number_bytes 8 f.rows ++ number_bytes 8 f.cols) in
    let split : field_bytes f ≡ before f.known ++ (b ∷ rest) = simp append_assoc refl in
    ap (λ (x : List ℕ). slice_index x 53) split
    ∙ sym (get_or-drop 53 (before f.known ++ (b ∷ rest)) 0 0)
    ∙ ap (λ (x : List ℕ). slice_index x 0) (drop_at (before f.known) (b ∷ rest) 53 (length-before f.known len))

-- each scheme's byte names it
pub named : (s : Scheme) → scheme_of_byte (scheme_byte s) ≡ Some s
named Simple = refl
named Double = refl

one_number : (x y : ℕ) → x < 2 ^ 64 → y < 2 ^ 64 → number_bytes 8 x ≡ number_bytes 8 y → x ≡ y
one_number x y hx hy e = sym (number_back 8 x [] hx) ∙ ap (λ (b : List ℕ). number_in 8 (b ++ [])) e ∙ number_back 8 y [] hy

-- equal fields have the same rows and columns
pub same_sizes : (f g : HintFields) → f.rows < 2 ^ 64 → f.cols < 2 ^ 64 → g.rows < 2 ^ 64 → g.cols < 2 ^ 64
    → field_bytes f ≡ field_bytes g → (f.rows ≡ g.rows) × (f.cols ≡ g.cols)
unfolding field_bytes plan_bytes
same_sizes f g r c r2 c2 e =
    let cols = cut_back 8 _ _ (number_bytes 8 f.cols) (number_bytes 8 g.cols) (length-number 8 f.cols) (length-number 8 g.cols) e in
    let rows = cut_back 8 _ _ (number_bytes 8 f.rows) (number_bytes 8 g.rows) (length-number 8 f.rows) (length-number 8 g.rows) cols.0 in
    (one_number f.rows g.rows r r2 rows.1, one_number f.cols g.cols c c2 cols.1)

-- bytes whose byte there names no scheme are no fields
pub no_scheme : (f : HintFields) (bytes : List ℕ) → length f.known.plan.seed ≡ 32 → bytes ≡ field_bytes f
    → scheme_of_byte (slice_index bytes 53) ≡ None → ⊥
no_scheme f bytes len e none =
    let there : slice_index bytes 53 ≡ scheme_byte f.scheme = ap (λ (x : List ℕ). slice_index x 53) e ∙ scheme_at f len in
    let some : None ≡ Some f.scheme = sym none ∙ ap scheme_of_byte there ∙ named f.scheme in
    absurd cc
