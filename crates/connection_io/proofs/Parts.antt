-- Bytes that go out in parts, and come in pieces.
use Rattle.std.proofs.Common.{◌≡◌, ◌≢◌, ◌<◌, ◌≤◌, ◌+◌, ◌*◌, ℕ, List, [], ◌∷◌, ◌++◌, length, map, take, refl, ap, ◌∙◌, sym, subst, append-nil, arith}
use Rattle.std.specs.List.{FoldsTo, concat}
use Rattle.std.proofs.lemmas.List.{map-append, length-append, length-take}
use Rattle.std.proofs.lemmas.List.Folds.{concat-append}
use Rattle.std.proofs.lemmas.Fn.{FoldsTo-push}
use Rattle.connection_io.specs.Calls.{IoCall, Read, Write, Sends, SendsUntilFault}
use Rattle.connection_io.specs.Turns.{ReadsPiece}

pub sends_none : {C : Type 0} (does : C → IoCall → C → Type 0) (a : C) → Sends does a [] a
sends_none does a = ([], refl, refl)

-- one more write
pub sends_more : {C : Type 0} (does : C → IoCall → C → Type 0) (a m b : C) (bytes more : List ℕ) → Sends does a bytes m → does m (Write more) b →
    Sends does a (bytes ++ more) b
sends_more does a m b bytes more s w =
    let parts : List (List ℕ) = s.0 ++ more ∷ [] in (
      parts,
      concat-append s.0 (more ∷ []) ∙ ap (λ (x : List ℕ). concat s.0 ++ x) (append-nil more) ∙ ap (λ (x : List ℕ). x ++ more) s.1,
      subst (λ (calls : List IoCall). FoldsTo does a calls b) (sym (map-append Write s.0 (more ∷ [])))
          (FoldsTo-push does a (map Write s.0) m (Write more) b s.2 w),
    )

folds_both : {P A : Type 0} (R : P → A → P → Type 0) (a m b : P) (xs ys : List A) → FoldsTo R a xs m → FoldsTo R m ys b → FoldsTo R a (xs ++ ys) b
folds_both R a m b [] ys f g = subst (λ x. FoldsTo R x ys b) (sym f) g
folds_both R a m b (x ∷ xs) ys f g = (f.0, f.1, folds_both R f.0 m b xs ys f.2 g)

-- some bytes, and then others
pub sends_both : {C : Type 0} (does : C → IoCall → C → Type 0) (a m b : C) (bytes more : List ℕ) → Sends does a bytes m → Sends does m more b →
    Sends does a (bytes ++ more) b
sends_both does a m b bytes more s t = (
  s.0 ++ t.0,
  concat-append s.0 t.0 ∙ ap (λ (x : List ℕ). x ++ concat t.0) s.1 ∙ ap (λ (x : List ℕ). bytes ++ x) t.1,
  subst (λ (calls : List IoCall). FoldsTo does a calls b) (sym (map-append Write s.0 t.0)) (folds_both does a m b (map Write s.0) (map Write t.0) s.2 t.2),
)

-- and then a fault among the others
pub sends_faulty : {C : Type 0} (does : C → IoCall → C → Type 0) (a m b : C) (bytes more : List ℕ) → Sends does a bytes m → SendsUntilFault does m more b →
    SendsUntilFault does a (bytes ++ more) b
sends_faulty does a m b bytes more s t = (t.0, sends_both does a m t.0 bytes more s t.1, t.2)

-- a read that gave some bytes gave a piece
pub reads_piece : {C : Type 0} (does : C → IoCall → C → Type 0) (a b : C) (buffer : List ℕ) (n : ℕ) → does a (Read (length buffer) (take n buffer)) b →
    length buffer ≡ 65536 → n ≢ 0 → n ≤ length buffer
    → ReadsPiece does a (take n buffer) b
reads_piece does a b buffer n did room some within = record {
  read = subst (λ (k : ℕ). does a (Read k (take n buffer)) b) room did;
  some = omega (arith, length-take n buffer, some, within, room);
  most = omega (arith, length-take n buffer, room);
}

-- ---- how many bytes so many reads give

pub most_more : (read piece : List ℕ) (count : ℕ) → length read ≤ 65536 * count → length piece ≤ 65536 → length (read ++ piece) ≤ 65536 * (count + 1)
most_more read piece count most one = omega (arith, length-append read piece, most, one)

pub least_more : (read piece : List ℕ) (count : ℕ) → count ≤ length read → 0 < length piece → count + 1 ≤ length (read ++ piece)
least_more read piece count least some = omega (arith, length-append read piece, least, some)

pub within : (read : List ℕ) (count turns : ℕ) → length read ≤ 65536 * count → count ≤ turns → length read ≤ 65536 * turns
within read count turns most le = omega (arith, most, le)
