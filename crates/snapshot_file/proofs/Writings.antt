-- Parts of a whole that is written piece by piece.
use Rattle.std.proofs.Common.{◌≡◌, ℕ, ◌+◌, ◌<◌, ◌≤◌, List, ◌++◌, length, take, drop, Result, Ok, Err, IfErr, refl, sym, ap, subst, ◌∙◌, arith}
use Rattle.std.specs.Result.{IsErrAnd}
use Rattle.std.proofs.lemmas.List.{length-append, take-append-le, take_at, drop_at}
use Rattle.std.proofs.Math.Seq.{take-add}
use Rattle.sha2.specs.Sha256.{sha256}
use Rattle.snapshot_file.specs.declared.snapshot.Header.{Header}
use Rattle.snapshot_file.specs.Snapshots.{header_bytes, hashed_bytes, snapshot_bytes}
use Rattle.snapshot_file.proofs.Headers.{header_some}

-- a part of a piece, after the pieces before it
pub part_taken : (a b c whole : List ℕ) (n : ℕ) → whole ≡ a ++ (b ++ c) → n < length b → a ++ take n b ≡ take (length a + n) whole
part_taken a b c whole n e lt =
    let le : n ≤ length b = omega arith in
    sym (ap (take (length a + n)) e ∙ take-add (length a) n (a ++ (b ++ c))
    ∙ ap (λ (x : List ℕ). x ++ take n (drop (length a) (a ++ (b ++ c)))) (take_at a (b ++ c) (length a) refl)
    ∙ ap (λ (x : List ℕ). a ++ take n x) (drop_at a (b ++ c) (length a) refl)
    ∙ ap (λ (x : List ℕ). a ++ x) (take-append-le n b c le))

pub part_shorter : (a b c whole : List ℕ) (n : ℕ) → whole ≡ a ++ (b ++ c) → n < length b → length a + n < length whole
part_shorter a b c whole n e lt = omega (arith, ap length e, length-append a (b ++ c), length-append b c)

-- what a `?` returns if only one fault can come
pub reported_as : {T E : Type 0} (r : Result T E) (w : E) (Q : E → Type 0) → IsErrAnd r (λ e. e ≡ w) → Q w → IfErr r Q
reported_as (Ok x) w Q h q = absurd h
reported_as (Err e) w Q h q = subst Q (sym h) q

-- less than the whole
pub nothing_shorter : (h : Header) (records : List ℕ) → 0 < length (snapshot_bytes h records)
nothing_shorter h records =
    omega (arith, header_some h, length-append (hashed_bytes h records) (sha256 (hashed_bytes h records)), length-append (header_bytes h) records)
