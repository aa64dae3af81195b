use Rattle.std.proofs.Common.{◌≡◌, ◌≢◌, ℕ, ◌+◌, ◌%◌, ◌^◌, ◌<◌, ◌==◌, if◌then◌else◌, arith, sym, refl, List, ℤ, pos}
use Rattle.std.specs.Prelude.{slice_index, slice_index_or}
use Rattle.matrix_u32.specs.Sum.{dot, residue}
use Rattle.matrix_u32.specs.Matrix.{WordMatrix, row}
use Rattle.matrix_u32.proofs.Sums.{at_place, off_place}
use Rattle.matrix_u32.proofs.Products.{at-list_of, length-list_of}
use Rattle.noise_table.specs.Margin.{delta}
use Rattle.regev_core.specs.Encryption.{cipher}
use Rattle.regev_core.proofs.laws.ciphers_differ_at_their_places.Goals as goal

module _ (w : ℕ) (a : WordMatrix) (s : List ℕ) (e : List ℤ) where
  -- a word before delta is added
  plain : ℕ → ℕ
  plain j = dot (row a j) s + residue (slice_index_or e j (pos 0))

  at : (place k : ℕ) → k < a.rows → slice_index (cipher w a s e place) k ≡ (plain k + (if k == place then delta w else 0)) % 2 ^ 32
  unfolding plain
  at place k l = at-list_of a.rows (λ j. (dot (row a j) s + residue (slice_index_or e j (pos 0)) + (if j == place then delta w else 0)) % 2 ^ 32) k l

  one_side : (place other : ℕ) → place < a.rows → place ≢ other →
      slice_index (cipher w a s e place) place ≡ (slice_index (cipher w a s e other) place + delta w) % 2 ^ 32
  one_side place other p d =
      omega (arith, at place place p, at other place p, at_place place place (delta w) refl, off_place place other (delta w) d)

pub returns : goal.returns
returns c = λ w a s e place other p q d. record {
  here = one_side w a s e place other p d;
  there = one_side w a s e other place q (λ x. d (sym x));
  elsewhere = λ k l x y.
      let inside : k < a.rows = omega
      (arith, l, length-list_of a.rows (λ j. (dot (row a j) s + residue (slice_index_or e j (pos 0)) + (if j == place then delta w else 0)) % 2 ^ 32)) in
      omega (arith, at w a s e place k inside, at w a s e other k inside, off_place k place (delta w) x, off_place k other (delta w) y);
}
