-- Lists of equal blocks after a prefix.
use Rattle.std.proofs.Common.{◌≡◌, ℕ, zero, suc, ◌+◌, ◌*◌, ◌<◌, arith, ap, ◌∙◌, sym, List, ◌++◌, length, take, drop}
use Rattle.std.proofs.lemmas.List.{take_at, drop_at, drop-drop, length-append}
use Rattle.std.specs.Prelude.{flat_map}
use Rattle.std.specs.List.{range_with_len}

blocks : (f : ℕ → List ℕ) (b a count d : ℕ) → ((k : ℕ) → length (f k) ≡ b) → d < count → take b (drop (d * b) (flat_map f (range_with_len a count))) ≡ f (a + d)
blocks f b a zero d e h = absurd (omega arith)
blocks f b a (suc count) zero e h =
    let at : zero * b ≡ 0 = omega arith in
    let here : a + zero ≡ a = omega arith in
    rw (at, here) (take_at (f a) (flat_map f (range_with_len (a + 1) count)) b (e a))
blocks f b a (suc count) (suc d) e h =
    let at : suc d * b ≡ b + d * b = omega arith in
    let here : a + suc d ≡ a + 1 + d = omega arith in
    rw (at, here)
    (ap (take b) (sym (drop-drop (d * b) b (f a ++ flat_map f (range_with_len (a + 1) count))))
    ∙ ap (λ l. take b (drop (d * b) l)) (drop_at (f a) (flat_map f (range_with_len (a + 1) count)) b (e a))
    ∙ blocks f b (a + 1) count d e (omega arith))

-- block d after a prefix
pub block_after : (prefix : List ℕ) (f : ℕ → List ℕ) (n b count d : ℕ) → length prefix ≡ n → ((k : ℕ) → length (f k) ≡ b) → d < count →
    take b (drop (n + d * b) (prefix ++ flat_map f (range_with_len 0 count))) ≡ f d
block_after prefix f n b count d l e h =
    ap (take b) (sym (drop-drop (d * b) n (prefix ++ flat_map f (range_with_len 0 count))))
    ∙ ap (λ l. take b (drop (d * b) l)) (drop_at prefix (flat_map f (range_with_len 0 count)) n l)
    ∙ blocks f b 0 count d e h ∙ ap f (omega arith)

-- how long the blocks are together
pub length-blocks : (f : ℕ → List ℕ) (b a count : ℕ) → ((k : ℕ) → length (f k) ≡ b) → length (flat_map f (range_with_len a count)) ≡ count * b
length-blocks f b a zero e = omega arith
length-blocks f b a (suc count) e =
    let rest = length-blocks f b (a + 1) count e in
    let more : suc count * b ≡ b + count * b = omega arith in
    omega (arith, length-append (f a) (flat_map f (range_with_len (a + 1) count)), e a, rest, more)
