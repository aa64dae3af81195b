-- Words that were read among zeros.
use Rattle.std.proofs.Common.{◌≡◌, ℕ, ◌+◌, ◌*◌, ◌^◌, ◌<◌, List, ◌++◌, All, length, slice_index, take, drop, sym, ap, ◌∙◌, arith}
use Rattle.std.specs.Prelude.{replicate}
use Rattle.std.proofs.lemmas.List.{length-append, length-replicate, length-drop, take_at, drop_at, drop-drop}
use Rattle.std.proofs.lemmas.Grind.{elements}
use Rattle.byteorder.specs.Endian.{little_number, IsRead}
use Rattle.frame_codec.specs.Numbers.{number_in}
use Rattle.frame_codec.proofs.NumberBytes.{IsBytes, IsBytes-drop, number_in-lt}
use Rattle.hint_file.specs.Reading.{among_zeros}

-- a word that was read has 32 bits
one_small : (ws bytes : List ℕ) → IsBytes bytes → length bytes ≡ 4 * length ws → IsRead little_number 4 bytes ws → (k : ℕ) → k < length ws →
    slice_index ws k < 2 ^ 32
unfolding number_in
one_small ws bytes fits len read k lt =
    rw (read k lt) (number_in-lt 4 (drop (4 * k) bytes) (IsBytes-drop (4 * k) bytes fits) (omega (arith, len, lt, length-drop (4 * k) bytes)))

pub words_small : (ws bytes : List ℕ) → IsBytes bytes → length bytes ≡ 4 * length ws → IsRead little_number 4 bytes ws → All (λ w. w < 2 ^ 32) ws
words_small ws bytes fits len read = grind (arith, elements, one_small ws bytes fits len read)

-- what comes before, the words, and what comes after, of so many zeros
pub among : (total start n : ℕ) (items before rest words after ws : List ℕ) → items ≡ replicate total 0 → items ≡ before ++ rest → rest ≡ words ++ after →
    length before ≡ start → length words ≡ n → length ws ≡ n → before ++ (ws ++ after) ≡ among_zeros total start ws
among total start n items before rest words after ws zeros cut cut2 lb lw lws =
    let front : before ≡ take start (replicate total 0) = sym (take_at before rest start lb) ∙ ap (take start) (sym cut ∙ zeros) in
    let behind : rest ≡ drop start (replicate total 0) = sym (drop_at before rest start lb) ∙ ap (drop start) (sym cut ∙ zeros) in
    let last : after ≡ drop (start + length ws) (replicate total 0) =
    sym (drop_at words after n lw) ∙ ap (drop n) (sym cut2 ∙ behind) ∙ drop-drop n start (replicate total 0)
    ∙ ap (λ (x : ℕ). drop (start + x) (replicate total 0)) (sym lws) in
    ap (λ (x : List ℕ). x ++ (ws ++ after)) front ∙ ap (λ (x : List ℕ). take start (replicate total 0) ++ (ws ++ x)) last

-- they are as many as the zeros were
pub as_long : (total n : ℕ) (items before rest words after ws : List ℕ) → items ≡ replicate total 0 → items ≡ before ++ rest → rest ≡ words ++ after →
    length words ≡ n → length ws ≡ n → length (before ++ (ws ++ after)) ≡ total
as_long total n items before rest words after ws zeros cut cut2 lw lws =
    let zero_count : length {A = ℕ} (replicate total 0) ≡ total = length-replicate total 0 in
    omega (
      arith,
      ap length zeros,
      zero_count,
      ap length cut,
      length-append before rest,
      ap length cut2,
      length-append words after,
      lw,
      lws,
      length-append before (ws ++ after),
      length-append ws after,
    )
