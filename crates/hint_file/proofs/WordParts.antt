-- The bytes of some of the words, and the digests of their parts.
use Rattle.std.proofs.Common.{◌≡◌, ℕ, zero, suc, ◌+◌, ◌*◌, ◌<◌, List, [], ◌∷◌, ◌++◌, length, take, drop, min, refl, sym, ap, ◌∙◌, append_assoc, arith}
use Rattle.std.proofs.Math.Seq.{take-append-add}
use Rattle.std.proofs.lemmas.List.{length-drop, drop-drop, take_all, nil_from_length, take-append-drop}
use Rattle.sha2.specs.Sha256.{sha256}
use Rattle.frame_codec.specs.Numbers.{number_bytes, word_bytes}
use Rattle.frame_codec.proofs.NumberBytes.{length-number, length-words, drop_number, word_bytes-cons, words_split}
use Rattle.hint_file.specs.Files.{part_digests}
use Rattle.hint_file.proofs.PartDigests.{digests_more, digests_none}

none_past : (n : ℕ) → drop n (word_bytes []) ≡ word_bytes []
unfolding word_bytes
none_past n = nil_from_length (drop n (word_bytes [])) (omega (arith, length-drop n (word_bytes []), length-words []))

no_words : [] ≡ word_bytes []
unfolding word_bytes
no_words = refl

pub drop_words : (k : ℕ) (ws : List ℕ) → drop (4 * k) (word_bytes ws) ≡ word_bytes (drop k ws)
drop_words zero ws = refl
drop_words (suc k) [] = none_past (4 * suc k)
drop_words (suc k) (w ∷ ws) =
    let place : 4 * suc k ≡ 4 + 4 * k = omega arith in
    ap (λ (n : ℕ). drop n (word_bytes (w ∷ ws))) place
    ∙ sym (drop-drop (4 * k) 4 (word_bytes (w ∷ ws)))
    ∙ ap (drop (4 * k)) (ap (drop 4) (word_bytes-cons w ws) ∙ drop_number 4 w (word_bytes ws))
    ∙ drop_words k ws

pub take_words : (k : ℕ) (ws : List ℕ) → take (4 * k) (word_bytes ws) ≡ word_bytes (take k ws)
take_words zero ws = no_words
take_words (suc k) [] = take_all (4 * suc k) (word_bytes []) (omega (arith, length-words []))
take_words (suc k) (w ∷ ws) =
    let place : 4 * suc k ≡ length (number_bytes 4 w) + 4 * k = omega (arith, length-number 4 w) in
    ap (λ (x : List ℕ). take (4 * suc k) x) (word_bytes-cons w ws)
    ∙ ap (λ (n : ℕ). take n (number_bytes 4 w ++ word_bytes ws)) place
    ∙ take-append-add (number_bytes 4 w) (word_bytes ws) (4 * k)
    ∙ ap (λ (x : List ℕ). number_bytes 4 w ++ x) (take_words k ws)
    ∙ sym (word_bytes-cons w (take k ws))

-- ---- the words of the first part and the others

-- all bytes are those of the first words, and then those of the others
pub words_cut : (words part beyond bytes : List ℕ) (m : ℕ) → part ≡ take m words → beyond ≡ drop m words → bytes ≡ word_bytes part →
    word_bytes words ≡ bytes ++ word_bytes beyond
words_cut words part beyond bytes m front back is =
    ap word_bytes (sym (take-append-drop m words))
    ∙ words_split (take m words) (drop m words)
    ∙ ap (λ (x : List ℕ). word_bytes x ++ word_bytes (drop m words)) (sym front)
    ∙ ap (λ (x : List ℕ). word_bytes part ++ word_bytes x) (sym back)
    ∙ ap (λ (x : List ℕ). x ++ word_bytes beyond) (sym is)

-- one digest more is that of the first part's bytes
pub digests_on_words : (words part beyond bytes out digest more : List ℕ) (m : ℕ) → 0 < length words → m ≡ min (length words) 65536 → part ≡ take m words →
    beyond ≡ drop m words → bytes ≡ word_bytes part → digest ≡ sha256 bytes → more ≡ out ++ digest →
    more ++ part_digests (word_bytes beyond) ≡ out ++ part_digests (word_bytes words)
digests_on_words words part beyond bytes out digest more m some cut front back is hash added =
    let place : 4 * m ≡ min (length (word_bytes words)) 262144 = omega (arith, cut, length-words words) in
    let here : digest ≡ sha256 (take (4 * m) (word_bytes words)) = hash ∙ ap sha256 (is ∙ ap word_bytes front ∙ sym (take_words m words)) in
    let others : word_bytes beyond ≡ drop (4 * m) (word_bytes words) = ap word_bytes back ∙ sym (drop_words m words) in
    ap (λ (x : List ℕ). x ++ part_digests (word_bytes beyond)) added
    ∙ append_assoc out digest (part_digests (word_bytes beyond))
    ∙ ap (λ (x : List ℕ). out ++ (x ++ part_digests (word_bytes beyond))) here
    ∙ ap (λ (x : List ℕ). out ++ (sha256 (take (4 * m) (word_bytes words)) ++ part_digests x)) others
    ∙ ap (λ (x : List ℕ). out ++ x) (digests_more (word_bytes words) (4 * m) (omega (arith, some, length-words words)) place)

-- no words have no digests
pub digests_of_none : (out words : List ℕ) → words ≡ [] → out ++ part_digests (word_bytes words) ≡ out
digests_of_none out words e = digests_none out (word_bytes words) (ap word_bytes e ∙ sym no_words)
