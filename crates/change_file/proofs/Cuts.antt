-- Files that are cut, and appended to.
use Rattle.std.proofs.Common.{◌≡◌, ℕ, ◌+◌, ◌-◌, ◌<◌, ◌≤◌, None, List, [], ◌∷◌, ◌++◌, length, take, drop, refl, sym, ap, subst, ◌∙◌, append_assoc, arith, inl, inr}
use Rattle.std.specs.Prelude.{nat_le}
use Rattle.std.proofs.Math.Seq.{take-append-add}
use Rattle.std.proofs.lemmas.Bool.{cond-true, cond-false, cond_both, le-leb, lt-leb, cases_lt}
use Rattle.std.proofs.lemmas.List.{length-append, length-take, drop_at, take-append-drop}
use Rattle.change_file.specs.Files.{HintMove, IsMove, AreMoves, is_prefix, block_bytes, block_len, block_body, blocks_bytes, change_magic, file_bytes, file_moves, first_block_link, first_move, changes_head, last_block_link, last_version, move_at, moves_in, next_block_link, tie_bytes, whole_in}
use Rattle.change_file.specs.Laws.{AppendAddsAMove, CutFileIsRead}
use Rattle.change_file.proofs.Bodies.{prefix_from, prefix_not, first_none, length-block, length-sha256, move_back}
use Rattle.change_file.proofs.Chains.{all_written, moves_none, none_of_none, one_written, read_is_there}

pub length-magic : length change_magic ≡ 8
unfolding change_magic
length-magic = refl

pub length-head : (digest : List ℕ) → length digest ≡ 32 → length (changes_head digest) ≡ 72
length-head digest len =
    omega (arith, len, length-append (tie_bytes digest) (first_block_link digest), length-append change_magic digest, length-magic, length-sha256 (tie_bytes digest))

-- bytes that begin with a head
pub head_first : (digest bytes rest : List ℕ) → length digest ≡ 32 → bytes ≡ changes_head digest ++ rest → bytes ≡ changes_head digest ++ drop 72 bytes
head_first digest bytes rest len e =
    e ∙ ap (λ (x : List ℕ). changes_head digest ++ x) (sym (ap (drop 72) e ∙ drop_at (changes_head digest) rest 72 (length-head digest len)))

-- a part of a list up to a place after its beginning
take_after : (a b : List ℕ) (n : ℕ) → length a ≤ n → take n (a ++ b) ≡ a ++ take (n - length a) b
take_after a b n le =
    let place : n ≡ length a + (n - length a) = omega arith in
    ap (λ (k : ℕ). take k (a ++ b)) place ∙ take-append-add a b (n - length a)

-- ---- what is read of a file by its head

pub with_head : (digest bytes rest : List ℕ) (version : ℕ) → length digest ≡ 32 → bytes ≡ changes_head digest ++ rest →
    file_moves digest version bytes ≡ moves_in (first_block_link digest) version rest
with_head digest bytes rest version len e =
    cond-true (is_prefix (changes_head digest) bytes) (moves_in (first_block_link digest) version (drop 72 bytes)) [] (prefix_from (changes_head digest) bytes rest e)
    ∙ ap (moves_in (first_block_link digest) version) (ap (drop 72) e ∙ drop_at (changes_head digest) rest 72 (length-head digest len))

pub with_none : (digest bytes : List ℕ) (version : ℕ) → ((rest : List ℕ) → bytes ≡ changes_head digest ++ rest → ⊥) → file_moves digest version bytes ≡ []
with_none digest bytes version none =
    cond-false (is_prefix (changes_head digest) bytes) (moves_in (first_block_link digest) version (drop 72 bytes)) [] (prefix_not (changes_head digest) bytes none)

-- ---- cuts

-- a block that is cut is none
cut_none : (link more : List ℕ) (m : HintMove) (n : ℕ) → IsMove m → n < block_len m → first_move link m.since (take n (block_bytes link m ++ more)) ≡ None
cut_none link more m n is lt =
    let all : List ℕ = block_bytes link m ++ more in
    let named : move_at all ≡ m = ap move_at (append_assoc (block_body m) (next_block_link link m) more) ∙ move_back m (next_block_link link m ++ more) is in
    first_none link (take n all) m.since (λ other rest io follows e.
    let whole : all ≡ block_body other ++ (next_block_link link other ++ (rest ++ drop n all)) =
    sym (take-append-drop n all)
    ∙ ap (λ (x : List ℕ). x ++ drop n all) e
    ∙ append_assoc (block_bytes link other) rest (drop n all)
    ∙ append_assoc (block_body other) (next_block_link link other) (rest ++ drop n all) in
    let same : other ≡ m = sym (move_back other (next_block_link link other ++ (rest ++ drop n all)) io) ∙ ap move_at (sym whole) ∙ named in
    absurd (omega (
      arith,
      lt,
      ap (λ (x : HintMove). block_len x) same,
      ap length e,
      length-append (block_bytes link other) rest,
      length-block link other,
      length-take n all,
    )))

-- the blocks that are whole in n bytes, if the first is
cut_after : (link : List ℕ) (version n : ℕ) (m : HintMove) (ms : List HintMove) → IsMove m → m.since ≡ version → block_len m ≤ n →
    moves_in (next_block_link link m) m.version (take (n - block_len m) (blocks_bytes (next_block_link link m) ms)) ≡ whole_in (n - block_len m) ms →
    moves_in link version (take n (blocks_bytes link (m ∷ ms))) ≡ whole_in n (m ∷ ms)
cut_after link version n m ms is follows le more =
    let rest : List ℕ = blocks_bytes (next_block_link link m) ms in
    ap (moves_in link version) (
    take_after (block_bytes link m) rest n (omega (arith, le, length-block link m))
    ∙ ap (λ (k : ℕ). block_bytes link m ++ take (n - k) rest) (length-block link m)
    )
    ∙ one_written link (take (n - block_len m) rest) version m is follows
    ∙ ap (λ (x : List HintMove). m ∷ x) more
    ∙ sym (cond-true (nat_le (block_len m) n) (m ∷ whole_in (n - block_len m) ms) [] (le-leb (block_len m) n le))

-- and none, if the first is cut
cut_within : (link : List ℕ) (version n : ℕ) (m : HintMove) (ms : List HintMove) → IsMove m → m.since ≡ version → n < block_len m →
    moves_in link version (take n (blocks_bytes link (m ∷ ms))) ≡ whole_in n (m ∷ ms)
cut_within link version n m ms is follows lt =
    let bytes : List ℕ = take n (blocks_bytes link (m ∷ ms)) in
    let none : first_move link version bytes ≡ None =
    subst (λ (v : ℕ). first_move link v bytes ≡ None) follows (cut_none link (blocks_bytes (next_block_link link m) ms) m n is lt) in
    moves_none (length bytes) link bytes version none
    ∙ sym (cond-false (nat_le (block_len m) n) (m ∷ whole_in (n - block_len m) ms) [] (lt-leb (block_len m) n lt))

pub cut_chain : (link : List ℕ) (version n : ℕ) (ms : List HintMove) → AreMoves version ms → moves_in link version (take n (blocks_bytes link ms)) ≡ whole_in n ms
cut_chain link version n [] each =
    let bytes : List ℕ = take n [] in
    moves_none (length bytes) link bytes version (none_of_none link bytes version (omega (arith, length-take {A = ℕ} n [])))
cut_chain link version n (m ∷ ms) each = elim (cases_lt n (block_len m)) [
  | inl lt ↦ cut_within link version n m ms each.0 each.1 lt
  | inr le ↦ cut_after link version n m ms each.0 each.1 le (cut_chain (next_block_link link m) m.version (n - block_len m) ms each.2)
]

-- no block is whole in no bytes
none_whole : (ms : List HintMove) → whole_in 0 ms ≡ []
none_whole [] = refl
none_whole (m ∷ ms) = cond-false (nat_le (block_len m) 0) (m ∷ whole_in (0 - block_len m) ms) [] (lt-leb (block_len m) 0 (omega arith))

-- a file that is cut in its head
cut_head : (digest : List ℕ) (version n : ℕ) (ms : List HintMove) → length digest ≡ 32 → n < 72 → file_moves digest version (take n (file_bytes digest ms)) ≡ whole_in (n - 72) ms
cut_head digest version n ms len lt =
    let bytes : List ℕ = take n (file_bytes digest ms) in
    let zero : n - 72 ≡ 0 = omega arith in
    with_none digest bytes version (λ rest e.
    absurd (omega (arith, lt, ap length e, length-append (changes_head digest) rest, length-head digest len, length-take n (file_bytes digest ms))))
    ∙ sym (none_whole ms)
    ∙ ap (λ (k : ℕ). whole_in k ms) (sym zero)

-- a file that is cut after its head
cut_later : (digest : List ℕ) (version n : ℕ) (ms : List HintMove) → length digest ≡ 32 → AreMoves version ms → 72 ≤ n →
    file_moves digest version (take n (file_bytes digest ms)) ≡ whole_in (n - 72) ms
cut_later digest version n ms len each le =
    let chain : List ℕ = blocks_bytes (first_block_link digest) ms in
    with_head digest (take n (file_bytes digest ms)) (take (n - 72) chain) version len (
    take_after (changes_head digest) chain n (omega (arith, le, length-head digest len))
    ∙ ap (λ (k : ℕ). changes_head digest ++ take (n - k) chain) (length-head digest len)
    )
    ∙ cut_chain (first_block_link digest) version (n - 72) ms each

pub cut_file : CutFileIsRead
cut_file digest version n ms len each = elim (cases_lt n 72) [
  | inl lt ↦ cut_head digest version n ms len lt
  | inr le ↦ cut_later digest version n ms len each le
]

-- ---- a file with its head, and what is read of it

pub file_parts : (digest more : List ℕ) (ms : List HintMove) → file_bytes digest ms ++ more ≡ changes_head digest ++ (blocks_bytes (first_block_link digest) ms ++ more)
file_parts digest more ms = append_assoc (changes_head digest) (blocks_bytes (first_block_link digest) ms) more

-- moves of a file lead on from the version
pub file_leads : (digest bytes : List ℕ) (version : ℕ) → AreMoves version (file_moves digest version bytes)
file_leads digest bytes version =
    cond_both (is_prefix (changes_head digest) bytes) (moves_in (first_block_link digest) version (drop 72 bytes)) [] (λ ms. AreMoves version ms)
    (λ it. (read_is_there (first_block_link digest) (drop 72 bytes) version).each) (λ it. tt)

pub append_adds : AppendAddsAMove
append_adds digest bytes more version ms m len e is follows =
    let last : List ℕ = last_block_link (first_block_link digest) ms in
    let each : AreMoves version ms = subst (λ (x : List HintMove). AreMoves version x) (sym e) (file_leads digest bytes version) in
    with_head digest (file_bytes digest ms ++ (block_bytes last m ++ more)) (blocks_bytes (first_block_link digest) ms ++ (block_bytes last m ++ more)) version len
    (file_parts digest (block_bytes last m ++ more) ms)
    ∙ all_written (first_block_link digest) (block_bytes last m ++ more) version ms each
    ∙ ap (λ (x : List HintMove). ms ++ x) (one_written last more (last_version version ms) m is follows)
