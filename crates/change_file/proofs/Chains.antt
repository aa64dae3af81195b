-- Blocks one after another, as they are read.
use Rattle.std.proofs.Common.{◌≡◌, ℕ, zero, suc, ◌+◌, ◌≤◌, Option, Some, None, List, [], ◌∷◌, ◌++◌, length, drop, refl, sym, ap, subst, ◌∙◌, append_assoc, append-nil, arith}
use Rattle.std.specs.Prelude.{MatchOption}
use Rattle.std.proofs.lemmas.List.{length-append, drop_at}
use Rattle.change_file.specs.Files.{HintMove, IsMove, AreMoves, block_bytes, block_len, blocks_bytes, first_move, first_moves, last_block_link, last_version, moves_in, next_block_link, with_more}
use Rattle.change_file.specs.Laws.{IsReading}
use Rattle.change_file.proofs.Bodies.{IsFound, first_back, first_found, first_none, length-block}

-- the bytes have room for the block that was found
pub room_for : (link bytes : List ℕ) (version : ℕ) (m : HintMove) → IsFound link version bytes m → length (drop (block_len m) bytes) + block_len m ≡ length bytes
room_for link bytes version m is =
    omega (arith, ap length is.whole, length-append (block_bytes link m) (drop (block_len m) bytes), length-block link m)

-- no block is at the beginning
pub moves_none : (n : ℕ) (link bytes : List ℕ) (version : ℕ) → first_move link version bytes ≡ None → first_moves n link version bytes ≡ []
unfolding first_moves
moves_none zero link bytes version e = refl
moves_none (suc n) link bytes version e =
    ap (λ (o : Option HintMove). with_more o (λ m. first_moves n (next_block_link link m) m.version (drop (block_len m) bytes))) e

-- this block is
pub moves_some : (n : ℕ) (link bytes : List ℕ) (version : ℕ) (m : HintMove) → first_move link version bytes ≡ Some m →
    first_moves (suc n) link version bytes ≡ m ∷ first_moves n (next_block_link link m) m.version (drop (block_len m) bytes)
unfolding first_moves
moves_some n link bytes version m e =
    ap (λ (o : Option HintMove). with_more o (λ m. first_moves n (next_block_link link m) m.version (drop (block_len m) bytes))) e

-- no bytes have no block
pub none_of_none : (link bytes : List ℕ) (version : ℕ) → length bytes ≡ 0 → first_move link version bytes ≡ None
none_of_none link bytes version len = first_none link bytes version (λ m more is follows e.
    absurd (omega (arith, len, ap length e, length-append (block_bytes link m) more, length-block link m)))

-- there are no more moves than bytes
pub moves_enough : (n k : ℕ) (link bytes : List ℕ) (version : ℕ) → length bytes ≤ n → length bytes ≤ k →
    first_moves n link version bytes ≡ first_moves k link version bytes
moves_enough zero k link bytes version le le2 =
    let none = none_of_none link bytes version (omega arith) in
    moves_none zero link bytes version none ∙ sym (moves_none k link bytes version none)
moves_enough (suc n) zero link bytes version le le2 =
    let none = none_of_none link bytes version (omega arith) in
    moves_none (suc n) link bytes version none ∙ sym (moves_none zero link bytes version none)
moves_enough (suc n) (suc k) link bytes version le le2 = by_case (first_move link version bytes) refl
    (λ m room. moves_enough n k (next_block_link link m) (drop (block_len m) bytes) m.version (omega (arith, room)) (omega (arith, room)))
  where
    by_case : (found : Option HintMove) → first_move link version bytes ≡ found
        → ((m : HintMove) → length (drop (block_len m) bytes) + block_len m ≡ length bytes → first_moves n (next_block_link link m) m.version (drop (block_len m) bytes)
        ≡ first_moves k (next_block_link link m) m.version (drop (block_len m) bytes))
        → first_moves (suc n) link version bytes ≡ first_moves (suc k) link version bytes
    by_case None e again = moves_none (suc n) link bytes version e ∙ sym (moves_none (suc k) link bytes version e)
    by_case (Some m) e again =
        moves_some n link bytes version m e
        ∙ ap (λ (ms : List HintMove). m ∷ ms) (again m (room_for link bytes version m (first_found link bytes version m e)))
        ∙ sym (moves_some k link bytes version m e)

-- the first move and the others
pub moves_more : (link bytes : List ℕ) (version : ℕ) (m : HintMove) → first_move link version bytes ≡ Some m →
    moves_in link version bytes ≡ m ∷ moves_in (next_block_link link m) m.version (drop (block_len m) bytes)
moves_more link bytes version m e =
    let room = room_for link bytes version m (first_found link bytes version m e) in
    moves_enough (length bytes) (suc (length bytes)) link bytes version (omega arith) (omega arith)
    ∙ moves_some (length bytes) link bytes version m e
    ∙ ap (λ (ms : List HintMove). m ∷ ms)
    (moves_enough (length bytes) (length (drop (block_len m) bytes)) (next_block_link link m) (drop (block_len m) bytes) m.version (omega (arith, room)) (omega arith))

pub one_by_one : (link bytes : List ℕ) (version : ℕ) → MatchOption (first_move link version bytes) (moves_in link version bytes ≡ [])
    (λ m. moves_in link version bytes ≡ m ∷ moves_in (next_block_link link m) m.version (drop (block_len m) bytes))
one_by_one link bytes version = by_case (first_move link version bytes) refl
  where
    by_case : (found : Option HintMove) → first_move link version bytes ≡ found → MatchOption found (moves_in link version bytes ≡ [])
        (λ m. moves_in link version bytes ≡ m ∷ moves_in (next_block_link link m) m.version (drop (block_len m) bytes))
    by_case None e = moves_none (length bytes) link bytes version e
    by_case (Some m) e = moves_more link bytes version m e

-- a block that was written is the first that is read, from the version that it is since
pub one_written : (link more : List ℕ) (version : ℕ) (m : HintMove) → IsMove m → m.since ≡ version →
    moves_in link version (block_bytes link m ++ more) ≡ m ∷ moves_in (next_block_link link m) m.version more
one_written link more version m is follows =
    let found : first_move link version (block_bytes link m ++ more) ≡ Some m =
    subst (λ (v : ℕ). first_move link v (block_bytes link m ++ more) ≡ Some m) follows (first_back link more m is) in
    moves_more link (block_bytes link m ++ more) version m found
    ∙ ap (λ (x : List ℕ). m ∷ moves_in (next_block_link link m) m.version x) (drop_at (block_bytes link m) more (block_len m) (length-block link m))

-- blocks that were written are read first
pub all_written : (link more : List ℕ) (version : ℕ) (ms : List HintMove) → AreMoves version ms →
    moves_in link version (blocks_bytes link ms ++ more) ≡ ms ++ moves_in (last_block_link link ms) (last_version version ms) more
all_written link more version [] each = refl
all_written link more version (m ∷ ms) each =
    ap (moves_in link version) (append_assoc (block_bytes link m) (blocks_bytes (next_block_link link m) ms) more)
    ∙ one_written link (blocks_bytes (next_block_link link m) ms ++ more) version m each.0 each.1
    ∙ ap (λ (x : List HintMove). m ∷ x) (all_written (next_block_link link m) more m.version ms each.2)

-- ---- what is read is there

-- what is read of bytes, with some rest
abbrev pub HasReading : List ℕ → ℕ → List ℕ → List HintMove → Type 0
HasReading link version bytes ms = (rest : List ℕ) × IsReading link version bytes ms rest

no_more : (link bytes : List ℕ) (version : ℕ) → first_move link version bytes ≡ None → IsReading link version bytes [] bytes
no_more link bytes version none = record {
  whole = refl;
  each = tt;
  last = λ m more is follows e.
      let found : first_move link version bytes ≡ Some m =
      ap (first_move link version) e ∙ subst (λ (v : ℕ). first_move link v (block_bytes link m ++ more) ≡ Some m) follows (first_back link more m is) in
      absurd (let apart : None ≡ Some m = sym none ∙ found in cc);
}

one_more : (link bytes rest : List ℕ) (version : ℕ) (m : HintMove) (ms : List HintMove) → IsFound link version bytes m →
    IsReading (next_block_link link m) m.version (drop (block_len m) bytes) ms rest → IsReading link version bytes (m ∷ ms) rest
one_more link bytes rest version m ms is more = record {
  whole = is.whole
      ∙ ap (λ (x : List ℕ). block_bytes link m ++ x) more.whole
      ∙ sym (append_assoc (block_bytes link m) (blocks_bytes (next_block_link link m) ms) rest);
  each = (is.is, is.follows, more.each);
  last = more.last;
}

has_reading : (n : ℕ) (link bytes : List ℕ) (version : ℕ) → length bytes ≤ n → HasReading link version bytes (moves_in link version bytes)
has_reading zero link bytes version le =
    let none = none_of_none link bytes version (omega arith) in
    (bytes, subst (λ (ms : List HintMove). IsReading link version bytes ms bytes) (sym (moves_none (length bytes) link bytes version none)) (no_more link bytes version none))
has_reading (suc n) link bytes version le = by_case (first_move link version bytes) refl
    (λ m room. has_reading n (next_block_link link m) (drop (block_len m) bytes) m.version (omega (arith, room)))
  where
    by_case : (found : Option HintMove) → first_move link version bytes ≡ found
        → ((m : HintMove) → length (drop (block_len m) bytes) + block_len m ≡ length bytes
        → HasReading (next_block_link link m) m.version (drop (block_len m) bytes) (moves_in (next_block_link link m) m.version (drop (block_len m) bytes)))
        → HasReading link version bytes (moves_in link version bytes)
    by_case None none again =
        (bytes, subst (λ (ms : List HintMove). IsReading link version bytes ms bytes) (sym (moves_none (length bytes) link bytes version none)) (no_more link bytes version none))
    by_case (Some m) e again =
        let is = first_found link bytes version m e in
        let it = again m (room_for link bytes version m is) in
        (it.0, subst (λ (ms : List HintMove). IsReading link version bytes ms it.0) (sym (moves_more link bytes version m e)) (one_more link bytes it.0 version m _ is it.1))

pub read_is_there : (link bytes : List ℕ) (version : ℕ) →
    IsReading link version bytes (moves_in link version bytes) (drop (length (blocks_bytes link (moves_in link version bytes))) bytes)
read_is_there link bytes version =
    let it = has_reading (length bytes) link bytes version (omega arith) in
    let chain : List ℕ = blocks_bytes link (moves_in link version bytes) in
    let rest : drop (length chain) bytes ≡ it.0 = ap (drop (length chain)) it.1.whole ∙ drop_at chain it.0 (length chain) refl in
    subst (λ (x : List ℕ). IsReading link version bytes (moves_in link version bytes) x) (sym rest) it.1

-- and nothing else is
pub one_reading : (link bytes rest : List ℕ) (version : ℕ) (ms : List HintMove) → IsReading link version bytes ms rest → ms ≡ moves_in link version bytes
one_reading link bytes rest version ms is =
    let none = first_none (last_block_link link ms) rest (last_version version ms) is.last in
    sym (
    ap (moves_in link version) is.whole
    ∙ all_written link rest version ms is.each
    ∙ ap (λ (x : List HintMove). ms ++ x) (moves_none (length rest) (last_block_link link ms) rest (last_version version ms) none)
    ∙ append-nil ms
    )
