-- Blocks at the beginning of bytes.
use Rattle.std.proofs.Common.{◌≡◌, ◌≢◌, ℕ, zero, suc, ◌+◌, ◌*◌, ◌/◌, ◌%◌, ◌^◌, ◌<◌, ◌≤◌, ◌==◌, Bool, true, false, Option, Some, None, cond, List, ◌++◌, length, slice_index, take, drop, refl, sym, ap, subst, ◌∙◌, append_assoc, arith}
use Rattle.std.specs.Prelude.{◌&&◌}
use Rattle.std.specs.Int.{w32, to_be_bytes}
use Rattle.std.proofs.Math.Nat.{one-le-pow}
use Rattle.std.proofs.Math.Seq.{take-add}
use Rattle.std.proofs.lemmas.Bool.{and_parts, and_from, eqb-true, eq-eqb, cond-true}
use Rattle.std.proofs.lemmas.List.{length-append, length-drop, length-take, take-take, take_at, drop_at, take-append-drop, drop-drop}
use Rattle.std.proofs.lemmas.Slice.Eq.{bytes_eq-Decides}
use Rattle.byteorder.specs.Endian.{little_bytes, little_number}
use Rattle.byteorder.specs.Numbers.{little_from-bytes}
use Rattle.sha2.specs.Sha256.{sha256, digest_bytes}
use Rattle.frame_codec.specs.Numbers.{number_bytes, number_in}
use Rattle.frame_codec.proofs.NumberBytes.{IsBytes, IsBytes-drop, only_bytes, length-number, number_back, drop_number}
use Rattle.change_file.specs.Files.{HintMove, IsMove, is_prefix, block_bytes, block_len, block_body, first_move, move_at, next_block_link}

-- two lists are cut at the same place
pub cut_prefix : (a b x y : List ℕ) → length a ≡ length b → a ++ x ≡ b ++ y → (a ≡ b) × (x ≡ y)
cut_prefix a b x y len e = (
  sym (take_at a x (length b) len) ∙ ap (take (length b)) e ∙ take_at b y (length b) refl,
  sym (drop_at a x (length b) len) ∙ ap (drop (length b)) e ∙ drop_at b y (length b) refl,
)

length-digest_bytes : (h : List ℕ) (n : ℕ) → length (digest_bytes h n) ≡ 4 * n
unfolding digest_bytes
length-digest_bytes h zero = refl
length-digest_bytes h (suc n) =
    let four : length (to_be_bytes w32 (slice_index h n)) ≡ 4 = refl in
    let ih = length-digest_bytes h n in
    omega (arith, length-append (digest_bytes h n) (to_be_bytes w32 (slice_index h n)))

pub length-sha256 : (m : List ℕ) → length (sha256 m) ≡ 32
unfolding sha256
length-sha256 m = length-digest_bytes _ 8

pub length-body : (m : HintMove) → length (block_body m) ≡ length m.entries + 24
unfolding block_body
length-body m = simp (length-append, length-number) (omega arith)

pub length-block : (link : List ℕ) (m : HintMove) → length (block_bytes link m) ≡ block_len m
length-block link m =
    omega (arith, length-append (block_body m) (next_block_link link m), length-body m, length-sha256 (link ++ block_body m))

-- ---- the move that bytes name

made : ℕ → ℕ → ℕ → List ℕ → HintMove
made since version count entries = record { since = since; version = version; count = count; entries = entries }

same_move : (a b : HintMove) → a.since ≡ b.since → a.version ≡ b.version → a.count ≡ b.count → a.entries ≡ b.entries → a ≡ b
unfolding made
same_move a b since version count entries =
    ap (λ (x : ℕ). made x a.version a.count a.entries) since
    ∙ ap (λ (x : ℕ). made b.since x a.count a.entries) version
    ∙ ap (λ (x : ℕ). made b.since b.version x a.entries) count
    ∙ ap (λ (x : List ℕ). made b.since b.version b.count x) entries

-- what is in the bytes of a block, and after it
record HasFields (m : HintMove) (more bytes : List ℕ) : Type 0 where
  pub since : (rest : List ℕ) × (bytes ≡ number_bytes 8 m.since ++ rest)
  pub version : (rest : List ℕ) × (drop 8 bytes ≡ number_bytes 8 m.version ++ rest)
  pub count : (rest : List ℕ) × (drop 16 bytes ≡ number_bytes 4 m.count ++ rest)
  pub len : (rest : List ℕ) × (drop 20 bytes ≡ number_bytes 4 (length m.entries) ++ rest)
  pub entries : drop 24 bytes ≡ m.entries ++ more

fields_of : (m : HintMove) (more : List ℕ) → HasFields m more (block_body m ++ more)
unfolding block_body
fields_of m more =
    let bytes : List ℕ = block_body m ++ more in
    let rest4 : List ℕ = m.entries ++ more in
    let rest3 : List ℕ = number_bytes 4 (length m.entries) ++ rest4 in
    let rest2 : List ℕ = number_bytes 4 m.count ++ rest3 in
    let rest1 : List ℕ = number_bytes 8 m.version ++ rest2 in
    let at0 : bytes ≡ number_bytes 8 m.since ++ rest1 = simp append_assoc refl in
    let at8 : drop 8 bytes ≡ rest1 = ap (drop 8) at0 ∙ drop_number 8 m.since rest1 in
    let at16 : drop 16 bytes ≡ rest2 = sym (drop-drop 8 8 bytes) ∙ ap (drop 8) at8 ∙ drop_number 8 m.version rest2 in
    let at20 : drop 20 bytes ≡ rest3 = sym (drop-drop 4 16 bytes) ∙ ap (drop 4) at16 ∙ drop_number 4 m.count rest3 in
    let at24 : drop 24 bytes ≡ rest4 = sym (drop-drop 4 20 bytes) ∙ ap (drop 4) at20 ∙ drop_number 4 (length m.entries) rest4 in
    record { since = (rest1, at0); version = (rest2, at8); count = (rest3, at16); len = (rest4, at20); entries = at24 }

-- the bytes of a block name its move
pub move_back : (m : HintMove) (more : List ℕ) → IsMove m → move_at (block_body m ++ more) ≡ m
unfolding move_at
move_back m more is =
    let at = fields_of m more in
    let len : number_in 4 (drop 20 (block_body m ++ more)) ≡ length m.entries = ap (number_in 4) at.len.1 ∙ number_back 4 (length m.entries) at.len.0 is.len in
    same_move (move_at (block_body m ++ more)) m
    (ap (number_in 8) at.since.1 ∙ number_back 8 m.since at.since.0 is.since)
    (ap (number_in 8) at.version.1 ∙ number_back 8 m.version at.version.0 is.version)
    (ap (number_in 4) at.count.1 ∙ number_back 4 m.count at.count.0 is.count)
    (ap (λ (n : ℕ). take n (drop 24 (block_body m ++ more))) len ∙ ap (take (length m.entries)) at.entries ∙ take_at m.entries more (length m.entries) refl)

-- what is read back of a number has its range
read-lt : (n x k : ℕ) (bytes rest : List ℕ) → bytes ≡ number_bytes n x ++ rest → k ≡ number_in n bytes → k < 256 ^ n
unfolding number_in number_bytes
read-lt n x k bytes rest e is =
    let read : k ≡ x / 256 ^ 0 % 256 ^ n = is ∙ ap (number_in n) e ∙ little_from-bytes n 0 x rest in
    let some : 1 ≤ 256 ^ n = one-le-pow n 256 (omega arith) in
    omega (arith, read, some)

-- numbers that are read back of a block are in range
pub is_move : (m : HintMove) (more : List ℕ) → move_at (block_body m ++ more) ≡ m → IsMove m
unfolding move_at
is_move m more e =
    let at = fields_of m more in
    let bytes : List ℕ = block_body m ++ more in
    let len : number_in 4 (drop 20 bytes) < 256 ^ 4 = read-lt 4 (length m.entries) (number_in 4 (drop 20 bytes)) (drop 20 bytes) at.len.0 at.len.1 refl in
    record {
      since = read-lt 8 m.since m.since bytes at.since.0 at.since.1 (sym (ap (λ (x : HintMove). x.since) e));
      version = read-lt 8 m.version m.version (drop 8 bytes) at.version.0 at.version.1 (sym (ap (λ (x : HintMove). x.version) e));
      count = read-lt 4 m.count m.count (drop 16 bytes) at.count.0 at.count.1 (sym (ap (λ (x : HintMove). x.count) e));
      len = omega (arith, len, sym (ap (λ (x : HintMove). length x.entries) e), length-take (number_in 4 (drop 20 bytes)) (drop 24 bytes));
    }

-- the length of the entries comes before them
pub entries_len : (m : HintMove) (bytes more : List ℕ) → IsMove m → bytes ≡ block_body m ++ more → little_number 4 (drop 20 bytes) ≡ length m.entries
unfolding number_in
entries_len m bytes more is e =
    let at = fields_of m more in
    ap (λ (x : List ℕ). number_in 4 (drop 20 x)) e ∙ ap (number_in 4) at.len.1 ∙ number_back 4 (length m.entries) at.len.0 is.len

-- a number after the bytes before it
number_after : (n x k : ℕ) (bytes : List ℕ) → IsBytes bytes → k + n ≤ length bytes → x ≡ little_number n (drop k bytes)
    → take k bytes ++ number_bytes n x ≡ take (k + n) bytes
unfolding number_bytes
number_after n x k bytes each le e =
    let room : n ≤ length (drop k bytes) = omega (arith, length-drop k bytes) in
    let encoded : little_bytes n x ≡ take n (drop k bytes) = ap (little_bytes n) e ∙ only_bytes n (drop k bytes) (IsBytes-drop k bytes each) room in
    ap (λ (y : List ℕ). take k bytes ++ y) encoded ∙ sym (take-add k n bytes)

-- a move that was read encodes its bytes
pub body_read : (m : HintMove) (bytes body : List ℕ) (n : ℕ) → IsBytes bytes → length body ≡ 24 + n → body ≡ take (24 + n) bytes → 24 + n ≤ length bytes
    → m.since ≡ little_number 8 bytes → m.version ≡ little_number 8 (drop 8 bytes) → m.count ≡ little_number 4 (drop 16 bytes)
    → n ≡ little_number 4 (drop 20 bytes) → m.entries ≡ drop 24 body → body ≡ block_body m
unfolding block_body
body_read m bytes body n each len is le since version count length_read entries =
    let as_many : length m.entries ≡ n = omega (arith, len, ap length entries, length-drop 24 body) in
    let at8 : number_bytes 8 m.since ≡ take 8 bytes = number_after 8 m.since 0 bytes each (omega arith) since in
    let at16 = ap (λ (x : List ℕ). x ++ number_bytes 8 m.version) at8 ∙ number_after 8 m.version 8 bytes each (omega arith) version in
    let at20 = ap (λ (x : List ℕ). x ++ number_bytes 4 m.count) at16 ∙ number_after 4 m.count 16 bytes each (omega arith) count in
    let at24 = ap (λ (x : List ℕ). x ++ number_bytes 4 (length m.entries)) at20
    ∙ number_after 4 (length m.entries) 20 bytes each (omega arith) (as_many ∙ length_read) in
    let begin : take 24 body ≡ take 24 bytes = ap (take 24) is ∙ take-take 24 (24 + n) bytes (omega arith) in
    sym (
    ap (λ (x : List ℕ). x ++ m.entries) (at24 ∙ sym begin)
    ∙ ap (λ (x : List ℕ). take 24 body ++ x) entries
    ∙ take-append-drop 24 body
    )

-- ---- bytes that begin with others

pub prefix_parts : (first bytes : List ℕ) → is_prefix first bytes ≡ true → bytes ≡ first ++ drop (length first) bytes
prefix_parts first bytes it =
    sym (take-append-drop (length first) bytes)
    ∙ ap (λ (x : List ℕ). x ++ drop (length first) bytes) ((bytes_eq-Decides (take (length first) bytes) first).0 it)

pub prefix_from : (first bytes rest : List ℕ) → bytes ≡ first ++ rest → is_prefix first bytes ≡ true
prefix_from first bytes rest e =
    (bytes_eq-Decides (take (length first) bytes) first).1 (ap (take (length first)) e ∙ take_at first rest (length first) refl)

pub prefix_not : (first bytes : List ℕ) → ((rest : List ℕ) → bytes ≢ first ++ rest) → is_prefix first bytes ≡ false
prefix_not first bytes none = by_case (is_prefix first bytes) refl
  where
    by_case : (b : Bool) → is_prefix first bytes ≡ b → b ≡ false
    by_case false e = refl
    by_case true e = absurd (none (drop (length first) bytes) (prefix_parts first bytes e))

-- ---- the first move

-- a block that was written is found
pub first_back : (link more : List ℕ) (m : HintMove) → IsMove m → first_move link m.since (block_bytes link m ++ more) ≡ Some m
unfolding first_move
first_back link more m is =
    let bytes : List ℕ = block_bytes link m ++ more in
    let at : move_at bytes ≡ m = ap move_at (append_assoc (block_body m) (next_block_link link m) more) ∙ move_back m (next_block_link link m ++ more) is in
    let begun = prefix_from (block_bytes link (move_at bytes)) bytes more (ap (λ (x : HintMove). block_bytes link x ++ more) (sym at)) in
    let same = eq-eqb (move_at bytes).since m.since (ap (λ (x : HintMove). x.since) at) in
    cond-true _ (Some (move_at bytes)) None (and_from _ _ begun same) ∙ ap Some at

-- a block that was found
pub record IsFound (link : List ℕ) (version : ℕ) (bytes : List ℕ) (m : HintMove) : Type 0 where
  pub is : IsMove m
  pub follows : m.since ≡ version
  pub whole : bytes ≡ block_bytes link m ++ drop (block_len m) bytes

was_some : (b : Bool) (a m : HintMove) → cond b (Some a) None ≡ Some m → (b ≡ true) × (a ≡ m)
was_some true a m e = (refl, cc)
was_some false a m e = absurd (cc)

pub first_found : (link bytes : List ℕ) (version : ℕ) (m : HintMove) → first_move link version bytes ≡ Some m → IsFound link version bytes m
unfolding first_move
first_found link bytes version m e =
    let was = was_some (is_prefix (block_bytes link (move_at bytes)) bytes && ((move_at bytes).since == version)) (move_at bytes) m e in
    let parts = and_parts (is_prefix (block_bytes link (move_at bytes)) bytes) ((move_at bytes).since == version) was.0 in
    let begun : bytes ≡ block_bytes link m ++ drop (length (block_bytes link m)) bytes =
    subst (λ (x : HintMove). bytes ≡ block_bytes link x ++ drop (length (block_bytes link x)) bytes) was.1
    (prefix_parts (block_bytes link (move_at bytes)) bytes parts.0) in
    let whole : bytes ≡ block_bytes link m ++ drop (block_len m) bytes =
    begun ∙ ap (λ (n : ℕ). block_bytes link m ++ drop n bytes) (length-block link m) in
    let named : move_at (block_body m ++ (next_block_link link m ++ drop (block_len m) bytes)) ≡ m =
    ap move_at (sym (append_assoc (block_body m) (next_block_link link m) (drop (block_len m) bytes))) ∙ ap move_at (sym whole) ∙ was.1 in
    record {
      is = is_move m (next_block_link link m ++ drop (block_len m) bytes) named;
      follows = sym (ap (λ (x : HintMove). x.since) was.1) ∙ eqb-true (move_at bytes).since version parts.1;
      whole = whole;
    }

-- no two blocks are at one place
pub one_block : (m other : HintMove) (a b x y : List ℕ) → IsMove m → IsMove other → length a ≡ length b → block_body m ++ (a ++ x) ≡ block_body other ++ (b ++ y) →
    (m ≡ other) × (a ≡ b)
one_block m other a b x y is io len e =
    let same : m ≡ other = sym (move_back m (a ++ x) is) ∙ ap move_at e ∙ move_back other (b ++ y) io in
    let after = cut_prefix (block_body m) (block_body other) (a ++ x) (b ++ y) (ap (λ (k : HintMove). length (block_body k)) same) e in
    (same, (cut_prefix a b x y len after.1).0)

-- what was taken apart is a block
pub block_joined : (link bytes body digest rest : List ℕ) (m : HintMove) → body ≡ block_body m → digest ≡ sha256 (link ++ body) → bytes ≡ body ++ (digest ++ rest) →
    bytes ≡ block_bytes link m ++ rest
block_joined link bytes body digest rest m is linked e =
    e
    ∙ ap (λ (x : List ℕ). body ++ (x ++ rest)) linked
    ∙ ap (λ (x : List ℕ). x ++ (sha256 (link ++ x) ++ rest)) is
    ∙ sym (append_assoc (block_body m) (next_block_link link m) rest)

pub first_none : (link bytes : List ℕ) (version : ℕ) → ((m : HintMove) (more : List ℕ) → IsMove m → m.since ≡ version → bytes ≢ block_bytes link m ++ more) →
    first_move link version bytes ≡ None
first_none link bytes version none = by_case (first_move link version bytes) refl
  where
    by_case : (found : Option HintMove) → first_move link version bytes ≡ found → found ≡ None
    by_case None e = refl
    by_case (Some m) e =
        let it = first_found link bytes version m e in
        absurd (none m (drop (block_len m) bytes) it.is it.follows it.whole)
