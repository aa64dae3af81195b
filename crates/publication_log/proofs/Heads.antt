-- Heads of entries, read and found again.
use Rattle.std.proofs.Common.{◌≡◌, ℕ, ◌+◌, ◌-◌, ◌^◌, ◌<◌, ◌≤◌, ◌==◌, nat_lt, cond, Bool, true, false, Option, Some, None, List, [], ◌∷◌, ◌++◌, length, take, drop, refl, sym, ap, ◌∙◌, append_assoc, arith}
use Rattle.std.proofs.Math.Seq.{take-add}
use Rattle.std.proofs.lemmas.Bool.{ltb-false, le-ltb, eqb-true, eq-eqb}
use Rattle.std.proofs.lemmas.List.{length-append, length-drop, drop_at, take-append-le, drop-append-le}
use Rattle.byteorder.specs.Endian.{little_number}
use Rattle.byteorder.specs.Numbers.{little_from-take}
use Rattle.publication_log.specs.Publications.{log_number_bytes}
use Rattle.publication_log.specs.Entries.{entry_head, body_len_in, framed, IsBody}
use Rattle.publication_log.proofs.Numbers.{IsBytes, IsBytes-drop, number_read, number_back, length-number, cut_prefix}

pub length-head : (len : ℕ) → length (entry_head len) ≡ 8
unfolding entry_head
length-head len = omega (arith, length-append (log_number_bytes 4 len) (log_number_bytes 4 (4294967295 - len)), length-number 4 len, length-number 4 (4294967295 - len))

-- two tests, and what comes of them
is_some_by : (a b : Bool) (x : ℕ) → a ≡ false → b ≡ true → cond a None (cond b (Some x) None) ≡ Some x
is_some_by true b x h k = absurd (cc)
is_some_by false true x h k = refl
is_some_by false false x h k = absurd (cc)

was_some_by : (a b : Bool) (x y : ℕ) → cond a None (cond b (Some x) None) ≡ Some y → (a ≡ false) × (b ≡ true) × (x ≡ y)
was_some_by true b x y e = absurd (cc)
was_some_by false true x y e = (refl, refl, cc)
was_some_by false false x y e = absurd (cc)

-- a head has the length that it was made of
pub head_back : (len : ℕ) (more : List ℕ) → len < 2 ^ 32 → body_len_in (entry_head len ++ more) ≡ Some len
unfolding body_len_in entry_head
head_back len more fits =
    let high : ℕ = 4294967295 - len in
    let first : List ℕ = log_number_bytes 4 len in
    let second : List ℕ = log_number_bytes 4 high in
    let parts : (first ++ second) ++ more ≡ first ++ (second ++ more) = append_assoc first second more in
    let long : 8 ≤ length ((first ++ second) ++ more) = omega (arith, length-append (first ++ second) more, length-append first second, length-number 4 len, length-number 4 high) in
    let low : little_number 4 ((first ++ second) ++ more) ≡ len = ap (little_number 4) parts ∙ number_back 4 len (second ++ more) fits in
    let top : little_number 4 (drop 4 ((first ++ second) ++ more)) ≡ high =
    ap (little_number 4) (ap (drop 4) parts ∙ drop_at first (second ++ more) 4 (length-number 4 len)) ∙ number_back 4 high more (omega arith) in
    is_some_by _ _ _ (le-ltb _ 8 long) (eq-eqb _ _ (top ∙ ap (λ (x : ℕ). 4294967295 - x) (sym low))) ∙ ap Some low

-- bytes that are long enough for their head
pub head_long : (bytes : List ℕ) (len : ℕ) → body_len_in bytes ≡ Some len → 8 ≤ length bytes
unfolding body_len_in
head_long bytes len e = ltb-false (length bytes) 8 (was_some_by _ _ _ _ e).0

-- the head of a length that was read, when its complement was read after it
pub head_read : (bytes : List ℕ) (len other : ℕ) → IsBytes bytes → 8 ≤ length bytes → len ≡ little_number 4 bytes → other ≡ little_number 4 (drop 4 bytes) → other ≡ 4294967295 - len →
    take 8 bytes ≡ entry_head len
unfolding entry_head
head_read bytes len other fits long low top e =
    let first : log_number_bytes 4 len ≡ take 4 bytes = number_read 4 len bytes fits (omega (arith, long)) low in
    let second : log_number_bytes 4 (4294967295 - len) ≡ take 4 (drop 4 bytes) =
    number_read 4 (4294967295 - len) (drop 4 bytes) (IsBytes-drop 4 bytes fits) (omega (arith, long, length-drop 4 bytes)) (sym e ∙ top) in
    take-add 4 4 bytes ∙ ap (λ (x : List ℕ). x ++ take 4 (drop 4 bytes)) (sym first) ∙ ap (λ (x : List ℕ). log_number_bytes 4 len ++ x) (sym second)

-- a number is read alike whatever follows
number_more : (n : ℕ) (x y : List ℕ) → n ≤ length x → little_number n (x ++ y) ≡ little_number n x
number_more n x y le = sym (little_from-take 0 n n (x ++ y) (omega arith)) ∙ ap (little_number n) (take-append-le n x y le) ∙ little_from-take 0 n n x (omega arith)

-- the head is the same whatever follows
pub head_more : (x y : List ℕ) → 8 ≤ length x → body_len_in (x ++ y) ≡ body_len_in x
unfolding body_len_in
head_more x y le =
    let long : nat_lt (length (x ++ y)) 8 ≡ nat_lt (length x) 8 = le-ltb (length (x ++ y)) 8 (omega (arith, le, length-append x y)) ∙ sym (le-ltb (length x) 8 le) in
    let low : little_number 4 (x ++ y) ≡ little_number 4 x = number_more 4 x y (omega (arith, le)) in
    let top : little_number 4 (drop 4 (x ++ y)) ≡ little_number 4 (drop 4 x) =
    ap (little_number 4) (drop-append-le 4 x y (omega (arith, le))) ∙ number_more 4 (drop 4 x) y (omega (arith, le, length-drop 4 x)) in
    ap (λ (b : Bool). cond b None (cond (little_number 4 (drop 4 (x ++ y)) == (4294967295 - little_number 4 (x ++ y))) (Some (little_number 4 (x ++ y))) None)) long
    ∙ ap (λ (n : ℕ). cond (nat_lt (length x) 8) None (cond (n == (4294967295 - little_number 4 (x ++ y))) (Some (little_number 4 (x ++ y))) None)) top
    ∙ ap (λ (n : ℕ). cond (nat_lt (length x) 8) None (cond (little_number 4 (drop 4 x) == (4294967295 - n)) (Some n) None)) low

-- a frame has the head of its body
pub frame_head : (body more : List ℕ) → IsBody body → body_len_in (framed body ++ more) ≡ Some (length body)
frame_head body more is = ap body_len_in (append_assoc (entry_head (length body)) body more) ∙ head_back (length body) (body ++ more) is
