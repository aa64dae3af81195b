-- Frames: a head, its body, and a digest.
use Rattle.std.proofs.Common.{◌≡◌, ℕ, ◌+◌, ◌-◌, ◌^◌, ◌<◌, ◌≤◌, Option, Some, None, List, [], ◌∷◌, ◌++◌, length, take, drop, refl, sym, ap, ◌∙◌, append_assoc, arith}
use Rattle.std.proofs.lemmas.List.{length-append, take-append-drop}
use Rattle.publication_log.specs.Entries.{entry_head, body_len_in, framed, next_link, log_entry, IsBody}
use Rattle.publication_log.proofs.Numbers.{length-sha256, cut_prefix}
use Rattle.publication_log.proofs.Heads.{length-head, head_back, frame_head}

pub length-framed : (body : List ℕ) → length (framed body) ≡ length body + 8
length-framed body = omega (arith, length-append (entry_head (length body)) body, length-head (length body))

pub length-next : (link body : List ℕ) → length (next_link link body) ≡ 32
length-next link body = length-sha256 (link ++ framed body)

pub length-entry : (link body : List ℕ) → length (log_entry link body) ≡ length body + 40
length-entry link body = omega (arith, length-append (framed body) (next_link link body), length-framed body, length-next link body)

-- an entry is a frame whose digest is the link after its body
pub entry_parts : (link body more : List ℕ) → log_entry link body ++ more ≡ framed body ++ (next_link link body ++ more)
entry_parts link body more = append_assoc (framed body) (next_link link body) more

pub length-frame : (body digest rest : List ℕ) → length digest ≡ 32 → length (framed body ++ (digest ++ rest)) ≡ length body + 40 + length rest
length-frame body digest rest len = omega (arith, length-append (framed body) (digest ++ rest), length-framed body, length-append digest rest, len)

-- the length that is read is the body's, and there is room for the body and its digest
pub frame_len : (bytes body digest rest : List ℕ) (len : ℕ) → IsBody body → length digest ≡ 32 → bytes ≡ framed body ++ (digest ++ rest) → body_len_in bytes ≡ Some len
    → (len ≡ length body) × (len + 40 ≤ length bytes)
frame_len bytes body digest rest len is count e h =
    let some : Some len ≡ Some (length body) = sym h ∙ ap body_len_in e ∙ frame_head body (digest ++ rest) is in
    let same : len ≡ length body = cc in
    (same, omega (arith, same, ap length e, length-frame body digest rest count))

-- no two frames are at one place
pub one_frame : (a b d e x y : List ℕ) → IsBody a → IsBody b → length d ≡ 32 → length e ≡ 32 → framed a ++ (d ++ x) ≡ framed b ++ (e ++ y) → (a ≡ b) × (d ≡ e) × (x ≡ y)
one_frame a b d e x y ia ib ld le same =
    let lens : Some (length a) ≡ Some (length b) = sym (frame_head a (d ++ x) ia) ∙ ap body_len_in same ∙ frame_head b (e ++ y) ib in
    let len : length a ≡ length b = cc in
    let first = cut_prefix (framed a) (framed b) (d ++ x) (e ++ y) (omega (arith, length-framed a, length-framed b, len)) same in
    let second = cut_prefix (entry_head (length a)) (entry_head (length b)) a b (length-head (length a) ∙ sym (length-head (length b))) first.0 in
    let third = cut_prefix d e x y (ld ∙ sym le) first.1 in
    (second.1, third.0, third.1)

-- no two entries are at one place
pub one_entry : (link a b x y : List ℕ) → IsBody a → IsBody b → log_entry link a ++ x ≡ log_entry link b ++ y → (a ≡ b) × (x ≡ y)
one_entry link a b x y ia ib e =
    let same = one_frame a b (next_link link a) (next_link link b) x y ia ib (length-next link a) (length-next link b) (sym (entry_parts link a x) ∙ e ∙ entry_parts link b y) in
    (same.0, same.2)

-- what was taken apart is a frame
pub frame_joined : (bytes after body beyond digest rest : List ℕ) (len : ℕ) → take 8 bytes ≡ entry_head len → after ≡ drop 8 bytes → body ≡ take len after → beyond ≡ drop len after
    → digest ≡ take 32 beyond → rest ≡ drop 32 beyond → length body ≡ len → bytes ≡ framed body ++ (digest ++ rest)
frame_joined bytes after body beyond digest rest len head h1 h2 h3 h4 h5 count =
    let third : beyond ≡ digest ++ rest = sym (take-append-drop 32 beyond) ∙ ap (λ (x : List ℕ). x ++ drop 32 beyond) (sym h4) ∙ ap (λ (x : List ℕ). digest ++ x) (sym h5) in
    let second : after ≡ body ++ beyond = sym (take-append-drop len after) ∙ ap (λ (x : List ℕ). x ++ drop len after) (sym h2) ∙ ap (λ (x : List ℕ). body ++ x) (sym h3) in
    let first : bytes ≡ entry_head (length body) ++ after =
    sym (take-append-drop 8 bytes) ∙ ap (λ (x : List ℕ). x ++ drop 8 bytes) (head ∙ ap entry_head (sym count)) ∙ ap (λ (x : List ℕ). entry_head (length body) ++ x) (sym h1) in
    first ∙ ap (λ (x : List ℕ). entry_head (length body) ++ x) (second ∙ ap (λ (x : List ℕ). body ++ x) third) ∙ sym (append_assoc (entry_head (length body)) body (digest ++ rest))
