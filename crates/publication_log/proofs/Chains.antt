-- Entries of publications, one after another.
use Rattle.std.proofs.Common.{◌≡◌, ℕ, ◌+◌, ◌<◌, List, [], ◌∷◌, ◌++◌, length, refl, sym, ap, subst, ◌∙◌, append_assoc, append-nil, arith}
use Rattle.publication_log.specs.Publications.{Published, body_bytes, IsPublished}
use Rattle.publication_log.specs.Entries.{log_entry, next_link, last_link, chain_bytes, IsBody, HasNoEntry}
use Rattle.publication_log.specs.Logs.{bodies_of, AreNext}
use Rattle.publication_log.proofs.Frames.{one_entry}
use Rattle.publication_log.proofs.Placings.{one_body}

-- one more entry at the end
pub chain_push : (link : List ℕ) (ps : List Published) (p : Published) → chain_bytes link (bodies_of (ps ++ p ∷ [])) ≡ chain_bytes link (bodies_of ps) ++ log_entry (last_link link (bodies_of ps)) (body_bytes p)
chain_push link [] p = append-nil (log_entry link (body_bytes p))
chain_push link (q ∷ qs) p =
    let next : List ℕ = next_link link (body_bytes q) in
    ap (λ (x : List ℕ). log_entry link (body_bytes q) ++ x) (chain_push next qs p)
    ∙ sym (append_assoc (log_entry link (body_bytes q)) (chain_bytes next (bodies_of qs)) (log_entry (last_link next (bodies_of qs)) (body_bytes p)))

pub last_push : (link : List ℕ) (ps : List Published) (p : Published) → last_link link (bodies_of (ps ++ p ∷ [])) ≡ next_link (last_link link (bodies_of ps)) (body_bytes p)
last_push link [] p = refl
last_push link (q ∷ qs) p = last_push (next_link link (body_bytes q)) qs p

pub length_push : (ps : List Published) (p : Published) → length (ps ++ p ∷ []) ≡ length ps + 1
length_push [] p = refl
length_push (q ∷ qs) p = let e = length_push qs p in omega (arith, e)

pub next_push : (version : ℕ) (ps : List Published) (p : Published) → AreNext version ps → IsPublished p → p.version ≡ version + length ps + 1 → AreNext version (ps ++ p ∷ [])
next_push version [] p each is e = (is, omega (arith, e), tt)
next_push version (q ∷ qs) p each is e = (each.0, each.1, next_push (version + 1) qs p each.2 is (omega (arith, e)))

-- the publications before the last, and the last
pub next_before : (version : ℕ) (ps : List Published) (p : Published) → AreNext version (ps ++ p ∷ []) → AreNext version ps
next_before version [] p each = tt
next_before version (q ∷ qs) p each = (each.0, each.1, next_before (version + 1) qs p each.2)

pub next_last : (version : ℕ) (ps : List Published) (p : Published) → AreNext version (ps ++ p ∷ []) → IsPublished p
next_last version [] p each = each.0
next_last version (q ∷ qs) p each = next_last (version + 1) qs p each.2

-- the entries after the first
rest_of : (link : List ℕ) (p : Published) (ps : List Published) (r : List ℕ) → chain_bytes link (bodies_of (p ∷ ps)) ++ r ≡ log_entry link (body_bytes p) ++ (chain_bytes (next_link link (body_bytes p)) (bodies_of ps) ++ r)
rest_of link p ps r = append_assoc (log_entry link (body_bytes p)) (chain_bytes (next_link link (body_bytes p)) (bodies_of ps)) r

-- the same bytes are the same publications
pub one_chain : (link : List ℕ) (v w : ℕ) (ps qs : List Published) (r s : List ℕ) → AreNext v ps → AreNext w qs → chain_bytes link (bodies_of ps) ++ r ≡ chain_bytes link (bodies_of qs) ++ s
    → HasNoEntry (last_link link (bodies_of ps)) r → HasNoEntry (last_link link (bodies_of qs)) s → (ps ≡ qs) × (r ≡ s)
one_chain link v w [] [] r s ip iq e nr ns = (refl, e)
one_chain link v w [] (q ∷ qs) r s ip iq e nr ns = absurd (nr (body_bytes q) (chain_bytes (next_link link (body_bytes q)) (bodies_of qs) ++ s) iq.0.len (e ∙ rest_of link q qs s))
one_chain link v w (p ∷ ps) [] r s ip iq e nr ns = absurd (ns (body_bytes p) (chain_bytes (next_link link (body_bytes p)) (bodies_of ps) ++ r) ip.0.len (sym e ∙ rest_of link p ps r))
one_chain link v w (p ∷ ps) (q ∷ qs) r s ip iq e nr ns =
    let same = one_entry link (body_bytes p) (body_bytes q) _ _ ip.0.len iq.0.len (sym (rest_of link p ps r) ∙ e ∙ rest_of link q qs s) in
    let first : p ≡ q = one_body p q ip.0 iq.0 same.0 in
    let rest : chain_bytes (next_link link (body_bytes p)) (bodies_of ps) ++ r ≡ chain_bytes (next_link link (body_bytes p)) (bodies_of qs) ++ s =
    same.1 ∙ ap (λ (x : List ℕ). chain_bytes (next_link link x) (bodies_of qs) ++ s) (sym same.0) in
    let ns2 = subst (λ (x : List ℕ). HasNoEntry (last_link (next_link link x) (bodies_of qs)) s) (sym same.0) ns in
    let more = one_chain (next_link link (body_bytes p)) (v + 1) (w + 1) ps qs r s ip.2 iq.2 rest nr ns2 in
    (ap (λ (x : Published). x ∷ ps) first ∙ ap (λ (xs : List Published). q ∷ xs) more.0, more.1)

-- a whole entry after some of the publications is one of them
pub entry_is_one : (link : List ℕ) (v w : ℕ) (ps qs : List Published) (r body more : List ℕ) → AreNext v ps → AreNext w qs → IsBody body
    → chain_bytes link (bodies_of ps) ++ r ≡ chain_bytes link (bodies_of qs) ++ (log_entry (last_link link (bodies_of qs)) body ++ more) → HasNoEntry (last_link link (bodies_of ps)) r
    → (p : Published) × IsPublished p × (body ≡ body_bytes p) × (p.version ≡ v + length qs + 1)
entry_is_one link v w [] [] r body more ip iq is e nr = absurd (nr body more is e)
entry_is_one link v w [] (q ∷ qs) r body more ip iq is e nr =
    let beyond : List ℕ = log_entry (last_link link (bodies_of (q ∷ qs))) body ++ more in
    absurd (nr (body_bytes q) (chain_bytes (next_link link (body_bytes q)) (bodies_of qs) ++ beyond) iq.0.len (e ∙ rest_of link q qs beyond))
entry_is_one link v w (p ∷ ps) [] r body more ip iq is e nr =
    let same = one_entry link (body_bytes p) body _ _ ip.0.len is (sym (rest_of link p ps r) ∙ e) in
    (p, ip.0, sym same.0, omega (arith, ip.1))
entry_is_one link v w (p ∷ ps) (q ∷ qs) r body more ip iq is e nr =
    let beyond : List ℕ = log_entry (last_link link (bodies_of (q ∷ qs))) body ++ more in
    let same = one_entry link (body_bytes p) (body_bytes q) _ _ ip.0.len iq.0.len (sym (rest_of link p ps r) ∙ e ∙ rest_of link q qs beyond) in
    let rest : chain_bytes (next_link link (body_bytes p)) (bodies_of ps) ++ r
    ≡ chain_bytes (next_link link (body_bytes p)) (bodies_of qs) ++ (log_entry (last_link (next_link link (body_bytes p)) (bodies_of qs)) body ++ more) =
    same.1 ∙ ap (λ (x : List ℕ). chain_bytes (next_link link x) (bodies_of qs) ++ (log_entry (last_link (next_link link x) (bodies_of qs)) body ++ more)) (sym same.0) in
    let found = entry_is_one (next_link link (body_bytes p)) (v + 1) (w + 1) ps qs r body more ip.2 iq.2 is rest nr in
    (found.0, found.1, found.2, omega (arith, found.3))
