-- Bytes have one verdict.
use Rattle.std.proofs.Common.{◌≡◌, ℕ, ◌+◌, List, [], ◌∷◌, ◌++◌, length, Result, Ok, Err, refl, sym, ap, subst, ◌∙◌, append_assoc, append-nil, arith}
use Rattle.std.proofs.lemmas.List.{append_cancel_left}
use Rattle.publication_log.specs.declared.header.LogHeader.{LogHeader}
use Rattle.publication_log.specs.declared.reading.BadLog.{BadLog}
use Rattle.publication_log.specs.declared.reading.BadLog.TheVariants.{OtherSnapshot, BadBody, BadVersion, Damaged}
use Rattle.publication_log.specs.Publications.{Published, body_bytes}
use Rattle.publication_log.specs.Entries.{chain_bytes, last_link, log_entry, HasNoEntry, HasLater, IsTorn}
use Rattle.publication_log.specs.Logs.{log_header_bytes, first_link, bodies_of, log_bytes, end_link, AreNext, BeginsWithLog, ReadsLog, StopsBy, IsLogVerdict}
use Rattle.publication_log.proofs.Placings.{one_body}
use Rattle.publication_log.proofs.Chains.{chain_push, one_chain, entry_is_one}

-- what is after the header
pub log_rest : (h : LogHeader) (ps : List Published) (r : List ℕ) → log_bytes h ps ++ r ≡ log_header_bytes h ++ (chain_bytes (first_link h) (bodies_of ps) ++ r)
log_rest h ps r = append_assoc (log_header_bytes h) (chain_bytes (first_link h) (bodies_of ps)) r

pub log_push : (h : LogHeader) (ps : List Published) (p : Published) → log_bytes h (ps ++ p ∷ []) ≡ log_bytes h ps ++ log_entry (end_link h ps) (body_bytes p)
log_push h ps p =
    ap (λ (x : List ℕ). log_header_bytes h ++ x) (chain_push (first_link h) ps p)
    ∙ sym (append_assoc (log_header_bytes h) (chain_bytes (first_link h) (bodies_of ps)) (log_entry (end_link h ps) (body_bytes p)))

-- two logs of the same bytes go on alike after their headers
pub same_rest : (h : LogHeader) (bytes : List ℕ) (ps qs : List Published) (r s : List ℕ) → bytes ≡ log_bytes h ps ++ r → bytes ≡ log_bytes h qs ++ s
    → chain_bytes (first_link h) (bodies_of ps) ++ r ≡ chain_bytes (first_link h) (bodies_of qs) ++ s
same_rest h bytes ps qs r s a b = append_cancel_left (log_header_bytes h) _ _ (sym (log_rest h ps r) ∙ sym a ∙ b ∙ log_rest h qs s)

pub one_log : (h : LogHeader) (bytes : List ℕ) (ps qs : List Published) (r s : List ℕ) → BeginsWithLog h bytes ps r → BeginsWithLog h bytes qs s → HasNoEntry (end_link h ps) r → HasNoEntry (end_link h qs) s → (ps ≡ qs) × (r ≡ s)
one_log h bytes ps qs r s a b nr ns = one_chain (first_link h) h.version h.version ps qs r s a.each b.each (same_rest h bytes ps qs r s a.whole b.whole) nr ns

-- nothing is wrong with a good log
good_stops : (h : LogHeader) (bytes : List ℕ) (ps qs : List Published) (r s : List ℕ) (cause : BadLog) → ReadsLog h bytes ps r → BeginsWithLog h bytes qs s → StopsBy (end_link h qs) (h.version + length qs) cause s → ⊥
good_stops h bytes ps qs r s OtherSnapshot reads begins stops = absurd stops
good_stops h bytes ps qs r s BadBody reads begins (body, more, is, e, none) =
    let same = same_rest h bytes ps qs r s reads.begins.whole begins.whole ∙ ap (λ (x : List ℕ). chain_bytes (first_link h) (bodies_of qs) ++ x) e in
    let one = entry_is_one (first_link h) h.version h.version ps qs r body more reads.begins.each begins.each is same reads.torn.first in
    none one.0 one.1 one.2
good_stops h bytes ps qs r s BadVersion reads begins (q, more, is, e, other) =
    let same = same_rest h bytes ps qs r s reads.begins.whole begins.whole ∙ ap (λ (x : List ℕ). chain_bytes (first_link h) (bodies_of qs) ++ x) e in
    let one = entry_is_one (first_link h) h.version h.version ps qs r (body_bytes q) more reads.begins.each begins.each is.len same reads.torn.first in
    other (ap (λ (x : Published). x.version) (one_body q one.0 is one.1 one.2) ∙ one.3)
good_stops h bytes ps qs r s Damaged reads begins (none, later) =
    let same = one_log h bytes ps qs r s reads.begins begins reads.torn.first none in
    let torn : IsTorn (end_link h qs) s = subst (IsTorn (end_link h qs)) same.1 (subst (λ (xs : List Published). IsTorn (end_link h xs) r) same.0 reads.torn) in
    torn.later later

same_pair : (ps qs : List Published) (r s : List ℕ) → ps ≡ qs → r ≡ s →
    (let a : Result (List Published × List ℕ) BadLog = Ok (qs, s) in a) ≡ (let b : Result (List Published × List ℕ) BadLog = Ok (ps, r) in b)
same_pair ps qs r s e f =
    let made : List Published → List ℕ → Result (List Published × List ℕ) BadLog = λ (xs : List Published) (x : List ℕ). Ok (xs, x) in
    ap (λ (xs : List Published). made xs s) (sym e) ∙ ap (λ (x : List ℕ). made ps x) (sym f)

pub verdict_is : (h : LogHeader) (bytes : List ℕ) (ps : List Published) (torn : List ℕ) (verdict : Result (List Published × List ℕ) BadLog) → ReadsLog h bytes ps torn → IsLogVerdict h bytes verdict → verdict ≡ Ok (ps, torn)
verdict_is h bytes ps torn (Ok (qs, s)) reads other =
    let same = one_log h bytes ps qs torn s reads.begins other.begins reads.torn.first other.torn.first in
    same_pair ps qs torn s same.0 same.1
verdict_is h bytes ps torn (Err OtherSnapshot) reads other = absurd (other (chain_bytes (first_link h) (bodies_of ps) ++ torn) (reads.begins.whole ∙ log_rest h ps torn))
verdict_is h bytes ps torn (Err BadBody) reads (qs, s, begins, stops) = absurd (good_stops h bytes ps qs torn s BadBody reads begins stops)
verdict_is h bytes ps torn (Err BadVersion) reads (qs, s, begins, stops) = absurd (good_stops h bytes ps qs torn s BadVersion reads begins stops)
verdict_is h bytes ps torn (Err Damaged) reads (qs, s, begins, stops) = absurd (good_stops h bytes ps qs torn s Damaged reads begins stops)
