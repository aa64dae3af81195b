-- What was read of entries, and of a log.
use Rattle.std.proofs.Common.{◌≡◌, ℕ, ◌+◌, ◌-◌, ◌^◌, ◌<◌, ◌≤◌, List, [], ◌∷◌, ◌++◌, length, take, drop, refl, sym, ap, subst, ◌∙◌, append_assoc, arith}
use Rattle.std.proofs.lemmas.List.{length-append, length-drop, take_at, drop_at, drop-drop}
use Rattle.publication_log.specs.declared.header.LogHeader.{LogHeader}
use Rattle.publication_log.specs.declared.reading.BadLog.{BadLog}
use Rattle.publication_log.specs.declared.reading.BadLog.TheVariants.{OtherSnapshot, BadBody, BadVersion, Damaged}
use Rattle.publication_log.specs.declared.reading.ChainEnd.{ChainEnd}
use Rattle.publication_log.specs.declared.reading.Found.{Found}
use Rattle.publication_log.specs.declared.reading.Next.{Next}
use Rattle.publication_log.specs.Publications.{Placed, Published, body_bytes, IsPublished, AreChanges}
use Rattle.publication_log.specs.Entries.{log_entry, next_link, last_link, chain_bytes, IsBody, IsTorn}
use Rattle.publication_log.specs.Logs.{log_header_bytes, first_link, bodies_of, log_bytes, end_link, AreNext, BeginsWithLog, ReadsLog, StopsBy, HasCause, AreRead, IsNextEntry, IsFound}
use Rattle.publication_log.proofs.Chains.{chain_push, last_push, length_push, next_push}
use Rattle.publication_log.proofs.Verdicts.{log_rest}

-- a body that was read is a publication's
pub published : (body : List ℕ) (p : Published) → IsBody body → p.version < 2 ^ 64 → AreChanges 0 p.changes → body ≡ body_bytes p → IsPublished p
published body p is version changes e = record { version = version; changes = changes; len = subst IsBody e is }

-- one more publication was read
pub read_on : (first last bytes rest : List ℕ) (before version : ℕ) (ps : List Published) (p : Published) (next : Next) (link : List ℕ) → AreNext before ps
    → bytes ≡ chain_bytes first (bodies_of ps) ++ rest → last ≡ last_link first (bodies_of ps) → version ≡ before + length ps → IsNextEntry last version rest p next → link ≡ next.link.now
    → AreNext before (ps ++ p ∷ []) × (bytes ≡ chain_bytes first (bodies_of (ps ++ p ∷ [])) ++ next.rest.now) × (link ≡ last_link first (bodies_of (ps ++ p ∷ []))) × (next.version ≡ before + length (ps ++ p ∷ []))
read_on first last bytes rest before version ps p next link each whole l v is copied = (
  next_push before ps p each is.each (is.follows ∙ ap (λ (n : ℕ). n + 1) v),
  whole
      ∙ ap (λ (x : List ℕ). chain_bytes first (bodies_of ps) ++ x) (is.whole ∙ ap (λ (x : List ℕ). log_entry x (body_bytes p) ++ next.rest.now) l)
      ∙ sym (append_assoc (chain_bytes first (bodies_of ps)) (log_entry (last_link first (bodies_of ps)) (body_bytes p)) next.rest.now)
      ∙ ap (λ (x : List ℕ). x ++ next.rest.now) (sym (chain_push first ps p)),
  copied ∙ is.link ∙ ap (λ (x : List ℕ). next_link x (body_bytes p)) l ∙ sym (last_push first ps p),
  omega (arith, is.version, v, length_push ps p),
)

-- what stopped the reading is what is wrong with the log
pub cause_is : (h : LogHeader) (bytes rest tail : List ℕ) (ps : List Published) (cause : BadLog) → bytes ≡ log_header_bytes h ++ rest → AreNext h.version ps
    → rest ≡ chain_bytes (first_link h) (bodies_of ps) ++ tail → StopsBy (end_link h ps) (h.version + length ps) cause tail → HasCause h cause bytes
cause_is h bytes rest tail ps cause e each whole stops =
    let begins : BeginsWithLog h bytes ps tail = record { whole = e ∙ ap (λ (x : List ℕ). log_header_bytes h ++ x) whole ∙ sym (log_rest h ps tail); each = each } in
    by_cause cause begins stops
  where
    by_cause : (cause : BadLog) → BeginsWithLog h bytes ps tail → StopsBy (end_link h ps) (h.version + length ps) cause tail → HasCause h cause bytes
    by_cause OtherSnapshot begins stops = absurd stops
    by_cause BadBody begins stops = (ps, tail, begins, stops)
    by_cause BadVersion begins stops = (ps, tail, begins, stops)
    by_cause Damaged begins stops = (ps, tail, begins, stops)

-- a log that was read after its header
pub found_is : (h : LogHeader) (bytes rest : List ℕ) (ps : List Published) (ends : ChainEnd) (found : Found) → bytes ≡ log_header_bytes h ++ rest → AreRead (first_link h) h.version rest ps ends
    → found.start ≡ length bytes - length rest → found.len ≡ found.start + ends.len → found.version ≡ ends.version → found.link ≡ ends.link → IsFound h bytes ps found
found_is h bytes rest ps ends found e read start len version link =
    let header : List ℕ = log_header_bytes h in
    let chain : List ℕ = chain_bytes (first_link h) (bodies_of ps) in
    let all : length bytes ≡ length header + length rest = ap length e ∙ length-append header rest in
    let begun : found.start ≡ length header = omega (arith, start, all) in
    let after : drop found.start bytes ≡ rest = ap (drop found.start) e ∙ drop_at header rest found.start (sym begun) in
    let tail : drop found.len bytes ≡ drop ends.len rest = ap (λ (n : ℕ). drop n bytes) len ∙ sym (drop-drop ends.len found.start bytes) ∙ ap (drop ends.len) after in
    let count : length chain ≡ ends.len = omega (arith, ap length read.whole, length-append chain (drop ends.len rest), length-drop ends.len rest, read.within) in
    let whole : bytes ≡ log_bytes h ps ++ drop found.len bytes =
    e ∙ ap (λ (x : List ℕ). header ++ x) (read.whole ∙ ap (λ (x : List ℕ). chain ++ x) (sym tail)) ∙ sym (log_rest h ps (drop found.len bytes)) in record {
      reads = record { begins = record { whole = whole; each = read.each }; torn = subst (IsTorn (end_link h ps)) (sym tail) read.torn };
      entries = ap (take (found.len - found.start)) after
          ∙ ap (λ (n : ℕ). take n rest) (let m : found.len - found.start ≡ ends.len = omega (arith, len) in m)
          ∙ ap (take ends.len) read.whole
          ∙ take_at chain (drop ends.len rest) ends.len count;
      order = omega (arith, len);
      within = omega (arith, len, begun, all, read.within);
      version = version ∙ read.version;
      link = link ∙ read.link;
    }
