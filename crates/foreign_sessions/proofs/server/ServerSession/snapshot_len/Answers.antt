-- A snapshot file has the bytes of its magic and numbers, of its form, of both keys, of the
-- records, and of the digest.
use Rattle.std.proofs.Common.{◌≡◌, ◌+◌, ℕ, List, length, sym, ap, ◌∙◌, arith, length-append}
use Rattle.pir_schemes.specs.Plans.{slots}
use Rattle.snapshot_file.specs.declared.snapshot.Header.{Header}
use Rattle.snapshot_file.specs.Snapshots.{form_bytes, header_bytes, hashed_bytes, snapshot_bytes}
use Rattle.snapshot_file.proofs.Headers.{length-magic}
use Rattle.snapshot_file.proofs.NumberBytes.{length-number}
use Rattle.snapshot_file.proofs.Unique.{length-sha256}
use Rattle.version_store.specs.Histories.{StoreState}
use Rattle.version_store.specs.Openings.{header_of_held, bytes_of_records}
use Rattle.foreign_sessions.proofs.server.ServerSession.snapshot_len.Goals as goal

header_len : (h : Header) → length (header_bytes h) ≡ 27 + length (form_bytes h.form) + length h.seed + length h.publisher
unfolding header_bytes
header_len h = simp (length-append, length-number, length-magic h.form) (omega arith)

file_len : (h : Header) (records : List ℕ) → 27 + length (form_bytes h.form) + length h.seed + length h.publisher + length records + 32 ≡ length (snapshot_bytes h records)
file_len h records = omega (arith, header_len h, length-sha256 (hashed_bytes h records), length-append {A = ℕ})

pub returns : goal.returns
returns c =
    let s : StoreState = c.args.self.now.core.store in
    let is = c.store-store.ensures in
    let seed : length s.edition.plan.seed ≡ 32 = ap (λ (t : StoreState). length t.edition.plan.seed) (sym is) ∙ ap length (sym c.seed.ensures) ∙ c.key_len.ensures.len in
    let publisher : length s.publisher ≡ 32 = ap (λ (t : StoreState). length t.publisher) (sym is) ∙ ap length (sym c.publisher.ensures) ∙ c.key_len-2.ensures.len in
    let bytes : c.bytes_len.result ≡ length (bytes_of_records (slots s.edition.plan s.edition.records)) =
    c.bytes_len.ensures.value ∙ ap (λ (t : StoreState). length (bytes_of_records (slots t.edition.plan t.edition.records))) is in
    let form : c.form_len.result ≡ length (form_bytes s.edition.plan.form) =
    c.form_len.ensures.value ∙ ap (λ (f : ℕ). length (form_bytes f)) (c.form.ensures.value ∙ ap (λ (t : StoreState). t.edition.plan.form) is) in
    omega (arith, form, file_len (header_of_held s) (bytes_of_records (slots s.edition.plan s.edition.records)), c.key_len.ensures.count, c.key_len-2.ensures.count)
