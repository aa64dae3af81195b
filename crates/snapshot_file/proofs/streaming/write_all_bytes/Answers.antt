use Rattle.std.proofs.Common.{◌≡◌, ◌++◌, ◌+◌, List, [], ℕ, length, sym, ap, subst, ◌∙◌, append_assoc}
use Rattle.std.specs.Io.KnownBytes.{Appends}
use Rattle.std.proofs.KnownBytes.{Appends-trans}
use Rattle.std.proofs.lemmas.List.{append-nil}
use Rattle.std.proofs.lemmas.Result.{err_from_is_err_and}
use Rattle.sha2.specs.Sha256.{sha256}
use Rattle.sha2.specs.Hashers.{Holds256}
use Rattle.snapshot_file.specs.Snapshots.{header_bytes, hashed_bytes, snapshot_bytes}
use Rattle.snapshot_file.proofs.Writings.{part_taken, part_shorter}
use Rattle.snapshot_file.proofs.streaming.write_all_bytes.Goals as goal

pub returns-in_err-write_out-clause-part : goal.returns-in_err-write_out-clause-part
returns-in_err-write_out-clause-part g c =
    let p = err_from_is_err_and c.from_residual.result c.from_residual.ensures.1 in
    let e = c.in_err-write_out.ensures.prefix in
    let records : List ℕ = g.S.RecordSource.bytes c.args.source.now in
    let prefix : List ℕ = c.args.prefix.now in
    let after : List ℕ = records ++ sha256 (hashed_bytes c.args.header.now records) in
    let encoded : snapshot_bytes c.args.header.now records ≡ [] ++ (prefix ++ after) =
    append_assoc (header_bytes c.args.header.now) records (sha256 (hashed_bytes c.args.header.now records))
    ∙ ap (λ (x : List ℕ). x ++ after) (sym c.requires.prefix) in
    rw p.1 (
      0 + e.0,
      part_shorter [] prefix after _ e.0 encoded e.1,
      subst (Appends _ _) (part_taken [] prefix after _ e.0 encoded e.1) e.2,
    )

pub returns-in_err-write_records-clause-part : goal.returns-in_err-write_records-clause-part
returns-in_err-write_records-clause-part g c =
    let p = err_from_is_err_and c.from_residual-in_err-write_records.result c.from_residual-in_err-write_records.ensures.1 in
    let e = c.in_err-write_records.ensures.part in
    let records : List ℕ = g.S.RecordSource.bytes c.args.source.now in
    let prefix : List ℕ = header_bytes c.args.header.now in
    let digest : List ℕ = sha256 (hashed_bytes c.args.header.now records) in
    let encoded : snapshot_bytes c.args.header.now records ≡ prefix ++ (records ++ digest) = append_assoc prefix records digest in
    let first : Appends (g.W.Write.contents c.args.writer.now) (g.W.Write.contents c.write_out.new.writer) prefix =
    subst (Appends _ _) c.requires.prefix c.in_ok-write_out.ensures.all in
    rw p.1 (
      length prefix + e.0,
      part_shorter prefix records digest _ e.0 encoded e.1,
      subst (Appends _ _) (part_taken prefix records digest _ e.0 encoded e.1) (Appends-trans _ _ _ _ _ first e.2),
    )

pub returns-in_err-write_out-2-clause-part : goal.returns-in_err-write_out-2-clause-part
returns-in_err-write_out-2-clause-part g c =
    let p = err_from_is_err_and c.from_residual-in_err-write_out-2.result c.from_residual-in_err-write_out-2.ensures.1 in
    let e = c.in_err-write_out-2.ensures.prefix in
    let records : List ℕ = g.S.RecordSource.bytes c.args.source.now in
    let before : List ℕ = hashed_bytes c.args.header.now records in
    let first : Appends (g.W.Write.contents c.args.writer.now) (g.W.Write.contents c.write_out.new.writer) (header_bytes c.args.header.now) =
    subst (Appends _ _) c.requires.prefix c.in_ok-write_out.ensures.all in
    let held : Holds256 c.write_records.new.hasher before =
    c.in_ok-write_records.ensures.hashed (header_bytes c.args.header.now)
    (subst (Holds256 c.update.new.self) c.requires.prefix (c.update.ensures [] c.new-hasher.ensures)) in
    let digest : c.finalize-digest.result ≡ sha256 before = c.finalize-digest.ensures before held in
    let encoded : snapshot_bytes c.args.header.now records ≡ before ++ (c.finalize-digest.result ++ []) =
    ap (λ (x : List ℕ). before ++ x) (sym (append-nil c.finalize-digest.result ∙ digest)) in
    rw p.1 (
      length before + e.0,
      part_shorter before c.finalize-digest.result [] _ e.0 encoded e.1,
      subst (Appends _ _) (part_taken before c.finalize-digest.result [] _ e.0 encoded e.1)
          (Appends-trans _ _ _ _ _ (Appends-trans _ _ _ _ _ first c.in_ok-write_records.ensures.whole) e.2),
    )

pub returns-clause-whole : goal.returns-clause-whole
returns-clause-whole g c =
    let records : List ℕ = g.S.RecordSource.bytes c.args.source.now in
    let before : List ℕ = hashed_bytes c.args.header.now records in
    let first : Appends (g.W.Write.contents c.args.writer.now) (g.W.Write.contents c.write_out.new.writer) (header_bytes c.args.header.now) =
    subst (Appends _ _) c.requires.prefix c.in_ok-write_out.ensures.all in
    let held : Holds256 c.write_records.new.hasher before =
    c.in_ok-write_records.ensures.hashed (header_bytes c.args.header.now)
    (subst (Holds256 c.update.new.self) c.requires.prefix (c.update.ensures [] c.new-hasher.ensures)) in
    let digest : c.finalize-digest.result ≡ sha256 before = c.finalize-digest.ensures before held in
    subst (Appends _ _) (ap (λ (x : List ℕ). before ++ x) digest)
    (Appends-trans _ _ _ _ _ (Appends-trans _ _ _ _ _ first c.in_ok-write_records.ensures.whole) c.in_ok-write_out-2.ensures.all)
