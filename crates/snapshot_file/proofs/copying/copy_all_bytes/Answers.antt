use Rattle.std.proofs.Common.{◌≡◌, ◌++◌, List, [], ℕ, refl, ap, subst, ◌∙◌, arith}
use Rattle.std.proofs.lemmas.Result.{err_from_is_err_and}
use Rattle.std.specs.Io.KnownBytes.{Appends}
use Rattle.std.proofs.KnownBytes.{Appends-trans, Consumes-nil}
use Rattle.sha2.specs.Sha256.{sha256}
use Rattle.sha2.specs.Hashers.{Holds256}
use Rattle.snapshot_file.specs.Snapshots.{header_bytes, hashed_bytes}
use Rattle.snapshot_file.proofs.copying.copy_all_bytes.Goals as goal

pub returns-in-Err-clause-refused : goal.returns-in-Err-clause-refused
returns-in-Err-clause-refused g c = ([], Consumes-nil _, (refl, omega arith))

pub returns-in_err-copy_records-clause-refused : goal.returns-in_err-copy_records-clause-refused
returns-in_err-copy_records-clause-refused g c =
    let p = err_from_is_err_and c.from_residual.result c.from_residual.ensures.1 in
    let e = c.in_err-copy_records.ensures.refused in
    rw (p.1, p.2) (e.0, e.1, (rw c.records_len-len.ensures at e.2))

pub returns-in-Ok-write_out-clause-whole : goal.returns-in-Ok-write_out-clause-whole
returns-in-Ok-write_out-clause-whole g c =
    let done = c.in_ok-copy_records.ensures.whole in
    let before : List ℕ = hashed_bytes c.args.header.now done.0 in
    let first : Appends (g.W.Write.contents c.args.writer.now) (g.W.Write.contents c.write_out.new.writer) (header_bytes c.args.header.now) =
    subst (Appends _ _) c.requires.prefix c.in-Ok.ensures.all in
    let held : Holds256 c.copy_records.new.hasher before =
    done.5 (header_bytes c.args.header.now) (subst (Holds256 c.update.new.self) c.requires.prefix (c.update.ensures [] c.new-hasher.ensures)) in
    let digest : c.finalize-digest.result ≡ sha256 before = c.finalize-digest.ensures before held in (
      done.0,
      done.1 ∙ c.records_len-len.ensures,
      done.2,
      done.3,
      subst (Appends _ _) (ap (λ (x : List ℕ). before ++ x) digest)
          (Appends-trans _ _ _ _ _ (Appends-trans _ _ _ _ _ first done.4) c.in-Ok-write_out.ensures.all),
      digest,
    )

pub returns-in-Err-write_out-clause-refused : goal.returns-in-Err-write_out-clause-refused
returns-in-Err-write_out-clause-refused g c =
    let done = c.in_ok-copy_records.ensures.whole in
    (done.0, done.2, (done.1, omega (arith, c.records_len-len.ensures)))
