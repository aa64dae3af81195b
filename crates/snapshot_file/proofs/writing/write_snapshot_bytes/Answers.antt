use Rattle.std.proofs.Common.{◌≡◌, ◌++◌, ◌+◌, List, [], ℕ, length, refl, sym, ap, subst, ◌∙◌, append_assoc}
use Rattle.std.specs.Io.KnownBytes.{Appends}
use Rattle.std.proofs.KnownBytes.{Appends-trans, Appends-nil}
use Rattle.std.proofs.lemmas.List.{append-nil}
use Rattle.std.proofs.lemmas.Result.{err_from_is_err_and}
use Rattle.sha2.specs.Sha256.{sha256}
use Rattle.snapshot_file.specs.declared.snapshot.WriteFault.TheVariants as faults
use Rattle.snapshot_file.specs.Snapshots.{header_bytes, hashed_bytes, snapshot_bytes}
use Rattle.snapshot_file.proofs.Writings.{part_taken, part_shorter, reported_as, nothing_shorter}
use Rattle.snapshot_file.proofs.writing.write_snapshot_bytes.Goals as goal

pub returns-in_err-prefix-clause-part : goal.returns-in_err-prefix-clause-part
returns-in_err-prefix-clause-part g c =
    let p = err_from_is_err_and c.from_residual.result c.from_residual.ensures.1 in
    rw p.1 (0, nothing_shorter c.args.header.now c.args.records.now, Appends-nil _, λ _. refl)

pub returns-in_err-write_out-clause-part : goal.returns-in_err-write_out-clause-part
returns-in_err-write_out-clause-part g c =
    let e = c.in_err-write_out.ensures.prefix in
    let prefix : List ℕ = c.deref-2.result.now in
    let beyond : List ℕ = c.args.records.now ++ sha256 (hashed_bytes c.args.header.now c.args.records.now) in
    let encoded : snapshot_bytes c.args.header.now c.args.records.now ≡ [] ++ (prefix ++ beyond) =
    append_assoc (header_bytes c.args.header.now) c.args.records.now (sha256 (hashed_bytes c.args.header.now c.args.records.now))
    ∙ ap (λ (x : List ℕ). x ++ beyond) (sym (c.deref-2.ensures.value ∙ c.in_ok-prefix.ensures)) in
    reported_as _ faults.Write _ c.from_residual-in_err-write_out.ensures.1 (
      0 + e.0,
      part_shorter [] prefix beyond _ e.0 encoded e.1,
      subst (Appends _ _) (part_taken [] prefix beyond _ e.0 encoded e.1) e.2,
      λ m. absurd (cc),
    )

pub returns-in_err-write_out-2-clause-part : goal.returns-in_err-write_out-2-clause-part
returns-in_err-write_out-2-clause-part g c =
    let e = c.in_err-write_out-2.ensures.prefix in
    let prefix : List ℕ = c.deref-2.result.now in
    let digest : List ℕ = sha256 (hashed_bytes c.args.header.now c.args.records.now) in
    let encoded : snapshot_bytes c.args.header.now c.args.records.now ≡ prefix ++ (c.args.records.now ++ digest) =
    append_assoc (header_bytes c.args.header.now) c.args.records.now digest
    ∙ ap (λ (x : List ℕ). x ++ (c.args.records.now ++ digest)) (sym (c.deref-2.ensures.value ∙ c.in_ok-prefix.ensures)) in
    reported_as _ faults.Write _ c.from_residual-in_err-write_out-2.ensures.1 (
      length prefix + e.0,
      part_shorter prefix c.args.records.now _ _ e.0 encoded e.1,
      subst (Appends _ _) (part_taken prefix c.args.records.now _ _ e.0 encoded e.1) (Appends-trans _ _ _ _ _ c.in_ok-write_out.ensures.all e.2),
      λ m. absurd (cc),
    )

pub returns-in_err-write_out-3-clause-part : goal.returns-in_err-write_out-3-clause-part
returns-in_err-write_out-3-clause-part g c =
    let e = c.in_err-write_out-3.ensures.prefix in
    let prefix : c.deref-2.result.now ≡ header_bytes c.args.header.now = c.deref-2.ensures.value ∙ c.in_ok-prefix.ensures in
    let hashed : c.deref.result.now ≡ header_bytes c.args.header.now = c.deref.ensures.value ∙ c.in_ok-prefix.ensures in
    let digest : c.digest_of-digest.result ≡ sha256 (hashed_bytes c.args.header.now c.args.records.now) = c.digest_of-digest.ensures
    ∙ ap (λ (x : List ℕ). sha256 (x ++ c.args.records.now)) hashed in
    let before : List ℕ = c.deref-2.result.now ++ c.args.records.now in
    let encoded : snapshot_bytes c.args.header.now c.args.records.now ≡ before ++ (c.digest_of-digest.result ++ []) =
    ap (λ (x : List ℕ). hashed_bytes c.args.header.now c.args.records.now ++ x) (sym (append-nil c.digest_of-digest.result ∙ digest))
    ∙ ap (λ (x : List ℕ). (x ++ c.args.records.now) ++ (c.digest_of-digest.result ++ [])) (sym prefix) in
    reported_as _ faults.Write _ c.from_residual-in_err-write_out-3.ensures.1 (
      length before + e.0,
      part_shorter before c.digest_of-digest.result [] _ e.0 encoded e.1,
      subst (Appends _ _) (part_taken before c.digest_of-digest.result [] _ e.0 encoded e.1)
          (Appends-trans _ _ _ _ _ (Appends-trans _ _ _ _ _ c.in_ok-write_out.ensures.all c.in_ok-write_out-2.ensures.all) e.2),
      λ m. absurd (cc),
    )
