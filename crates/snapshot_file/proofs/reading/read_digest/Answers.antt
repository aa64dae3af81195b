use Rattle.std.proofs.Common.{◌≡◌, ◌++◌, List, [], ℕ, Option, Result, Ok, Err, rules, ap, subst, ◌∙◌, inl, inr}
use Rattle.std.proofs.lemmas.List.{append-nil}
use Rattle.std.specs.Prelude.{IfErr, OnOk}
use Rattle.std.specs.Io.KnownBytes.{Consumes, IsAtEnd}
use Rattle.std.proofs.KnownBytes.{Consumes-trans}
use Rattle.snapshot_file.specs.declared.snapshot.SnapshotFault.{SnapshotFault}
use Rattle.snapshot_file.specs.declared.snapshot.SnapshotFault.TheVariants as faults
use Rattle.snapshot_file.specs.Verdicts.{EndsBelow, EndsAfter, EndsAtDigest}
use Rattle.snapshot_file.proofs.reading.read_digest.Goals as goal

-- the input ended, or failed, in the digest
stops_before : (fault : SnapshotFault) (digest part : List ℕ) (left : Option (List ℕ)) → EndsBelow 32 fault part left → EndsAtDigest digest fault part left
stops_before faults.Short digest part left d = d
stops_before faults.Read digest part left d = inl d
stops_before faults.NotSnapshot digest part left d = absurd d
stops_before faults.BadLayout digest part left d = absurd d
stops_before faults.BadDigest digest part left d = absurd d
stops_before faults.TrailingBytes digest part left d = absurd d
stops_before faults.Memory digest part left d = absurd d
stops_before faults.BadSlot digest part left d = absurd d

-- a byte came after it, or a read failed
stops_after : (fault : SnapshotFault) (digest read part : List ℕ) (left : Option (List ℕ)) → read ≡ digest → EndsAfter fault part →
    EndsAtDigest digest fault (read ++ part) left
stops_after faults.TrailingBytes digest read part left e d = (d.0, ap (λ (x : List ℕ). x ++ part) e ∙ ap (λ (x : List ℕ). digest ++ x) d.1)
stops_after faults.Read digest read part left e d = inr (ap (λ (x : List ℕ). read ++ x) d ∙ append-nil read ∙ e)
stops_after faults.Short digest read part left e d = absurd d
stops_after faults.NotSnapshot digest read part left e d = absurd d
stops_after faults.BadLayout digest read part left e d = absurd d
stops_after faults.BadDigest digest read part left e d = absurd d
stops_after faults.Memory digest read part left e d = absurd d
stops_after faults.BadSlot digest read part left e d = absurd d

-- what reading the end returns, after this digest
module _ {A : Type 0} (before middle after : Option (List ℕ)) (read digest : List ℕ) (first : Consumes before middle read) (same : read ≡ digest) where
  pub refused : (r : Result A SnapshotFault) → IfErr r (λ fault. (part : List ℕ) × Consumes middle after part × EndsAfter fault part) →
      IfErr r (λ fault. (part : List ℕ) × Consumes before after part × EndsAtDigest digest fault part after)
  refused (Ok x) e = tt
  refused (Err fault) e = (read ++ e.0, Consumes-trans _ _ _ _ _ first e.1, stops_after fault digest read e.0 after same e.2)

  pub ended : (r : Result A SnapshotFault) → OnOk r (Consumes middle after [] × IsAtEnd after) → OnOk r (Consumes before after digest × IsAtEnd after)
  ended (Ok x) e = (subst (Consumes _ _) (append-nil read ∙ same) (Consumes-trans _ _ _ _ _ first e.0), e.1)
  ended (Err fault) e = tt

pub returns-in_err-digest-clause-err : goal.returns-in_err-digest-clause-err
returns-in_err-digest-clause-err g c =
    let e = c.in_err-digest.ensures.err in
    let h : (part : List ℕ) × Consumes (g.R.Read.remaining c.args.reader.now) (g.R.Read.remaining c.read_array.new.reader) part
    × EndsAtDigest c.args.made c.in_err-digest.field-0.0 part (g.R.Read.remaining c.read_array.new.reader) =
    (e.0, e.1, stops_before _ c.args.made e.0 _ e.2) in
    search (rules, h)

pub returns-then-ne-clause-err : goal.returns-then-ne-clause-err
returns-then-ne-clause-err g c =
    let other : ¬ (c.in_ok-digest.digest ≡ c.args.made) = search rules in
    (c.in_ok-digest.digest, c.in_ok-digest.ensures.ok.1, (c.in_ok-digest.ensures.ok.0, other))

pub returns : goal.returns
returns g c =
    let same : c.in_ok-digest.digest ≡ c.args.made = search rules in
    record {
      ok = ended _ _ _ c.in_ok-digest.digest c.args.made c.in_ok-digest.ensures.ok.1 same c.read_end.result c.read_end.ensures.ok;
      err = refused _ _ _ c.in_ok-digest.digest c.args.made c.in_ok-digest.ensures.ok.1 same c.read_end.result c.read_end.ensures.err;
    }
