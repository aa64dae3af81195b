use Rattle.std.proofs.Common.{◌≡◌, ◌++◌, List, [], ℕ, rules, sym, ap, subst, ◌∙◌, inl}
use Rattle.std.proofs.lemmas.List.{append-nil}
use Rattle.std.specs.Io.KnownBytes.{Consumes}
use Rattle.std.proofs.KnownBytes.{Consumes-trans}
use Rattle.snapshot_file.specs.Verdicts.{StopsReadingAt}
use Rattle.snapshot_file.specs.Snapshots.{magic, header_bytes, IsAccepted}
use Rattle.snapshot_file.proofs.reading.read_header.Goals as goal

pub returns-in_err-header-clause-err : goal.returns-in_err-header-clause-err
returns-in_err-header-clause-err g c =
    let e = c.in_err-header.ensures.err in
    let is : c.in_ok-first.first ≡ magic c.in-Some.form = c.in-Some.ensures.found.1 in
    let h : (read : List ℕ) × Consumes (g.R.Read.remaining c.args.reader.now) (g.R.Read.remaining c.read_fields.new.reader) read
    × StopsReadingAt c.in_err-header.field-0.0 read (g.R.Read.remaining c.read_fields.new.reader) = (
      c.in_ok-first.first ++ e.0,
      Consumes-trans _ _ _ _ _ c.in_ok-first.ensures.ok.1 e.1,
      subst (λ (x : List ℕ). StopsReadingAt c.in_err-header.field-0.0 (x ++ e.0) (g.R.Read.remaining c.read_fields.new.reader)) (sym is) e.2,
    ) in
    search (rules, h)

pub returns-then-not-is_accepted-clause-err : goal.returns-then-not-is_accepted-clause-err
returns-then-not-is_accepted-clause-err g c =
    let r = c.in_ok-header.ensures.ok in
    let is : c.in_ok-first.first ≡ magic c.in-Some.form = c.in-Some.ensures.found.1 in
    let refused : ¬ IsAccepted c.in_ok-header.header = search rules in
    let encoded : c.in_ok-first.first ++ r.0 ≡ header_bytes c.in_ok-header.header ++ [] =
    ap (λ (x : List ℕ). x ++ r.0) is ∙ r.2 ∙ sym (append-nil (header_bytes c.in_ok-header.header)) in (
      c.in_ok-first.first ++ r.0,
      Consumes-trans _ _ _ _ _ c.in_ok-first.ensures.ok.1 r.3,
      inl (c.in_ok-header.header, r.1, refused, encoded),
    )

pub returns-clause-ok : goal.returns-clause-ok
returns-clause-ok g c =
    let r = c.in_ok-header.ensures.ok in
    let is : c.in_ok-first.first ≡ magic c.in-Some.form = c.in-Some.ensures.found.1 in
    let taken : IsAccepted c.in_ok-header.header = search rules in
    let encoded : c.in_ok-first.first ++ r.0 ≡ header_bytes c.in_ok-header.header = ap (λ (x : List ℕ). x ++ r.0) is ∙ r.2 in (
      r.1,
      taken,
      subst (Consumes _ _) encoded (Consumes-trans _ _ _ _ _ c.in_ok-first.ensures.ok.1 r.3),
    )
