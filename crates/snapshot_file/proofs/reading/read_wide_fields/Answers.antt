use Rattle.std.proofs.Common.{◌++◌, ◌∷◌, List, ℕ, rules, slice_index, drop, arith, sym, ap, ◌∙◌}
use Rattle.std.proofs.lemmas.List.{take_all, length-drop}
use Rattle.std.specs.Io.KnownBytes.{Consumes}
use Rattle.snapshot_file.specs.Snapshots.{magic, IsWideForm}
use Rattle.snapshot_file.specs.Verdicts.{StopsReadingAt}
use Rattle.snapshot_file.proofs.Readings.{first_and_rest, wide_header, stops_in_wide_fields, stops_at_form}
use Rattle.snapshot_file.proofs.reading.read_wide_fields.Goals as goal

pub returns-in_err-fields-clause-err : goal.returns-in_err-fields-clause-err
returns-in_err-fields-clause-err g c =
    let e = c.in_err-fields.ensures.err in
    let h : (read : List ℕ) × Consumes (g.R.Read.remaining c.args.reader.now) (g.R.Read.remaining c.read_array.new.reader) read
    × StopsReadingAt c.in_err-fields.field-0.0 (magic 129 ++ read) (g.R.Read.remaining c.read_array.new.reader) =
    (e.0, e.1, stops_in_wide_fields _ e.0 _ e.2) in
    search (rules, h)

pub returns-then-form-2-clause-err : goal.returns-then-form-2-clause-err
returns-then-form-2-clause-err g c =
    let other : ¬ IsWideForm (slice_index c.in_ok-fields.fields 0) = search rules in
    (c.in_ok-fields.fields, c.in_ok-fields.ensures.ok.1, stops_at_form c.in_ok-fields.fields c.in_ok-fields.ensures.ok.0 other)

pub returns-clause-ok : goal.returns-clause-ok
returns-clause-ok g c =
    let wide : IsWideForm (slice_index c.in_ok-fields.fields 0) = search rules in
    let same = first_and_rest 83 c.in_ok-fields.fields c.in_ok-fields.ensures.ok.0
    ∙ ap (λ (x : List ℕ). slice_index c.in_ok-fields.fields 0 ∷ x) (sym (take_all 83 (drop 1 c.in_ok-fields.fields) (omega (arith, length-drop 1 c.in_ok-fields.fields, c.in_ok-fields.ensures.ok.0)))) in (
      c.in_ok-fields.fields,
      c.header_in.ensures.header,
      wide_header _ _ c.in_ok-fields.fields _ wide c.header_in.ensures.bytes same,
      c.in_ok-fields.ensures.ok.1,
    )
