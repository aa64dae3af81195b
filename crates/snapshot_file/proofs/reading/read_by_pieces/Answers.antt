use Rattle.std.proofs.Common.{◌++◌, List, ℕ, rules}
use Rattle.std.specs.Io.KnownBytes.{Consumes}
use Rattle.std.proofs.KnownBytes.{Consumes-trans}
use Rattle.snapshot_file.specs.Verdicts.{EndsKept}
use Rattle.snapshot_file.proofs.Readings.{kept_more}
use Rattle.snapshot_file.proofs.reading.read_by_pieces.Goals as goal

pub returns-in_err-keep_piece-clause-err : goal.returns-in_err-keep_piece-clause-err
returns-in_err-keep_piece-clause-err g c =
    let e = c.in_err-keep_piece.ensures.err in
    let h : (part : List ℕ) × Consumes (g.R.Read.remaining c.args.reader.now) (g.R.Read.remaining c.keep_piece.new.reader) part
    × EndsKept c.args.wanted c.in_err-keep_piece.field-0.0 part (g.R.Read.remaining c.keep_piece.new.reader) = (
      c.loop-buffer.records.items ++ e.0,
      Consumes-trans _ _ _ _ _ c.loop-buffer.invariant.read e.1,
      kept_more _ c.loop-buffer.records.items e.0 c.args.wanted _ (search rules) e.2,
    ) in
    search (rules, h)
