use Rattle.std.proofs.Common.{◌≤◌, length, subst, sym, ℕ, List}
use Rattle.std.specs.Io.KnownBytes.{Consumes}
use Rattle.world_script.specs.Progress.{ReportsEnd}
use Rattle.world_script.proofs.Ending.{if_done, reading_done, reading_cut, playing_done, playing_cut}
use Rattle.world_script.proofs.play.rehearse.Goals as goal

pub returns-in-Err-clause-done : goal.returns-in-Err-clause-done
returns-in-Err-clause-done g c =
    if_done (g.R.Read.remaining c.args.reader.now) (g.R.Read.remaining c.read_script.new.reader) (g.W.Write.contents c.args.writer.now)
    (g.W.Write.contents c.report.new.writer) (g.W.Write.contents c.args.writer.now) c.in-Err.stop c.report.result
    (λ status h. reading_done (g.R.Read.remaining c.args.reader.now) (g.R.Read.remaining c.read_script.new.reader) (g.W.Write.contents c.args.writer.now)
    (g.W.Write.contents c.report.new.writer) c.in-Err.stop status c.in-Err.ensures.stops h)
    c.report.ensures.printed

pub returns-in-Err-clause-cut : goal.returns-in-Err-clause-cut
returns-in-Err-clause-cut g c = λ e.
    reading_cut (g.R.Read.remaining c.args.reader.now) (g.R.Read.remaining c.read_script.new.reader) (g.W.Write.contents c.args.writer.now)
    (g.W.Write.contents c.report.new.writer) c.in-Err.stop c.in-Err.ensures.stops
    (subst (λ r. ReportsEnd c.in-Err.stop (g.W.Write.contents c.args.writer.now) r (g.W.Write.contents c.report.new.writer)) e c.report.ensures.printed)

pub returns-clause-done : goal.returns-clause-done
returns-clause-done g c =
    let read : Consumes (g.R.Read.remaining c.args.reader.now) (g.R.Read.remaining c.read_script.new.reader) c.as_slice.result.now =
    subst (λ (s : List ℕ). Consumes (g.R.Read.remaining c.args.reader.now) (g.R.Read.remaining c.read_script.new.reader) s)
    (sym c.as_slice.ensures.value) c.in-Ok.ensures.whole in
    let within : length c.as_slice.result.now ≤ 1048576 = subst (λ (s : List ℕ). length s ≤ 1048576) (sym c.as_slice.ensures.value) c.in-Ok.ensures.within in
    if_done (g.R.Read.remaining c.args.reader.now) (g.R.Read.remaining c.read_script.new.reader) (g.W.Write.contents c.args.writer.now)
    (g.W.Write.contents c.report-in-Err-play.new.writer) (g.W.Write.contents c.play.new.writer) c.in-Err-play.stop c.report-in-Err-play.result
    (λ status h. playing_done c.as_slice.result.now (g.R.Read.remaining c.args.reader.now) (g.R.Read.remaining c.read_script.new.reader)
    (g.W.Write.contents c.args.writer.now) (g.W.Write.contents c.play.new.writer) (g.W.Write.contents c.report-in-Err-play.new.writer)
    c.in-Err-play.stop status read c.in-Ok.ensures.end within c.in-Err-play.ensures h)
    c.report-in-Err-play.ensures.printed

pub returns-clause-cut : goal.returns-clause-cut
returns-clause-cut g c = λ e.
    let read : Consumes (g.R.Read.remaining c.args.reader.now) (g.R.Read.remaining c.read_script.new.reader) c.as_slice.result.now =
    subst (λ (s : List ℕ). Consumes (g.R.Read.remaining c.args.reader.now) (g.R.Read.remaining c.read_script.new.reader) s)
    (sym c.as_slice.ensures.value) c.in-Ok.ensures.whole in
    let within : length c.as_slice.result.now ≤ 1048576 = subst (λ (s : List ℕ). length s ≤ 1048576) (sym c.as_slice.ensures.value) c.in-Ok.ensures.within in
    playing_cut c.as_slice.result.now (g.R.Read.remaining c.args.reader.now) (g.R.Read.remaining c.read_script.new.reader)
    (g.W.Write.contents c.args.writer.now) (g.W.Write.contents c.play.new.writer) (g.W.Write.contents c.report-in-Err-play.new.writer)
    c.in-Err-play.stop read c.in-Ok.ensures.end within c.in-Err-play.ensures
    (subst (λ r. ReportsEnd c.in-Err-play.stop (g.W.Write.contents c.play.new.writer) r (g.W.Write.contents c.report-in-Err-play.new.writer)) e
    c.report-in-Err-play.ensures.printed)
