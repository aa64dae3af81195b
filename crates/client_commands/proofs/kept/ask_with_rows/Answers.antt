use Rattle.std.proofs.Common.{refl, true, Ok, inl, inr, [], rules}
use Rattle.std.specs.Io.KnownBytes.{Appends, Consumes}
use Rattle.client_core.specs.Resuming.{IsResumed}
use Rattle.client_commands.specs.Transcripts.{IsStill}
use Rattle.client_commands.proofs.Dropping.{no_sync, one_at_most, same_seed}
use Rattle.client_commands.proofs.kept.ask_with_rows.Goals as goal

pub returns-in-Err-clause-asked : goal.returns-in-Err-clause-asked
returns-in-Err-clause-asked g c =
    let read : Consumes (g.R.Read.remaining c.args.reader.now) (g.R.Read.remaining c.args.reader.now) [] = search rules in
    let out : Appends (g.W.Write.contents c.args.writer.now) (g.W.Write.contents c.args.writer.now) [] = search rules in
    let still : IsStill c.args.client.now [] [] c.resume.new.self = search rules in
    ([], [], read, out, inl (c.in-Err.fault, refl, c.in-Err.ensures.resumed.0, still))

pub returns-in-Ok-clause-dropped : goal.returns-in-Ok-clause-dropped
returns-in-Ok-clause-dropped g c = inr (no_sync _ _ c.drop_hint.result c.drop_hint.ensures.dropped)

pub returns-in-Ok-clause-number : goal.returns-in-Ok-clause-number
returns-in-Ok-clause-number g c =
    let resumed : IsResumed c.args.client.now.state c.args.saved (Ok true) c.resume.new.self.state = search rules in
    one_at_most c.args.index _ _ _ _ c.args.saved c.drop_hint.result resumed c.ask-asked.ensures.number c.drop_hint.ensures.dropped

pub returns-in-Err-asked-clause-asked : goal.returns-in-Err-asked-clause-asked
returns-in-Err-asked-clause-asked g c =
    let resumed : IsResumed c.args.client.now.state c.args.saved (Ok true) c.resume.new.self.state = search rules in
    let asked = c.in-Err-asked.ensures.transcript in (
      asked.0,
      asked.1,
      asked.2,
      asked.3,
      inr (record {
        holding = c.resume.new.self;
        asked = c.ask-asked.new.client;
        answer = c.drop_hint.result;
        resumed = resumed;
        reader = c.resume.ensures.reader;
        asks = asked.4;
        number = c.ask-asked.ensures.number;
        dropped = c.drop_hint.ensures.dropped;
        kept = c.drop_hint.ensures.reader;
      }),
    )

pub returns-in-Err-asked-clause-dropped : goal.returns-in-Err-asked-clause-dropped
returns-in-Err-asked-clause-dropped g c = inr (no_sync _ _ c.drop_hint.result c.drop_hint.ensures.dropped)

pub returns-in-Err-asked-clause-number : goal.returns-in-Err-asked-clause-number
returns-in-Err-asked-clause-number g c =
    let resumed : IsResumed c.args.client.now.state c.args.saved (Ok true) c.resume.new.self.state = search rules in
    one_at_most c.args.index _ _ _ _ c.args.saved c.drop_hint.result resumed c.ask-asked.ensures.number c.drop_hint.ensures.dropped

pub returns-in-Ok-clause-seed : goal.returns-in-Ok-clause-seed
returns-in-Ok-clause-seed g c =
    let resumed : IsResumed c.args.client.now.state c.args.saved (Ok true) c.resume.new.self.state = search rules in
    same_seed _ _ _ _ c.args.saved c.drop_hint.result resumed c.ask-asked.ensures.seed c.drop_hint.ensures.dropped

pub returns-in-Err-asked-clause-seed : goal.returns-in-Err-asked-clause-seed
returns-in-Err-asked-clause-seed g c =
    let resumed : IsResumed c.args.client.now.state c.args.saved (Ok true) c.resume.new.self.state = search rules in
    same_seed _ _ _ _ c.args.saved c.drop_hint.result resumed c.ask-asked.ensures.seed c.drop_hint.ensures.dropped
