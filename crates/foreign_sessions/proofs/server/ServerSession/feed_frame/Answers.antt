use Rattle.std.proofs.Common.{◌≡◌, length, rules}
use Rattle.foreign_sessions.proofs.Firsts.{as_piece}
use Rattle.foreign_sessions.proofs.server.ServerSession.feed_frame.Goals as goal

pub returns-in-Ok : goal.returns-in-Ok
returns-in-Ok c =
    let silent : length c.args.self.now.replies.items ≡ 0 = search rules in
    let did = c.in-Ok.ensures in
    record {
      silent = silent;
      fed = did.fed;
      as_piece = as_piece c.args.self.now c.args.id c.args.piece.now c.in-Ok.taken (record { core = c.feed_frame.new.self; replies = c.feed_frame.new.out }) silent did.fed
          did.no_session did.others;
      within = did.within;
      some = did.some;
      no_session = did.no_session;
      refused = tt;
      unchanged = tt;
      others = did.others;
    }
