use Rattle.publication_push.proofs.Calls.{calls_send_their_frames, dones_are_replies}
use Rattle.publication_push.proofs.laws.orders_are_sent.Goals as goal

pub returns-clause-sent : goal.returns-clause-sent
returns-clause-sent c = calls_send_their_frames

pub returns-clause-replied : goal.returns-clause-replied
returns-clause-replied c = dones_are_replies
