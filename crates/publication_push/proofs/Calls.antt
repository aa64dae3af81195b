-- What a client sends for an order, and what it takes as done.
use Rattle.frame_codec.specs.declared.frame.Frame.TheVariants as frame
use Rattle.publication_push.specs.Orders.{Edits, Appends, Publishes}
use Rattle.publication_push.specs.Laws.{CallsSendTheirFrames, DonesAreReplies}

pub calls_send_their_frames : CallsSendTheirFrames
calls_send_their_frames old new (Edits place bytes) sent is = is.written
calls_send_their_frames old new (Appends bytes) sent is = is.written
calls_send_their_frames old new (Publishes version) sent is = is.written

pub dones_are_replies : DonesAreReplies
dones_are_replies c (Edits place bytes) (frame.Done v) version e = cc
dones_are_replies c (Edits place bytes) reply version e = absurd (let no : ⊥ = cc in no)
dones_are_replies c (Appends bytes) (frame.Done v) version e = cc
dones_are_replies c (Appends bytes) reply version e = absurd (let no : ⊥ = cc in no)
dones_are_replies c (Publishes named) (frame.Done v) version e = cc
dones_are_replies c (Publishes named) reply version e = absurd (let no : ⊥ = cc in no)
