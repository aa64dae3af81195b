use Rattle.hint_update.proofs.Columns.{IsUpdatedTo}
use Rattle.hint_update.proofs.update_double.Given as goal

abbrev pub invariant-loop-r : goal.invariant-loop-r
invariant-loop-r g l =
    IsUpdatedTo l.r (g.S.DigitStore.digits l.initial.server_hint) (g.S.DigitStore.digits l.server_hint) l.initial.client_hint l.client_hint l.a2 l.w l.row
    l.words
