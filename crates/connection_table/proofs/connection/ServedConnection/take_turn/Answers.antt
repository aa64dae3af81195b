use Rattle.std.proofs.Common.{◌≡◌, ◌≢◌, ◌∙◌, true, false, Option, None, ap, sym}
use Rattle.std.specs.Prelude.{is_some}
use Rattle.connection_table.proofs.connection.ServedConnection.take_turn.Goals as goal

-- what is there is not None
there : {T : Type 0} (o : Option T) → is_some o ≡ true → o ≢ None
there o e n = let no : false ≡ true = ap is_some (sym n) ∙ e in cc

pub serve-requires-clause-there : goal.serve-requires-clause-there
serve-requires-clause-there g c = there _ (sym c.has_session.ensures ∙ c.if-not-has_session.false)
