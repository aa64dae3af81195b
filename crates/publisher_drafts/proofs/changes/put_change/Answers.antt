use Rattle.std.proofs.Common.{ap, ◌∙◌}
use Rattle.publisher_drafts.specs.Merging.{changes_of_map}
use Rattle.publisher_drafts.proofs.Maps.{changes_inserted}
use Rattle.publisher_drafts.proofs.changes.put_change.Goals as goal

pub returns-in-Ok-clause-put : goal.returns-in-Ok-clause-put
returns-in-Ok-clause-put c = ap changes_of_map c.in-Ok.ensures.entries ∙ changes_inserted c.args.changes.now.entries c.args.place c.args.bytes
