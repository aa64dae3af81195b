use Rattle.record_log.proofs.EntryBytes.{entries_say_the_changes}
use Rattle.record_log.proofs.laws.entries_say_the_changes.Goals as goal

pub returns : goal.returns
returns c = entries_say_the_changes
