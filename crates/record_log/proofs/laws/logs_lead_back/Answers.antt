use Rattle.record_log.proofs.Versions.{logs_lead_back}
use Rattle.record_log.proofs.laws.logs_lead_back.Goals as goal

pub returns : goal.returns
returns c = logs_lead_back
