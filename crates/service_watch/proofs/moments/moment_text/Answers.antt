use Rattle.std.proofs.Common.{◌%◌, ap, ◌∙◌}
use Rattle.service_watch.specs.Moments.{rfc3339_text}
use Rattle.service_watch.proofs.moments.moment_text.Goals as goal

pub returns-in-Ok-clause-text : goal.returns-in-Ok-clause-text
returns-in-Ok-clause-text c =
    (c.in-Ok.date, c.in-Ok.ensures.value, c.rearranged.ensures ∙ ap (λ t. rfc3339_text t (c.args.millis % 1000)) c.to_bytes.ensures)
