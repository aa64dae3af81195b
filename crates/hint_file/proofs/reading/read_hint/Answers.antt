use Rattle.hint_file.proofs.WholeRead.{IsNoHint, IsNoNamed, some_more, hint_read, no_hint}
use Rattle.hint_file.proofs.reading.read_hint.Goals as goal

pub returns-clause-read : goal.returns-clause-read
returns-clause-read g c = hint_read c.read_named.result c.magic-begins.result _ c.magic-begins.ensures c.read_named.ensures.read

pub returns-clause-damaged : goal.returns-clause-damaged
returns-clause-damaged g c = λ h.
    some_more _ (IsNoNamed c.magic-begins.result 0) IsNoHint (c.read_named.ensures.damaged h) (λ bytes never. no_hint c.magic-begins.result bytes c.magic-begins.ensures never)
