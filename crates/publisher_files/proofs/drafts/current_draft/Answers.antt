use Rattle.publisher_files.proofs.drafts.current_draft.Goals as goal

pub returns-in-Ok : goal.returns-in-Ok
returns-in-Ok c = λ link version ps each e.
    let it = c.in-Ok.ensures.merged link version ps each e in
    (c.in-Ok.ensures.good link version ps each e, it.0, it.1)
