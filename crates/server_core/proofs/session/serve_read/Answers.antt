use Rattle.std.proofs.Common.{[], ◌∷◌, Ok, Err}
use Rattle.version_store.specs.Histories.{History, StandsFor}
use Rattle.server_core.specs.declared.standing.Standing.{Standing}
use Rattle.server_core.specs.Serving.{setting_of}
use Rattle.server_core.specs.Sessions.{ServedFrames}
use Rattle.server_core.proofs.Firsts.{read_none, read_one, read_fault, for_each}
use Rattle.server_core.proofs.session.serve_read.Goals as goal

pub returns-in-None-clause-ok : goal.returns-in-None-clause-ok
returns-in-None-clause-ok g c h s = rw (c.in-Ok.is, c.in-None.is) (read_none h c.args.standing c.args.store.now c.args.out.now.items s)

pub returns-in-Some-clause-ok : goal.returns-in-Some-clause-ok
returns-in-Some-clause-ok g c =
    rw (c.in-Ok.is, c.in-Some.is) (for_each c.serve_frame.result (λ (h : History). StandsFor c.args.store.now h)
    (λ (h : History) (after : Standing). ServedFrames (setting_of c.args.store.now) h c.args.standing (c.in-Some.frame ∷ []) (Ok tt) c.serve_frame.new.store
    after c.args.out.now.items c.serve_frame.new.out.items)
    (λ h s. read_one h c.args.standing c.in-Some.frame c.args.store.now c.serve_frame.new.store c.args.out.now.items c.serve_frame.new.out.items
    c.serve_frame.result c.requires s (rw c.in-Some.frame-is at c.serve_frame.ensures.ok)))

pub returns-in-Err-clause-ok : goal.returns-in-Err-clause-ok
returns-in-Err-clause-ok g c =
    rw c.in-Err.is (for_each c.end_piece.result (λ (h : History). StandsFor c.args.store.now h)
    (λ (h : History) (after : Standing). ServedFrames (setting_of c.args.store.now) h c.args.standing [] (Err c.in-Err.fault) c.args.store.now
    after c.args.out.now.items c.end_piece.new.out.items)
    (λ h s. read_fault h c.args.standing c.in-Err.fault c.args.store.now c.args.out.now.items c.end_piece.new.out.items
    c.end_piece.result c.requires s c.end_piece.ensures.ok))
