use Rattle.std.proofs.Common.{◌≡◌, length, Some, refl}
use Rattle.std.specs.Prelude.{slice_get}
use Rattle.std.proofs.lemmas.Option.{slice_get_read}
use Rattle.pir_world.proofs.Parts.{parts_served}
use Rattle.pir_world.proofs.moves.serve.Goals as goal

pub returns-clause-made : goal.returns-clause-made
returns-clause-made g c x seeds s outcomes inv p =
    let e = c.args.ends.now.items in
    let at : slice_get e c.args.k ≡ Some c.index_mut.result.now =
    slice_get_read e (length e) c.args.k c.index_mut.result.now refl c.requires c.index_mut.ensures.value in
    parts_served x c.args.server.now e outcomes s c.args.k c.index_mut.result.now c.deliver_up.new.self p at c.deliver_up.new.server seeds c.args.most inv
    c.in-Ok.ensures.others c.in-Ok.ensures.served
