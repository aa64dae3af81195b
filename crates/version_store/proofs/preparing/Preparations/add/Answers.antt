use Rattle.std.proofs.Common.{subst, sym}
use Rattle.version_store.specs.Together.{ArePrepared}
use Rattle.version_store.proofs.preparing.Preparations.add.Goals as goal

pub returns : goal.returns
returns c e so_far one =
    let begun = subst (ArePrepared e) (sym c.replace-begun.ensures.value) so_far in
    subst (ArePrepared e) (sym c.replace.ensures.after) (c.with-all.ensures e begun one)
