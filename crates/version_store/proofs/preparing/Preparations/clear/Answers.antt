use Rattle.std.proofs.Common.{subst, sym}
use Rattle.version_store.specs.Together.{ArePrepared}
use Rattle.version_store.proofs.preparing.Preparations.clear.Goals as goal

pub returns : goal.returns
returns c e = subst (ArePrepared e) (sym c.replace.ensures.after) (c.none.ensures e)
