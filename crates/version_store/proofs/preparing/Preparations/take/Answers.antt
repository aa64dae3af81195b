use Rattle.std.proofs.Common.{subst, sym}
use Rattle.version_store.specs.Together.{ArePrepared, HasWholeFor}
use Rattle.version_store.proofs.preparing.Preparations.take.Goals as goal

pub returns-clause-left : goal.returns-clause-left
returns-clause-left c e so_far =
    let begun = subst (ArePrepared e) (sym c.replace-begun.ensures.value) so_far in
    subst (ArePrepared e) (sym c.replace.ensures.after) (c.taken-left.ensures.left e begun)

pub returns-clause-answer : goal.returns-clause-answer
returns-clause-answer c e so_far =
    c.taken-left.ensures.answer e (subst (ArePrepared e) (sym c.replace-begun.ensures.value) so_far)

pub returns-clause-given : goal.returns-clause-given
returns-clause-given c whole =
    c.taken-left.ensures.given (subst (HasWholeFor c.args.scheme c.args.query.now) (sym c.replace-begun.ensures.value) whole)
