use Rattle.std.proofs.Common.{◌≡◌, ◌+◌, ◌-◌, ◌≤◌, ℕ, List, arith, ap, subst, sym, refl, ◌∙◌, length, take, drop}
use Rattle.double_scheme.proofs.StepLemmas.{first_more}
use Rattle.double_scheme.proofs.steps.join_part.Goals as goal

pub returns-clause-joined : goal.returns-clause-joined
returns-clause-joined c whole before is =
    first_more c.args.place (length c.args.part.now) whole c.args.words.now c.copy_from_slice.new.self (c.args.place + length c.args.part.now) refl
    (ap length c.copy_from_slice.ensures.after) (omega (arith, c.requires)) before (c.copy_from_slice.ensures.after ∙ is)
    (c.args.place + length c.args.part.now - c.args.place)
