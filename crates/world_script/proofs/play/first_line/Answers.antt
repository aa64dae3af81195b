use Rattle.std.proofs.Common.{◌==◌, length, sym, rules, tests}
use Rattle.std.specs.List.{position_or_len}
use Rattle.std.proofs.lemmas.Iterator.{YieldsList-from_slice}
use Rattle.std.proofs.lemmas.Iterator.Search.{position_from_yields_List}
use Rattle.world_script.proofs.Words.{cut_at, cut_none, found_at, not_found}
use Rattle.world_script.proofs.play.first_line.Goals as goal

pub returns-in-Some : goal.returns-in-Some
returns-in-Some c =
    cut_at c.args.script.now c.in-Some.at
    (found_at c.position.result (position_or_len (λ b. b == 10) c.args.script.now) (length c.args.script.now) c.in-Some.at
    (position_from_yields_List (λ b. b == 10) _ _ _ c.position.ensures.ran (YieldsList-from_slice c.args.script.now c.iter.ensures.rest)
    (λ x b q k. search (rules, tests)))
    c.in-Some.is)

pub returns-in-None : goal.returns-in-None
returns-in-None c =
    cut_none c.args.script.now (sym c.if-is_empty.ensures)
    (not_found c.position.result (position_or_len (λ b. b == 10) c.args.script.now) (length c.args.script.now)
    (position_from_yields_List (λ b. b == 10) _ _ _ c.position.ensures.ran (YieldsList-from_slice c.args.script.now c.iter.ensures.rest)
    (λ x b q k. search (rules, tests)))
    c.in-None.is)
