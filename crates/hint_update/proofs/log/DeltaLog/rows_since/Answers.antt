use Rattle.std.proofs.Common.{ap, ◌∙◌, take}
use Rattle.std.specs.List.{flat_map}
use Rattle.hint_update.specs.Logs.{lists_since}
use Rattle.hint_update.proofs.Logs.{sorted_rows}
use Rattle.hint_update.proofs.log.DeltaLog.rows_since.Goals as goal

pub returns-clause-rows : goal.returns-clause-rows
returns-clause-rows c =
    sorted_rows (lists_since c.args.self.now c.args.version) c.in_ok-rows.rows.items c.sort_unstable.new.self.items c.dedup.new.self.items
    (c.in_ok-rows.ensures ∙ ap (λ n. flat_map (λ list. list) (take n c.args.self.now.lists)) c.in-Some.ensures.some.1)
    c.sort_unstable.ensures.permutation c.sort_unstable.ensures.sorted c.dedup.ensures.filtered
