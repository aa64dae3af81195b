use Rattle.std.proofs.Common.{◌≡◌, ◌+◌, ◌*◌, ◌≤◌, length, take}
use Rattle.std.specs.Prelude.{vec_len, vec_capacity}
use Rattle.server_core.specs.Serving.{setting_of}
use Rattle.server_core.proofs.Deltas.{words_sent}
use Rattle.server_core.proofs.replies.rows_of_hint.Given as goal

abbrev pub invariant-loop-row : goal.invariant-loop-row
invariant-loop-row g l =
    (l.words.items ≡ words_sent (setting_of l.store) l.store.edition.records (take l.row-index l.rows))
    × (vec_len l.words ≡ l.row-index * (l.store.edition.plan.dimension + 1))
    × (length l.rows * (l.store.edition.plan.dimension + 1) ≤ vec_capacity l.words)
