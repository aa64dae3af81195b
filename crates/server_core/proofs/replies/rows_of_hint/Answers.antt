use Rattle.std.proofs.Common.{arith, ap, ◌∙◌, ◌≤◌, ℕ, List, length}
use Rattle.server_core.specs.Serving.{Setting, setting_of}
use Rattle.server_core.proofs.Deltas.{rows_are, whole_rows, few_words, all_sent}
use Rattle.server_core.proofs.replies.rows_of_hint.Goals as goal

pub new-requires-2 : goal.new-requires-2
new-requires-2 g c =
    let x : Setting = setting_of c.args.store.now in
    let records : List (List ℕ) = c.args.store.now.edition.records in
    let all : length c.args.rows.now ≤ c.loop-row.row-index = omega (arith, c.loop-row-test.false) in
    whole_rows x records c.args.rows.now c.dimension-dimension.result c.new.result c.dimension-dimension.ensures.value
    (c.new.ensures.items ∙ all_sent x records c.args.rows.now c.loop-row.words.items c.loop-row.row-index all c.loop-row.invariant.0)

pub returns-clause-rows : goal.returns-clause-rows
returns-clause-rows g c =
    let x : Setting = setting_of c.args.store.now in
    let records : List (List ℕ) = c.args.store.now.edition.records in
    let all : length c.args.rows.now ≤ c.loop-row.row-index = omega (arith, c.loop-row-test.false) in
    c.new-2.ensures
    ∙ rows_are x records c.args.rows.now c.dimension-dimension.result c.new.result c.dimension-dimension.ensures.value
    (c.new.ensures.items ∙ all_sent x records c.args.rows.now c.loop-row.words.items c.loop-row.row-index all c.loop-row.invariant.0)

pub returns-clause-few : goal.returns-clause-few
returns-clause-few g c =
    let x : Setting = setting_of c.args.store.now in
    let records : List (List ℕ) = c.args.store.now.edition.records in
    let all : length c.args.rows.now ≤ c.loop-row.row-index = omega (arith, c.loop-row-test.false) in
    few_words x records c.args.rows.now c.new-2.result.words c.requires.few c.dimension-dimension.ensures.high
    (ap (λ r. r.words) c.new-2.ensures ∙ c.new.ensures.items
    ∙ all_sent x records c.args.rows.now c.loop-row.words.items c.loop-row.row-index all c.loop-row.invariant.0)
