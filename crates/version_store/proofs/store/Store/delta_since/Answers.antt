use Rattle.std.proofs.Common.{subst, ◌≡◌, ◌<◌, ℕ, List, Option}
use Rattle.std.specs.Prelude.{All, IfOk, IfSome, IsNone, ◌↔◌, option_map}
use Rattle.digit_pack.specs.Layout.{digit_rows}
use Rattle.version_store.specs.Editions.{version_shape}
use Rattle.version_store.specs.Histories.{StoreState, kept_log}
use Rattle.hint_update.specs.Logs.{ReachesBack, lists_since, AreRowsOf}
use Rattle.version_store.proofs.LoggedRows.{held_rows}
use Rattle.version_store.proofs.HistoryLemmas.{held_as_history}
use Rattle.version_store.proofs.RowUnions.{log_answer, answer_below}
use Rattle.version_store.proofs.store.Store.delta_since.Goals as goal

pub returns-clause-none : goal.returns-clause-none
returns-clause-none g c =
    let is : StoreState → Type 0 = λ s. IfOk c.rows_since.result (λ found. IsNone found ↔ ¬ ReachesBack (kept_log s) c.args.version) in
    subst is c.self.view_is c.rows_since.ensures.none

pub returns-clause-rows : goal.returns-clause-rows
returns-clause-rows g c =
    let is : StoreState → Type 0 = λ s. IfOk c.rows_since.result (λ found. IfSome found (λ rows.
    AreRowsOf (lists_since (kept_log s) c.args.version) rows.items)) in
    subst is c.self.view_is c.rows_since.ensures.rows

pub returns-clause-history : goal.returns-clause-history
returns-clause-history g c h s =
    let held : StoreState → Type 0 = λ s. IfOk c.rows_since.result (λ found. option_map (λ rows. rows.items) found ≡ held_rows s c.args.version) in
    let named : held c.args.self.now =
    subst held c.self.view_is
    (log_answer (digit_rows (version_shape c.self.inside.edition)) c.self.inside.log c.args.version c.rows_since.result c.self.invariant.0.rows
    c.rows_since.ensures.none c.rows_since.ensures.rows) in
    let is : Option (List ℕ) → Type 0 = λ rows. IfOk c.rows_since.result (λ found. option_map (λ rows. rows.items) found ≡ rows) in
    subst is (held_as_history c.args.self.now h c.args.version s) named

pub returns-clause-inside : goal.returns-clause-inside
returns-clause-inside g c =
    let below : StoreState → Type 0 = λ s. IfOk c.rows_since.result (λ found. IfSome found (λ rows.
    All (λ r. r < digit_rows (version_shape s.edition)) rows.items)) in
    subst below c.self.view_is
    (answer_below (digit_rows (version_shape c.self.inside.edition)) c.self.inside.log c.args.version c.rows_since.result c.self.invariant.0.rows
    c.rows_since.ensures.rows)
