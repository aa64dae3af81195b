use Rattle.std.proofs.Common.{arith, ap, sym, ◌∙◌, ◌≡◌, ◌+◌, ◌<◌, ◌++◌, ℕ, List, length, take, map, get_or}
use Rattle.std.proofs.lemmas.List.{length-map}
use Rattle.std.specs.List.{flat_map}
use Rattle.hint_update.proofs.Logs.{joined_more}
use Rattle.hint_update.proofs.log.DeltaLog.first_lists.Goals as goal

pub loop-k-preserved : goal.loop-k-preserved
loop-k-preserved c =
    let before : List ℕ → List ℕ = λ more. c.loop-k.rows.items ++ more in
    let inner : List (List ℕ) = map (λ rows. rows.items) c.self.inside.lists.items in
    let view : inner ≡ c.args.self.now.lists = ap (λ l. l.lists) c.self.view_is in
    let many : c.loop-k.k < length c.self.inside.lists.items =
    omega (arith, c.loop-k-test.true, c.requires, ap length view, length-map c.self.inside.lists.items (λ rows. rows.items)) in
    c.in_ok-extend_from_slice.ensures.items
    ∙ ap before (c.deref.ensures.value ∙ ap (λ rows. rows.items) c.index.ensures)
    ∙ ap (λ (x : List ℕ). x ++ (get_or c.self.inside.lists.items c.loop-k.k c.index.result.now).items) (c.loop-k.invariant
    ∙ ap (λ (l : List (List ℕ)). flat_map (λ list. list) (take c.loop-k.k l)) (sym view))
    ∙ sym (joined_more (λ rows. rows.items) c.self.inside.lists.items c.loop-k.k c.index.result.now many)
    ∙ ap (λ (l : List (List ℕ)). flat_map (λ list. list) (take (c.loop-k.k + 1) l)) view
