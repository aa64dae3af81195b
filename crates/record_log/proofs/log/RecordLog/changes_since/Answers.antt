use Rattle.std.proofs.Common.{◌≡◌, ℕ, ◌-◌, ◌<◌, ◌↔◌, List, length, get_or, arith, ap, ◌∙◌, sym, subst, IfOk, IfSome, IsNone}
use Rattle.std.proofs.lemmas.List.Elements.{All-drop}
use Rattle.record_log.specs.OldRecords.{OldRecord, entries_bytes}
use Rattle.record_log.specs.Logs.{AreInside, KeptLog, newest}
use Rattle.record_log.specs.Steps.{olds_of}
use Rattle.record_log.proofs.Walk.{all_changes, slice_is}
use Rattle.record_log.proofs.log.RecordLog.changes_since.Goals as goal

pub changes_in-requires-clause-inside : goal.changes_in-requires-clause-inside
changes_in-requires-clause-inside g c =
    let lists : List (List OldRecord) = c.args.self.now.lists in
    let found = slice_is c.deref.result.now lists c.args.n c.len.result (ap olds_of c.deref.ensures.value ∙ ap (λ (v : KeptLog). v.lists) c.self.view_is)
    (omega (arith, c.len.ensures, c.self.inside.lists.ok.0, ap length c.deref.ensures.value)) in
    subst (AreInside c.args.count) (sym found)
    (All-drop (λ (olds : List OldRecord). (k : ℕ) (d : OldRecord) → k < length olds → (get_or olds k d).index < c.args.count) (length lists - c.args.n) lists c.requires.inside)

pub returns-clause-entries : goal.returns-clause-entries
returns-clause-entries g c =
    let lists : List (List OldRecord) = c.args.self.now.lists in
    let bytes : List ℕ = g.S.RecordSource.bytes c.args.current.now in
    let found = slice_is c.deref.result.now lists c.args.n c.len.result (ap olds_of c.deref.ensures.value ∙ ap (λ (v : KeptLog). v.lists) c.self.view_is)
    (omega (arith, c.len.ensures, c.self.inside.lists.ok.0, ap length c.deref.ensures.value)) in
    let P : List (List OldRecord) → ℕ → Type 0 = λ l len.
    IfOk c.changes_in.result (λ made. IfSome made (λ entries. entries.items ≡ entries_bytes (all_changes l len c.args.count bytes))) in
    subst (P (newest c.args.n lists)) c.requires.record_len
    (subst (λ (l : List (List OldRecord)). P l (g.S.RecordSource.record_len c.args.current.now)) found c.changes_in.ensures.entries)

pub returns-clause-too_many : goal.returns-clause-too_many
returns-clause-too_many g c =
    let lists : List (List OldRecord) = c.args.self.now.lists in
    let bytes : List ℕ = g.S.RecordSource.bytes c.args.current.now in
    let found = slice_is c.deref.result.now lists c.args.n c.len.result (ap olds_of c.deref.ensures.value ∙ ap (λ (v : KeptLog). v.lists) c.self.view_is)
    (omega (arith, c.len.ensures, c.self.inside.lists.ok.0, ap length c.deref.ensures.value)) in
    let P : List (List OldRecord) → ℕ → Type 0 = λ l len.
    IfOk c.changes_in.result (λ made. IsNone made ↔ (c.args.most < length (entries_bytes (all_changes l len c.args.count bytes)))) in
    subst (P (newest c.args.n lists)) c.requires.record_len
    (subst (λ (l : List (List OldRecord)). P l (g.S.RecordSource.record_len c.args.current.now)) found c.changes_in.ensures.too_many)
