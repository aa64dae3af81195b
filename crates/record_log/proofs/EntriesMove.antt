-- Entries that move a hint.
use Rattle.std.proofs.Common.{◌≡◌, ℕ, ◌<◌, ◌^◌, ap, ◌∙◌, sym, arith, All, List, [], length, get_or}
use Rattle.matrix_u32.specs.Matrix.{product}
use Rattle.digit_pack.specs.Layout.{Shape, digit_matrix}
use Rattle.hint_changes.specs.Changes.{ChangedRecord, IsChangeBetween, LeadTo, changes_between, moved}
use Rattle.hint_changes.proofs.Between.{between_lead}
use Rattle.hint_changes.proofs.NetChanges.{changes_lead}
use Rattle.record_log.specs.Laws.{EntriesMoveTheHint}
use Rattle.record_log.proofs.EntryBytes.{IsChangeOf, entries_say_the_changes}

-- changes between records of one length fit entries
they_fit : (l : Shape) (before after : List (List ℕ)) (changes : List ChangedRecord) → LeadTo l changes before after →
    length before ≡ length after → l.count < 2 ^ 32 →
    All (λ (bytes : List ℕ). length bytes ≡ l.record_len) before → All (λ (bytes : List ℕ). length bytes ≡ l.record_len) after →
    All (IsChangeOf l.record_len) changes
they_fit l before after changes lead long small old new = λ k d h.
    let c : ChangedRecord = get_or changes k d in
    let is : IsChangeBetween l before after c = lead.each k d h in (
      omega (arith, is.inside, small),
      ap length (sym is.old) ∙ old c.index [] is.there,
      ap length (sym is.new) ∙ new c.index [] (omega (arith, is.there, long)),
    )

pub entries_move : EntriesMoveTheHint
entries_move l before after a1 shape inner small long room old new =
    let changes : List ChangedRecord = changes_between before after in
    let lead : LeadTo l changes before after = between_lead l before after long room in
    ap (λ (cs : List ChangedRecord). moved l a1 cs (product (digit_matrix l before) a1))
    (entries_say_the_changes l.record_len changes (they_fit l before after changes lead long small old new))
    ∙ changes_lead l changes before after a1 shape inner lead
