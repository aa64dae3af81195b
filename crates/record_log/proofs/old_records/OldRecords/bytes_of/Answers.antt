use Rattle.std.proofs.Common.{◌≡◌, ℕ, ◌+◌, ◌-◌, ◌*◌, ◌<◌, List, length, take, drop, ap, ◌∙◌, sym, subst, refl, arith, slice_index, true, false}
use Rattle.std.proofs.lemmas.Bool.{both_ways}
use Rattle.std.proofs.lemmas.List.{get_or_read}
use Rattle.record_log.specs.OldRecords.{OldBytes, has_old, old_bytes_in}
use Rattle.record_log.proofs.Olds.{IsPlaceOf, none_elsewhere, there_is}
use Rattle.record_log.proofs.old_records.OldRecords.bytes_of.Goals as goal
use Rattle.record_log.proofs.old_records.OldRecords.bytes_of.Goals.{then-k-len-via-then-k-len, then-k-len-via-else-k-len+then-index-number}

pub returns-then-k-len-clause-there : goal.returns-then-k-len-clause-there
returns-then-k-len-clause-there c =
    let o = c.self.inside in
    let numbers : List ℕ = o.numbers.items in
    let k : ℕ = c.place_of-k.result in
    let place : IsPlaceOf numbers c.args.number k =
    subst (λ (xs : List ℕ). IsPlaceOf xs c.args.number k) c.deref.ensures.value
    (record { less = c.place_of-k.ensures.less; others = c.place_of-k.ensures.others }) in
    let apart : k < length numbers → slice_index numbers k ≡ c.args.number → ⊥ =
    elim c.then-k-len.branch [
      | then-k-len-via-then-k-len w ↦ λ h same. absurd (omega (arith, w.if-k-len.true, c.len.ensures, h, o.numbers.ok.0))
      | then-k-len-via-else-k-len+then-index-number w ↦ λ h same.
          w.if-index-number.true (get_or_read numbers k w.index.result.now h w.index.ensures 0 ∙ same)
    ] in
    let none : has_old c.args.self.now.records c.args.number ≡ false =
    ap (λ (v : OldBytes). has_old v.records c.args.number) (sym c.self.view_is)
    ∙ none_elsewhere o.record_len numbers o.bytes.items c.args.number k c.self.invariant.1 place apart in
    (λ _. none, λ _. refl)

-- the number is in its place
found : (c : goal.After-result-1) →
    (has_old c.args.self.now.records c.args.number ≡ true)
    × (old_bytes_in c.args.self.now.records c.args.number ≡ take c.self.inside.record_len (drop (c.place_of-k.result * c.self.inside.record_len) c.self.inside.bytes.items))
found c =
    let o = c.self.inside in
    let numbers : List ℕ = o.numbers.items in
    let k : ℕ = c.place_of-k.result in
    let place : IsPlaceOf numbers c.args.number k =
    subst (λ (xs : List ℕ). IsPlaceOf xs c.args.number k) c.deref.ensures.value
    (record { less = c.place_of-k.ensures.less; others = c.place_of-k.ensures.others }) in
    let inside : k < length numbers = omega (arith, c.if-k-len.false, c.len.ensures, o.numbers.ok.0) in
    let is : slice_index numbers k ≡ c.args.number =
    sym (get_or_read numbers k c.index.result.now inside c.index.ensures 0) ∙ c.if-index-number.false in
    let there = there_is o.record_len numbers o.bytes.items c.args.number k place inside is in (
      ap (λ (v : OldBytes). has_old v.records c.args.number) (sym c.self.view_is) ∙ there.0,
      ap (λ (v : OldBytes). old_bytes_in v.records c.args.number) (sym c.self.view_is) ∙ there.1,
    )

pub returns-clause-found : goal.returns-clause-found
returns-clause-found c =
    let len : ℕ = c.self.inside.record_len in
    let at : ℕ = c.place_of-k.result * len in
    let cut : at + len - at ≡ len = omega arith in
    ap (λ n. take n (drop at c.deref-2.result.now)) cut
    ∙ ap (λ (b : List ℕ). take len (drop at b)) c.deref-2.ensures.value
    ∙ sym (found c).1

pub returns-clause-there : goal.returns-clause-there
returns-clause-there c = (λ e. absurd (both_ways true e refl), λ e. absurd (both_ways (has_old c.args.self.now.records c.args.number) e (found c).0))
