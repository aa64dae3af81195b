use Rattle.std.proofs.Common.{◌≡◌, ◌∙◌, ◌<◌, ◌/◌, ℕ, List, true, false, sym, ap, subst, length, arith}
use Rattle.hint_changes.specs.Entries.{change_in, entry_count}
use Rattle.pir_schemes.specs.declared.plan.Plan.{Plan}
use Rattle.pir_schemes.specs.Plans.{is_slot_of}
use Rattle.client_core.proofs.Entries.{has_slots, slots_pass, slots_fail, old_bytes_read, new_bytes_read, old_fails, new_fails}
use Rattle.client_core.proofs.changes.have_slots.Goals.{then-not-is_slot_of-via-then-not-is_slot_of, then-not-is_slot_of-via-else-not-is_slot_of+then-not-is_slot_of-2}
use Rattle.client_core.proofs.changes.have_slots.Goals as goal

pub returns-then-not-is_slot_of : goal.returns-then-not-is_slot_of
returns-then-not-is_slot_of c =
    let p : Plan = c.args.plan.now in
    let bytes : List ℕ = c.args.entries.now in
    let k : ℕ = c.loop-k.k in
    let len : ℕ = c.from-len.result in
    let size : ℕ = c.entry_len-in-loop-k.result in
    let inside : k < entry_count len bytes =
    (let same : length bytes / c.entry_len.result ≡ entry_count len bytes = ap (λ (n : ℕ). length bytes / n) c.entry_len.ensures.value in
    omega (arith, c.loop-k-test.true, same)) in
    let fails : has_slots p (change_in len bytes k) ≡ false =
    elim c.then-not-is_slot_of.branch [
      | then-not-is_slot_of-via-then-not-is_slot_of w ↦
          old_fails p (change_in len bytes k) (ap (is_slot_of p) (sym (old_bytes_read len size k bytes c.entry_len-in-loop-k.ensures.value))
          ∙ sym c.is_slot_of.ensures ∙ w.if-not-is_slot_of.true)
      | then-not-is_slot_of-via-else-not-is_slot_of+then-not-is_slot_of-2 w ↦
          new_fails p (change_in len bytes k) (ap (is_slot_of p) (sym (new_bytes_read len size k bytes c.entry_len-in-loop-k.ensures.value))
          ∙ sym w.is_slot_of-else-not-is_slot_of.ensures ∙ w.if-not-is_slot_of-2.true)
    ] in
    sym (slots_fail p bytes k (subst (λ (n : ℕ). k < entry_count n bytes) c.from-len.ensures inside)
    (subst (λ (n : ℕ). has_slots p (change_in n bytes k) ≡ false) c.from-len.ensures fails))

pub returns : goal.returns
returns c =
    let p : Plan = c.args.plan.now in
    let bytes : List ℕ = c.args.entries.now in
    let len : ℕ = c.from-len.result in
    let count : length bytes / c.entry_len.result ≡ entry_count len bytes = ap (λ (n : ℕ). length bytes / n) c.entry_len.ensures.value in
    sym (slots_pass p bytes (subst (λ (n : ℕ). (k : ℕ) → k < entry_count n bytes → has_slots p (change_in n bytes k) ≡ true) c.from-len.ensures
    (λ k lt. c.loop-k.invariant k (omega (arith, lt, count, c.loop-k-test.false)))))
