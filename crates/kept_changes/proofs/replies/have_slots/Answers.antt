use Rattle.std.proofs.Common.{◌≡◌, ◌∙◌, ◌<◌, ◌/◌, ℕ, List, true, false, sym, ap, subst, length, arith}
use Rattle.hint_changes.specs.Entries.{change_in, entry_count}
use Rattle.pir_schemes.specs.declared.plan.Plan.{Plan}
use Rattle.client_core.proofs.Entries.{has_slots, slots_pass, slots_fail}
use Rattle.kept_changes.proofs.replies.have_slots.Goals as goal

pub returns-then-not-has_slots : goal.returns-then-not-has_slots
returns-then-not-has_slots c =
    let p : Plan = c.args.plan.now in
    let bytes : List ℕ = c.args.entries.now in
    let len : ℕ = c.from-len.result in
    let k : ℕ = c.loop-k.k in
    let inside : k < entry_count len bytes =
    (let same : length bytes / c.entry_len.result ≡ entry_count len bytes = ap (λ (n : ℕ). length bytes / n) c.entry_len.ensures.value in
    omega (arith, c.loop-k-test.true, same)) in
    let fails : has_slots p (change_in len bytes k) ≡ false =
    sym (ap (has_slots p) c.change_in.ensures) ∙ sym c.has_slots.ensures ∙ c.if-not-has_slots.true in
    sym (slots_fail p bytes k (subst (λ (n : ℕ). k < entry_count n bytes) c.from-len.ensures inside)
    (subst (λ (n : ℕ). has_slots p (change_in n bytes k) ≡ false) c.from-len.ensures fails))

pub returns : goal.returns
returns c =
    let p : Plan = c.args.plan.now in
    let bytes : List ℕ = c.args.entries.now in
    let len : ℕ = c.from-len.result in
    let count : length bytes / c.entry_len.result ≡ entry_count len bytes = ap (λ (n : ℕ). length bytes / n) c.entry_len.ensures.value in
    sym (slots_pass p bytes (subst (λ (n : ℕ). (k : ℕ) → k < entry_count n bytes → has_slots p (change_in n bytes k) ≡ true) c.from-len.ensures
    (λ k lt. c.loop-k.invariant k (omega (arith, lt, count, c.loop-k-test.false)))))
