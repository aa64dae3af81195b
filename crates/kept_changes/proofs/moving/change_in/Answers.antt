use Rattle.std.proofs.Common.{arith, ap, ◌∙◌, ◌≡◌, ℕ, ◌+◌, ◌-◌, ◌*◌, List, take, drop}
use Rattle.std.proofs.lemmas.Nat.{mul-add-lt}
use Rattle.hint_changes.specs.Entries.{change_in, entry_count, entry_len, index_in}
use Rattle.kept_changes.proofs.moving.change_in.Goals as goal

pub slice_bounds-result-end-2 : goal.slice_bounds-result-end-2
slice_bounds-result-end-2 c =
    let len : ℕ = c.args.len in
    let place : c.args.k * c.entry_len.result ≡ c.args.k * entry_len len = ap (λ e. c.args.k * e) c.entry_len.ensures.value in
    omega (arith, place, mul-add-lt c.args.k (entry_len len) (entry_len len - 1) (entry_count len c.args.entries.now) c.requires.inside (omega arith))

pub returns : goal.returns
returns c =
    let len : ℕ = c.args.len in
    let k : ℕ = c.args.k in
    let bytes : List ℕ = c.args.entries.now in
    let at : ℕ = k * c.entry_len.result in
    let place : at ≡ k * entry_len len = ap (λ e. k * e) c.entry_len.ensures.value in
    let old : List ℕ = take (at + 4 + len - (at + 4)) (drop (at + 4) bytes) in
    let new : List ℕ = take (at + (4 + len) + len - (at + (4 + len))) (drop (at + (4 + len)) bytes) in
    let cut_old : at + 4 + len - (at + 4) ≡ len = omega arith in
    let cut_new : at + (4 + len) + len - (at + (4 + len)) ≡ len = omega arith in
    let olds : old ≡ (change_in len bytes k).old =
    ap (λ n. take n (drop (at + 4) bytes)) cut_old ∙ ap (λ p. take len (drop (p + 4) bytes)) place in
    let news : new ≡ (change_in len bytes k).new =
    ap (λ n. take n (drop (at + (4 + len)) bytes)) cut_new
    ∙ ap (λ p. take len (drop (p + (4 + len)) bytes)) place in
    ap (λ (i : ℕ). record { index = i; old = old; new = new }) c.number_in.ensures
    ∙ ap (λ (o : List ℕ). record { index = index_in len bytes k; old = o; new = new }) olds
    ∙ ap (λ (n : List ℕ). record { index = index_in len bytes k; old = (change_in len bytes k).old; new = n }) news
