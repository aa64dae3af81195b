use Rattle.std.proofs.Common.{arith, refl, ap, sym, ◌∙◌, ◌≡◌, ℕ, ◌+◌, ◌-◌, ◌*◌, ◌/◌, List, [], ◌∷◌, length, take, drop}
use Rattle.std.proofs.lemmas.List.FromFn.{map-range_with_len_more}
use Rattle.matrix_u32.specs.Sum.{list_of}
use Rattle.matrix_u32.specs.Matrix.{WordMatrix}
use Rattle.seed_expand.specs.Words.{public_rows}
use Rattle.digit_pack.specs.Layout.{Shape, digit_cols}
use Rattle.hint_changes.specs.Changes.{ChangedRecord, RowOfPublic, moved}
use Rattle.hint_changes.specs.Entries.{change_in, changes_in, entry_count, entry_len, index_in}
use Rattle.hint_changes.proofs.EntryLemmas.{none_made, one_more_made}
use Rattle.hint_changes.proofs.entries.move_by_entries.Goals as goal

pub loop-k-init : goal.loop-k-init
loop-k-init g c = record {
  seed = refl;
  dimension = refl;
  hint = none_made c.args.layout.now
      (public_rows c.args.public.now.seed 0 0 (digit_cols c.args.layout.now) c.args.public.now.dimension) c.args.hint.now c.rows.ensures.whole;
}

pub loop-k-preserved : goal.loop-k-preserved
loop-k-preserved g c =
    let l : Shape = c.args.layout.now in
    let cols : ℕ = digit_cols l in
    let a1 : WordMatrix = public_rows c.args.public.now.seed 0 0 cols c.args.public.now.dimension in
    let bytes : List ℕ = c.args.bytes.now in
    let len : ℕ = c.record_len-len.result in
    let k : ℕ = c.loop-k.k in
    let at : ℕ = k * c.entry_len-in-loop-k.result in
    let place : at ≡ k * entry_len len = ap (λ e. k * e) c.entry_len-in-loop-k.ensures.value in
    let old : List ℕ = take (at + 4 + len - (at + 4)) (drop (at + 4) bytes) in
    let new : List ℕ = take (at + (4 + len) + len - (at + (4 + len))) (drop (at + (4 + len)) bytes) in
    let cut_old : at + 4 + len - (at + 4) ≡ len = omega arith in
    let cut_new : at + (4 + len) + len - (at + (4 + len)) ≡ len = omega arith in
    let olds : old ≡ (change_in len bytes k).old =
    ap (λ n. take n (drop (at + 4) bytes)) cut_old ∙ ap (λ p. take len (drop (p + 4) bytes)) place in
    let news : new ≡ (change_in len bytes k).new =
    ap (λ n. take n (drop (at + (4 + len)) bytes)) cut_new
    ∙ ap (λ p. take len (drop (p + (4 + len)) bytes)) place in
    let change : record { index = c.number_in-number.result; old = old; new = new } ≡ change_in len bytes k =
    ap (λ (i : ℕ). record { index = i; old = old; new = new }) c.number_in-number.ensures
    ∙ ap (λ (o : List ℕ). record { index = index_in len bytes k; old = o; new = new }) olds
    ∙ ap (λ (n : List ℕ). record { index = index_in len bytes k; old = (change_in len bytes k).old; new = n }) news in
    let made : List ChangedRecord = list_of k (change_in len bytes) in
    record {
      seed = ap (λ (r : RowOfPublic). r.seed) c.move_record.ensures.public ∙ c.loop-k.invariant.seed;
      dimension = ap (λ (r : RowOfPublic). r.dimension) c.move_record.ensures.public ∙ c.loop-k.invariant.dimension;
      hint = c.move_record.ensures.hint
          ∙ ap (λ (s : List ℕ). moved l (public_rows s 0 0 cols c.loop-k.public.dimension) (record { index = c.number_in-number.result; old = old; new = new } ∷ []) c.loop-k.hint)
          c.loop-k.invariant.seed
          ∙ ap (λ n. moved l (public_rows c.args.public.now.seed 0 0 cols n) (record { index = c.number_in-number.result; old = old; new = new } ∷ []) c.loop-k.hint)
          c.loop-k.invariant.dimension
          ∙ ap (λ (x : ChangedRecord). moved l a1 (x ∷ []) c.loop-k.hint) change
          ∙ ap (moved l a1 (change_in len bytes k ∷ [])) c.loop-k.invariant.hint
          ∙ one_more_made l a1 c.args.hint.now made (change_in len bytes k)
          ∙ ap (λ (cs : List ChangedRecord). moved l a1 cs c.args.hint.now) (sym (map-range_with_len_more (change_in len bytes) 0 k k (omega arith)));
    }

pub returns-clause-hint : goal.returns-clause-hint
returns-clause-hint g c =
    let l : Shape = c.args.layout.now in
    let a1 : WordMatrix = public_rows c.args.public.now.seed 0 0 (digit_cols l) c.args.public.now.dimension in
    let bytes : List ℕ = c.args.bytes.now in
    let len : ℕ = c.record_len-len.result in
    let size : c.record_len-len.result ≡ l.record_len = c.record_len-len.ensures.value in
    let count : length bytes / c.entry_len.result ≡ entry_count len bytes = ap (λ e. length bytes / e) c.entry_len.ensures.value in
    let all : c.loop-k.k ≡ entry_count len bytes = omega (arith, c.loop-k-test.false, c.loop-k.auto.k-end, count) in
    c.loop-k.invariant.hint
    ∙ ap (λ k. moved l a1 (list_of k (change_in len bytes)) c.args.hint.now) all
    ∙ ap (λ n. moved l a1 (changes_in n bytes) c.args.hint.now) size
