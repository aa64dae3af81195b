use Rattle.std.proofs.Common.{arith, refl, ap, sym, ◌∙◌, ◌≡◌, ℕ, ◌/◌, List, [], ◌∷◌, length}
use Rattle.std.proofs.lemmas.List.FromFn.{map-range_with_len_more}
use Rattle.matrix_u32.specs.Sum.{list_of}
use Rattle.matrix_u32.specs.Matrix.{WordMatrix}
use Rattle.seed_expand.specs.Words.{public_rows}
use Rattle.digit_pack.specs.Layout.{Shape, digit_cols}
use Rattle.hint_changes.specs.Changes.{ChangedRecord, moved, rows_in_place}
use Rattle.hint_changes.specs.Entries.{change_in, changes_in, entry_count}
use Rattle.kept_changes.specs.Moves.{changed_record}
use Rattle.kept_changes.proofs.Alike.{none_moves, one_more_alike}
use Rattle.kept_changes.proofs.moving.move_place.Goals as goal

pub loop-k-init : goal.loop-k-init
loop-k-init g c = record {
  seed = refl;
  dimension = refl;
  rows = refl;
  cols = refl;
  moved = none_moves c.args.layout.now
      (public_rows c.args.public.now.seed 0 0 (digit_cols c.args.layout.now) c.args.public.now.dimension) c.args.hint.now c.args.place
      c.requires.rows c.requires.place;
}

pub loop-k-preserved : goal.loop-k-preserved
loop-k-preserved g c =
    let l : Shape = c.args.layout.now in
    let cols : ℕ = digit_cols l in
    let a1 : WordMatrix = public_rows c.args.public.now.seed 0 0 cols c.args.public.now.dimension in
    let change : ℕ → ChangedRecord = change_in c.record_len-len.result c.args.entries.now in
    let k : ℕ = c.loop-k.k in
    let place : ℕ = c.args.place in
    let now : WordMatrix = c.loop-k.hint in
    let one : rows_in_place l place c.move_by_change.new.hint ≡ rows_in_place l place (moved l a1 (change k ∷ []) now) =
    c.move_by_change.ensures.moved
    ∙ ap (λ (s : List ℕ). rows_in_place l place (moved l (public_rows s 0 0 cols c.loop-k.public.dimension) (changed_record c.change_in-change.result ∷ []) now))
    c.loop-k.invariant.seed
    ∙ ap (λ n. rows_in_place l place (moved l (public_rows c.args.public.now.seed 0 0 cols n) (changed_record c.change_in-change.result ∷ []) now))
    c.loop-k.invariant.dimension
    ∙ ap (λ (x : ChangedRecord). rows_in_place l place (moved l a1 (x ∷ []) now)) c.change_in-change.ensures in
    record {
      seed = c.move_by_change.ensures.public.0 ∙ c.loop-k.invariant.seed;
      dimension = c.move_by_change.ensures.public.1 ∙ c.loop-k.invariant.dimension;
      rows = c.move_by_change.ensures.size.0 ∙ c.loop-k.invariant.rows;
      cols = c.move_by_change.ensures.size.1 ∙ c.loop-k.invariant.cols;
      moved = one_more_alike l a1 c.args.hint.now now c.move_by_change.new.hint (list_of k change) (change k) place c.requires.rows
          (c.loop-k.invariant.rows ∙ c.requires.rows) c.requires.place c.loop-k.invariant.moved one
          ∙ ap (λ (cs : List ChangedRecord). rows_in_place l place (moved l a1 cs c.args.hint.now))
          (sym (map-range_with_len_more change 0 k k (omega arith)));
    }

pub returns-clause-moved : goal.returns-clause-moved
returns-clause-moved g c =
    let l : Shape = c.args.layout.now in
    let a1 : WordMatrix = public_rows c.args.public.now.seed 0 0 (digit_cols l) c.args.public.now.dimension in
    let bytes : List ℕ = c.args.entries.now in
    let len : ℕ = c.record_len-len.result in
    let count : length bytes / c.entry_len.result ≡ entry_count len bytes = ap (λ e. length bytes / e) c.entry_len.ensures.value in
    let all : c.loop-k.k ≡ entry_count len bytes = omega (arith, c.loop-k-test.false, c.loop-k.auto.k-end, count) in
    c.loop-k.invariant.moved
    ∙ ap (λ k. rows_in_place l c.args.place (moved l a1 (list_of k (change_in len bytes)) c.args.hint.now)) all
    ∙ ap (λ n. rows_in_place l c.args.place (moved l a1 (changes_in n bytes) c.args.hint.now)) c.record_len-len.ensures.value
