use Rattle.std.proofs.Common.{◌≡◌, ℕ, ◌+◌, ◌-◌, ◌%◌, ◌^◌, ◌<◌, arith, ap, ◌∙◌, sym, subst, inl, inr, List, ◌∷◌, [], length}
use Rattle.std.proofs.lemmas.Bool.{cases_eq}
use Rattle.std.specs.Prelude.{slice_index}
use Rattle.matrix_u32.specs.Matrix.{WordMatrix, entry, row}
use Rattle.hint_update.specs.Updates.{AreRowsBelow, TakesBlock, digit_change, word_digit_at}
use Rattle.hint_update.proofs.Listed.{listed_apart}
use Rattle.hint_update.proofs.Blocks.{more_columns_taken, all_columns_taken}
use Rattle.hint_update.proofs.rows.replace_digits.Goals as goal

pub loop-k-preserved : goal.loop-k-preserved
loop-k-preserved g c =
    let w : ℕ = c.args.new_rows.now.w in
    let first : ℕ = c.args.block.first in
    let k : ℕ = c.loop-k.k in
    let count : ℕ = c.args.block.count in
    let listed : List ℕ = c.args.new_rows.now.listed.now in
    let hint : WordMatrix = c.args.new_rows.now.hint.now in
    let s0 : WordMatrix = g.S.DigitStore.digits c.args.server_hint.now in
    let s : WordMatrix = g.S.DigitStore.digits c.loop-k.server_hint in
    let s' : WordMatrix = g.S.DigitStore.digits c.take_column.new.server_hint in
    let rows : AreRowsBelow s0.cols listed = subst (λ n. AreRowsBelow n listed) (sym c.requires.server_cols) c.requires.listed in
    let below : k < length listed = omega (arith, c.loop-k-test.true, c.loop-k.auto.k-end) in
    let taken : TakesBlock w hint s s' (slice_index listed k ∷ []) first count =
    subst (TakesBlock w hint s s' (slice_index listed k ∷ []) first) c.loop-k.invariant.new_count c.take_column.ensures.server in
    record {
      server = more_columns_taken w hint s0 s s' listed k first count rows below c.requires.block c.loop-k.invariant.server taken;
      rows = c.put_differences.ensures.rows ∙ c.loop-k.invariant.rows;
      cols = c.put_differences.ensures.cols ∙ c.loop-k.invariant.cols;
      changes = λ b q l p. elim (cases_eq q k) [
        | inl e ↦
            let col : ℕ = slice_index listed k in
            let here : b < length c.loop-k.new = omega (arith, l, c.loop-k.invariant.new_count) in
            let was : entry s (first + b) col ≡ entry s0 (first + b) col =
            c.loop-k.invariant.server.kept (first + b) col (omega (arith, l, c.requires.block)) (rows.below k below)
            (inl (λ i m. listed_apart listed rows.ascending i k m below)) in
            ap (entry c.put_differences.new.changes b) e
            ∙ c.put_differences.ensures.differences b (omega (arith, here, c.take_column.ensures.new_count))
            ∙ ap (λ y. (y + (2 ^ 32 - slice_index c.take_column.new.old_digits b)) % 2 ^ 32) (c.take_column.ensures.new_digits b here)
            ∙ ap (λ y. (word_digit_at w (row hint col) (first + b) + (2 ^ 32 - y)) % 2 ^ 32) (c.take_column.ensures.old_digits b here ∙ was)
            ∙ ap (digit_change w hint s0 listed (first + b)) (sym e)
        | inr apart ↦
            let before : q < k = omega (arith, p, apart) in
            c.put_differences.ensures.others b q apart (omega (arith, before, below, c.requires.changes_cols, c.loop-k.invariant.cols))
            ∙ c.loop-k.invariant.changes b q l before
      ];
      new_count = c.take_column.ensures.new_count ∙ c.loop-k.invariant.new_count;
      old_count = c.take_column.ensures.old_count ∙ c.loop-k.invariant.old_count;
    }

pub returns-clause-server : goal.returns-clause-server
returns-clause-server g c =
    all_columns_taken c.args.new_rows.now.w c.args.new_rows.now.hint.now (g.S.DigitStore.digits c.args.server_hint.now) (g.S.DigitStore.digits c.loop-k.server_hint) c.args.new_rows.now.listed.now c.loop-k.k
    c.args.block.first c.args.block.count (omega (arith, c.loop-k-test.false, c.loop-k.auto.k-end)) c.loop-k.invariant.server
