use Rattle.std.proofs.Common.{arith, ap, ◌∙◌, lit<, ◌≡◌, ℕ, ◌/◌, ◌%◌, ◌^◌, ◌≤◌}
use Rattle.std.proofs.Math.Nat.{pow-le-pow_right}
use Rattle.std.specs.Prelude.{slice_index}
use Rattle.matrix_u32.specs.Matrix.{WordMatrix}
use Rattle.lane_kernels.specs.Digit.{digit}
use Rattle.digit_pack.proofs.DigitSums.{split_some}
use Rattle.hint_update.specs.Updates.{word_digit_at}
use Rattle.hint_update.proofs.Columns.{none_updated, one_updated, all_written, all_moved, both_follow}
use Rattle.hint_update.proofs.update_double.Goals as goal

pub loop-r-init : goal.loop-r-init
loop-r-init g c =
    none_updated (g.S.DigitStore.digits c.args.server_hint.now) c.args.client_hint.now c.args.a2.now c.args.w c.args.row c.args.words.now
    c.rows-r-end.ensures.whole c.rows-rows.ensures.whole

pub get-old-requires-clause-row : goal.get-old-requires-clause-row
get-old-requires-clause-row g c = omega (arith, c.loop-r-test.true, c.rows-r-end.ensures.value, c.loop-r.invariant.server_rows)

pub get-old-requires-clause-col : goal.get-old-requires-clause-col
get-old-requires-clause-col g c = omega (arith, c.requires.server_col, c.loop-r.invariant.server_cols)

pub update_simple-requires-clause-row : goal.update_simple-requires-clause-row
update_simple-requires-clause-row g c = omega (arith, c.loop-r-test.true, c.rows-r-end.ensures.value, c.requires.client_rows, c.loop-r.invariant.client_rows)

pub update_simple-requires-clause-cols : goal.update_simple-requires-clause-cols
update_simple-requires-clause-cols g c = c.loop-r.invariant.client_cols ∙ c.requires.client_cols

pub set-requires-clause-row : goal.set-requires-clause-row
set-requires-clause-row g c = omega (arith, c.loop-r-test.true, c.rows-r-end.ensures.value, c.loop-r.invariant.server_rows)

pub set-requires-clause-col : goal.set-requires-clause-col
set-requires-clause-col g c = omega (arith, c.requires.server_col, c.loop-r.invariant.server_cols)

pub set-requires-clause-small : goal.set-requires-clause-small
set-requires-clause-small g c =
    let few : 2 ^ c.args.w ≤ 2 ^ 10 = pow-le-pow_right (lit< tt) c.requires.width.1 in
    omega (arith, few, c.word_digit-digit.ensures.small)

pub loop-r-preserved : goal.loop-r-preserved
loop-r-preserved g c =
    let w : ℕ = c.args.w in
    let r : ℕ = c.loop-r.r in
    let s0 : WordMatrix = g.S.DigitStore.digits c.args.server_hint.now in
    let s : WordMatrix = g.S.DigitStore.digits c.loop-r.server_hint in
    let old : WordMatrix = c.loop-r.client_hint in
    let new : ℕ = c.word_digit-digit.result in
    let is : new ≡ word_digit_at w c.args.words.now r =
    c.word_digit-digit.ensures.value ∙ ap (λ n. digit w (slice_index c.args.words.now (r / n)) (r % n)) c.split_count-count.ensures in
    rw c.set.ensures
    (one_updated r s0 s c.args.client_hint.now old c.args.a2.now w c.args.row c.args.words.now new c.update_simple.new.hint c.loop-r.invariant
    (omega (arith, c.loop-r-test.true, c.rows-r-end.ensures.value)) c.requires.server_col c.requires.client_rows c.requires.client_cols c.requires.rows is
    (rw c.get-old.ensures at c.update_simple.ensures.follows)
    (rw c.get-old.ensures at c.update_simple.ensures.changed)
    c.update_simple.ensures.others)

pub returns-clause-server : goal.returns-clause-server
returns-clause-server g c =
    all_written c.loop-r.r (g.S.DigitStore.digits c.args.server_hint.now)
    (g.S.DigitStore.digits c.loop-r.server_hint) c.args.client_hint.now c.loop-r.client_hint
    c.args.a2.now c.args.w c.args.row c.args.words.now (omega (arith, c.loop-r-test.false, c.rows-r-end.ensures.value)) c.requires.server_rows
    c.loop-r.invariant

pub returns-clause-client : goal.returns-clause-client
returns-clause-client g c =
    all_moved c.loop-r.r (g.S.DigitStore.digits c.args.server_hint.now) (g.S.DigitStore.digits c.loop-r.server_hint) c.args.client_hint.now c.loop-r.client_hint
    c.args.a2.now c.args.w c.args.row c.args.words.now (omega (arith, c.loop-r-test.false, c.rows-r-end.ensures.value)) c.requires.client_rows
    c.loop-r.invariant

pub returns-clause-follows : goal.returns-clause-follows
returns-clause-follows g c = λ d a1 digits fits is made.
    both_follow c.args.w (g.S.DigitStore.digits c.args.server_hint.now) (g.S.DigitStore.digits c.loop-r.server_hint) c.args.client_hint.now c.loop-r.client_hint
    a1 c.args.a2.now d c.args.row digits c.args.words.now (split_some c.args.w (omega (arith, c.requires.width.0))) fits is
    (returns-clause-server g c) c.loop-r.invariant.follows made
