use Rattle.std.proofs.Common.{◌≡◌, ℕ, ◌+◌, ◌≤◌, arith, ap, ◌∙◌, sym, refl, subst, List}
use Rattle.std.specs.Vec.{with_items}
use Rattle.matrix_u32.specs.Matrix.{WordMatrix, entry}
use Rattle.digit_pack.proofs.DigitSums.{split_some}
use Rattle.hint_update.specs.Updates.{AreRowsBelow, TakesBlock}
use Rattle.hint_update.proofs.Blocks.{more_taken, all_taken, block_moved, all_moved}
use Rattle.hint_update.proofs.Listed.{listed_follows}
use Rattle.hint_update.specs.Words.{IsRowsBuffers, IsWordsBuffers}
use Rattle.hint_update.proofs.rows.update_double_rows.Goals as goal

pub loop-first-preserved : goal.loop-first-preserved
loop-first-preserved g c =
    let w : ℕ = c.args.new_rows.now.w in
    let hint : WordMatrix = c.args.new_rows.now.hint.now in
    let listed : List ℕ = c.args.new_rows.now.listed.now in
    let first : ℕ = c.loop-first.first in
    let count : ℕ = c.min-count.result in
    let s0 : WordMatrix = g.S.DigitStore.digits c.args.server_hint.now in
    let s : WordMatrix = g.S.DigitStore.digits c.loop-first.server_hint in
    let s' : WordMatrix = g.S.DigitStore.digits c.replace_digits.new.server_hint in
    let rows : AreRowsBelow s0.cols listed = subst (λ n. AreRowsBelow n listed) (sym c.requires.server_cols) c.requires.listed in
    let zero : 0 + first ≡ first = omega arith in
    let fits : first + count ≤ s0.rows = omega (arith, c.loop-first-test.true, c.min-count.ensures, c.rows-rows.ensures.value) in
    record {
      within = omega (arith, fits, c.rows-rows.ensures.value);
      server = more_taken w hint s0 s s' listed 0 first count rows (omega (arith, fits)) c.loop-first.invariant.server
          (subst (λ x. TakesBlock w hint s s' listed x count) (sym zero) c.replace_digits.ensures.server);
      client = block_moved w hint s0 s c.args.client_hint.now c.loop-first.client_hint c.add_changed.new.client_hint c.args.a2.now c.loop-first.room.public
          c.replace_digits.new.changes listed first count rows fits c.requires.client_rows c.requires.client_cols c.loop-first.invariant.server
          c.replace_digits.ensures.changes c.loop-first.invariant.copied c.add_changed.ensures.added c.loop-first.invariant.client;
      copied = λ k q l p. ap (λ m. entry m k q) c.add_changed.ensures.public ∙ c.loop-first.invariant.copied k q l p;
      cleared = λ k q l p b. ap (λ m. entry m k q) c.add_changed.ensures.public ∙ c.loop-first.invariant.cleared k q l p b;
      combined = c.add_changed.ensures.combined;
      room = subst (λ n. IsRowsBuffers n c.args.a2.now.cols c.add_changed.new.room) c.loop-first.invariant.room.public_rows
          (subst (λ n. IsRowsBuffers c.loop-first.room.public.rows n c.add_changed.new.room) c.loop-first.invariant.room.public_cols c.add_changed.ensures.room);
    }

pub add_changed-requires-clause-room : goal.add_changed-requires-clause-room
add_changed-requires-clause-room g c =
    let room : _ = c.loop-first.invariant.room in
    let most : c.args.room.now.public.rows ≡ c.loop-first.room.public.rows = sym room.public_rows in
    let cols : c.args.a2.now.cols ≡ c.loop-first.room.public.cols = sym room.public_cols in
    record {
      public_rows = refl;
      public_cols = refl;
      blocks = omega (arith, room.blocks, c.replace_digits.ensures.rows);
      changes = c.replace_digits.ensures.cols ∙ room.changes ∙ most;
      new_digits = sym (with_items c.loop-first.room.new_digits c.replace_digits.new.new_digits).ok.0 ∙ c.loop-first.room.new_digits.ok.0 ∙ room.new_digits
          ∙ sym c.replace_digits.ensures.rows;
      old_digits = sym (with_items c.loop-first.room.old_digits c.replace_digits.new.old_digits).ok.0 ∙ c.loop-first.room.old_digits.ok.0 ∙ room.old_digits
          ∙ sym c.replace_digits.ensures.rows;
      sums = room.sums ∙ most;
      words = subst (λ n. IsWordsBuffers n c.loop-first.room.public.cols c.loop-first.room.words) most
          (subst (λ n. IsWordsBuffers c.args.room.now.public.rows n c.loop-first.room.words) cols room.words);
    }

pub add_changed-requires-clause-cleared : goal.add_changed-requires-clause-cleared
add_changed-requires-clause-cleared g c = λ k q l p b.
    c.loop-first.invariant.cleared k q l (omega (arith, p, c.loop-first.invariant.room.public_rows)) (omega (arith, b, c.loop-first.invariant.room.public_cols))

pub add_changed-requires-clause-combined : goal.add_changed-requires-clause-combined
add_changed-requires-clause-combined g c = c.loop-first.invariant.combined

pub returns-clause-room : goal.returns-clause-room
returns-clause-room g c = c.loop-first.invariant.room

pub returns-clause-server : goal.returns-clause-server
returns-clause-server g c =
    all_taken c.args.new_rows.now.w c.args.new_rows.now.hint.now (g.S.DigitStore.digits c.args.server_hint.now) (g.S.DigitStore.digits c.loop-first.server_hint) c.args.new_rows.now.listed.now
    c.loop-first.first (omega (arith, c.loop-first-test.false, c.rows-rows.ensures.value)) c.loop-first.invariant.server

pub returns-clause-client : goal.returns-clause-client
returns-clause-client g c =
    all_moved c.loop-first.first c.args.new_rows.now.w c.args.new_rows.now.hint.now (g.S.DigitStore.digits c.args.server_hint.now) (g.S.DigitStore.digits c.loop-first.server_hint)
    c.args.client_hint.now c.loop-first.client_hint c.args.a2.now c.args.new_rows.now.listed.now
    (omega (arith, c.loop-first-test.false, c.rows-rows.ensures.value, c.requires.client_rows)) c.requires.client_rows (returns-clause-server g c)
    c.loop-first.invariant.client

pub returns-clause-follows : goal.returns-clause-follows
returns-clause-follows g c = λ old new a1 change made.
    listed_follows c.args.new_rows.now.w (g.S.DigitStore.digits c.args.server_hint.now) (g.S.DigitStore.digits c.loop-first.server_hint) c.args.client_hint.now
    c.loop-first.client_hint a1 c.args.a2.now old new c.args.new_rows.now.hint.now c.args.new_rows.now.listed.now
    (split_some c.args.new_rows.now.w (omega (arith, c.requires.width.0))) (c.requires.width.1) c.requires.rows
    (subst (λ n. AreRowsBelow n c.args.new_rows.now.listed.now) (sym c.requires.server_cols) c.requires.listed)
    (returns-clause-server g c) (returns-clause-client g c) change made
