use Rattle.std.proofs.Common.{◌≡◌, ◌∙◌, arith, sym, subst, ℕ, List}
use Rattle.matrix_u32.specs.Matrix.{WordMatrix}
use Rattle.hint_update.specs.Updates.{AreRowsBelow, FollowsListed, TakesRows, moved_by_rows}
use Rattle.hint_update.specs.Words.{IsRowsBuffers}
use Rattle.hint_update.specs.declared.rows.RowsBuffers.{RowsBuffers}
use Rattle.version_store.proofs.ListedRows.{marked_listed, listed_below}
use Rattle.version_store.proofs.RowLemmas.{none_followed, part_followed, all_followed}
use Rattle.version_store.proofs.rows.follow_rows.Goals as goal

pub loop-r-init : goal.loop-r-init
loop-r-init g c = record {
  within = omega arith;
  room = record {
    some = c.requires.room.some;
    rows = c.requires.room.rows;
    listed = c.requires.room.listed;
  };
  most = c.rows-most.ensures.value;
  follows = none_followed c.args.marked.now.w c.args.marked.now.hint.now c.args.a2.now (g.S.DigitStore.digits c.args.server.now) c.args.client.now c.args.marked.now.marks.now
      c.requires.server_rows c.requires.server_cols c.requires.client_rows c.requires.client_cols;
}

pub update_double_rows-requires-clause-listed : goal.update_double_rows-requires-clause-listed
update_double_rows-requires-clause-listed g c =
    let listed : List ℕ = c.list_marked-r.new.listed.items in
    let end : ℕ = c.list_marked-r.result in
    let rows : AreRowsBelow c.args.marked.now.hint.now.rows listed =
    listed_below c.args.marked.now.marks.now c.loop-r.r end c.args.marked.now.hint.now.rows listed (omega (arith, c.list_marked-r.ensures.inside, c.requires.marks))
    (marked_listed c.args.marked.now.marks.now c.loop-r.r end listed (omega (arith, c.list_marked-r.ensures.further)) c.list_marked-r.ensures.listed) in
    subst (AreRowsBelow c.args.marked.now.hint.now.rows) (sym c.deref.ensures.value) rows

pub update_double_rows-requires-clause-room : goal.update_double_rows-requires-clause-room
update_double_rows-requires-clause-room g c =
    subst (λ n. IsRowsBuffers c.loop-r.room.rows.public.rows n c.loop-r.room.rows) (sym c.requires.second_cols) c.loop-r.invariant.room.rows

pub loop-r-preserved : goal.loop-r-preserved
loop-r-preserved g c =
    let marks : _ = c.args.marked.now.marks.now in
    let r : ℕ = c.loop-r.r in
    let end : ℕ = c.list_marked-r.result in
    let w : ℕ = c.args.marked.now.w in
    let hint : WordMatrix = c.args.marked.now.hint.now in
    let a2 : WordMatrix = c.args.a2.now in
    let s : WordMatrix = g.S.DigitStore.digits c.loop-r.server in
    let s' : WordMatrix = g.S.DigitStore.digits c.update_double_rows.new.server_hint in
    let c' : WordMatrix = c.update_double_rows.new.client_hint in
    let listed : List ℕ = c.list_marked-r.new.listed.items in
    let same : c.deref.result.now ≡ listed = c.deref.ensures.value in
    let e : _ = c.update_double_rows.ensures in
    let rows : RowsBuffers = c.update_double_rows.new.room in
    let same_rows : rows.public.rows ≡ c.loop-r.room.rows.public.rows = e.room.public_rows in
    record {
      within = c.list_marked-r.ensures.inside;
      room = record {
        some = omega (arith, same_rows, c.loop-r.invariant.room.some);
        rows = subst (λ n. IsRowsBuffers n hint.cols rows) (sym same_rows)
            (subst (λ n. IsRowsBuffers c.loop-r.room.rows.public.rows n rows) c.requires.second_cols e.room);
        listed = omega (arith, same_rows, c.loop-r.invariant.room.listed, c.list_marked-r.ensures.room);
      };
      most = c.loop-r.invariant.most ∙ sym same_rows;
      follows = part_followed r end w hint a2 (g.S.DigitStore.digits c.args.server.now) s s' c.args.client.now c.loop-r.client c' marks listed
          c.list_marked-r.ensures.inside
          (marked_listed marks r end listed (omega (arith, c.list_marked-r.ensures.further)) c.list_marked-r.ensures.listed)
          (subst (TakesRows w hint s s') same e.server) (subst (λ xs. c' ≡ moved_by_rows c.loop-r.client s s' a2 xs) same e.client)
          (subst (FollowsListed w hint a2 s s' c.loop-r.client c') same e.follows) c.loop-r.invariant.follows;
    }

pub returns : goal.returns
returns g c =
    all_followed c.loop-r.r c.args.marked.now.w c.args.marked.now.hint.now c.args.a2.now (g.S.DigitStore.digits c.args.server.now) (g.S.DigitStore.digits c.loop-r.server)
    c.args.client.now c.loop-r.client c.args.marked.now.marks.now (omega (arith, c.loop-r-test.false)) c.loop-r.invariant.follows
