use Rattle.std.proofs.Common.{ap, ◌∙◌, sym, subst, ◌≡◌, ◌*◌, ℕ, List, length}
use Rattle.pir_schemes.specs.Plans.{digits_at}
use Rattle.matrix_u32.specs.Matrix.{WordMatrix}
use Rattle.matrix_u32.proofs.Products.{length-list_of}
use Rattle.lane_kernels.specs.Digit.{split_count}
use Rattle.digit_pack.specs.Layout.{digit_rows, record_at}
use Rattle.version_store.specs.Drafts.{draft_of, bytes_or, change_at}
use Rattle.version_store.specs.Editions.{Records, version_shape, MarksChanges}
use Rattle.version_store.specs.Buffers.{IsRoomForRows}
use Rattle.version_store.proofs.DoubleLemmas.{server_rows, server_cols, client_rows, client_cols, version_followed}
use Rattle.version_store.proofs.edition.Edition.apply.Goals as goal

pub follow_rows-requires-clause-server_rows : goal.follow_rows-requires-clause-server_rows
follow_rows-requires-clause-server_rows g c =
    let e : Records = c.self.inside.layer in
    let cols : c.hint.result.now.cols ≡ e.plan.dimension = c.hint.ensures.cols ∙ ap (λ e. e.plan.dimension) c.apply_changes.ensures.records in
    let width : c.width-w.result ≡ e.plan.width =
    c.width-w.ensures.value ∙ ap (λ l. l.width) c.layout.ensures.value ∙ ap (λ e. e.plan.width) c.apply_changes.ensures.records in
    ap (λ (m : WordMatrix). m.rows) c.self.invariant.0.server_is ∙ server_rows e
    ∙ ap (λ n. n * split_count e.plan.width) (sym cols) ∙ ap (λ w. c.hint.result.now.cols * split_count w) (sym width)

pub follow_rows-requires-clause-server_cols : goal.follow_rows-requires-clause-server_cols
follow_rows-requires-clause-server_cols g c =
    ap (λ (m : WordMatrix). m.cols) c.self.invariant.0.server_is ∙ server_cols c.self.inside.layer
    ∙ sym (c.hint.ensures.rows ∙ ap (λ e. digit_rows (version_shape e)) c.apply_changes.ensures.records)

pub follow_rows-requires-clause-client_rows : goal.follow_rows-requires-clause-client_rows
follow_rows-requires-clause-client_rows g c =
    let e : Records = c.self.inside.layer in
    let cols : c.hint.result.now.cols ≡ e.plan.dimension = c.hint.ensures.cols ∙ ap (λ e. e.plan.dimension) c.apply_changes.ensures.records in
    let width : c.width-w.result ≡ e.plan.width =
    c.width-w.ensures.value ∙ ap (λ l. l.width) c.layout.ensures.value ∙ ap (λ e. e.plan.width) c.apply_changes.ensures.records in
    ap (λ (m : WordMatrix). m.rows) c.self.invariant.0.client_is ∙ client_rows e
    ∙ ap (λ n. n * split_count e.plan.width) (sym cols) ∙ ap (λ w. c.hint.result.now.cols * split_count w) (sym width)

pub follow_rows-requires-clause-client_cols : goal.follow_rows-requires-clause-client_cols
follow_rows-requires-clause-client_cols g c =
    ap (λ (m : WordMatrix). m.cols) c.self.invariant.0.client_is ∙ client_cols c.self.inside.layer
    ∙ sym (c.hint.ensures.cols ∙ ap (λ e. e.plan.dimension) c.apply_changes.ensures.records)

pub follow_rows-requires-clause-room : goal.follow_rows-requires-clause-room
follow_rows-requires-clause-room g c =
    let cols : c.hint.result.now.cols ≡ c.self.inside.layer.plan.dimension =
    c.hint.ensures.cols ∙ ap (λ e. e.plan.dimension) c.apply_changes.ensures.records in
    subst (λ n. IsRoomForRows n c.args.rows.now) (sym (ap (λ e. e.plan.dimension) c.self.view_is) ∙ sym cols) c.requires.rows

pub invariant_of-self : goal.invariant_of-self
invariant_of-self g c =
    let e : Records = c.self.inside.layer in
    let draft : List (List ℕ) = draft_of e.records c.args.changes.now.entries in
    let long : length draft ≡ length e.records =
    length-list_of (length e.records) (λ i. bytes_or (change_at c.args.changes.now.entries i) (record_at e.records i)) in (
      version_followed e c.apply_changes.new.layer draft c.hint.result.now c.self.inside.a2 c.self.inside.server c.follow_rows.new.server c.self.inside.client
          c.follow_rows.new.client
          c.width-w.result c.args.marks.now c.apply_changes.new.marks c.apply_changes.ensures.records long c.hint.ensures.value
          (c.requires.marks ∙ sym (ap (λ e. digit_rows (version_shape e)) c.self.view_is)) c.apply_changes.ensures.marks
          (c.width-w.ensures.value ∙ ap (λ l. l.width) c.layout.ensures.value) c.follow_rows.ensures c.self.invariant.0,
      c.clear.ensures _,
    )

pub returns-clause-marks : goal.returns-clause-marks
returns-clause-marks g c =
    let from : Records → Type 0 = λ e. MarksChanges (digits_at e.plan e.records)
    (digits_at c.apply_changes.new.layer.plan c.apply_changes.new.layer.records) c.args.marks.now c.apply_changes.new.marks in
    subst from c.self.view_is c.apply_changes.ensures.marks
