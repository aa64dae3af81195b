use Rattle.std.proofs.Common.{ap, ◌∙◌, sym, arith, ◌≡◌, ◌++◌, ◌<◌, ◌^◌, All, ℕ, List, true, length, subst, take, drop}
use Rattle.std.specs.Prelude.{slice_set}
use Rattle.std.proofs.lemmas.List.{with_items_is}
use Rattle.std.proofs.lemmas.List.Elements.{All-from_get_or}
use Rattle.matrix_u32.specs.Matrix.{WordMatrix, product}
use Rattle.digit_pack.specs.Layout.{Shape, IsShape, IsLayout, IsRecord, digit_matrix, digit_cols, first_row, column_of, record_digits, records_in}
use Rattle.digit_pack.specs.Columns.{WritesColumn}
use Rattle.digit_pack.proofs.ColumnLemmas.{written_as}
use Rattle.digit_pack.proofs.Records.{column_inside}
use Rattle.digit_pack.proofs.RecordLemmas.{shape_of_layout, record_replaced}
use Rattle.pir_schemes.specs.declared.plan.Plan.{Plan}
use Rattle.pir_schemes.specs.Plans.{IsPlan, shape_at, fits, slot, slots, records_held, digits_at}
use Rattle.pir_schemes.proofs.Quiet.{slot_is_record}
use Rattle.version_store.specs.Editions.{Records, IsMade, MarksChanges, bytes_held}
use Rattle.version_store.proofs.KeptBytes.{held_ordinary, held_made, replaced, IsReplaced}
use Rattle.version_store.proofs.Versions.{long_records, long_held, shape_again, digits_again}
use Rattle.version_store.proofs.Widened.{hint_spare}
use Rattle.version_store.proofs.Slotted.{held_replaced, good_again, slots_replaced}
use Rattle.version_store.proofs.first_layer.FirstLayer.replace.Given.{Over}
use Rattle.version_store.proofs.first_layer.FirstLayer.replace.Goals.{After-slice_known-5-1 as Place}
use Rattle.version_store.proofs.first_layer.FirstLayer.replace.Goals as goal

pub place-first-requires : goal.place-first-requires
place-first-requires g c =
    omega (arith, c.requires.index, ap (λ e. length e.records) c.self.view_is, long_held c.self.inside.plan c.self.inside.layout.count (bytes_held c.self.inside.plan c.self.inside.layout c.self.inside.kept.items c.self.inside.digits))

pub replace_in_column-requires-clause-made : goal.replace_in_column-requires-clause-made
replace_in_column-requires-clause-made g c =
    let l : Shape = c.self.inside.layout in
    let p : Plan = c.self.inside.plan in
    let sizes : shape_at p l.count ≡ l = c.self.invariant.made.sizes in
    c.self.invariant.made.hint_is
    ∙ hint_spare p (records_held p l.count (bytes_held c.self.inside.plan c.self.inside.layout c.self.inside.kept.items c.self.inside.digits)) c.self.inside.a1 c.self.invariant.made.public_is
    (omega (arith, ap digit_cols (shape_again p l (bytes_held c.self.inside.plan c.self.inside.layout c.self.inside.kept.items c.self.inside.digits) sizes), c.self.invariant.made.enough))
    ∙ ap (λ d. product d c.self.inside.a1) (sym c.self.invariant.made.digits_are)

pub replace_in_column-requires-clause-inner : goal.replace_in_column-requires-clause-inner
replace_in_column-requires-clause-inner g c =
    let l : Shape = c.self.inside.layout in
    omega
    (arith, ap (λ m. m.cols) c.self.invariant.made.digits_are, ap digit_cols (shape_again c.self.inside.plan l (bytes_held c.self.inside.plan c.self.inside.layout c.self.inside.kept.items c.self.inside.digits) c.self.invariant.made.sizes), c.self.invariant.made.enough)

pub replace_in_column-requires-clause-col : goal.replace_in_column-requires-clause-col
replace_in_column-requires-clause-col g c =
    let l : Shape = c.self.inside.layout in
    let shape : IsShape l = shape_of_layout l c.self.invariant.made.layout in
    let inside : c.args.i < l.count =
    omega (arith, c.requires.index, ap (λ e. length e.records) c.self.view_is, long_held c.self.inside.plan l.count (bytes_held c.self.inside.plan c.self.inside.layout c.self.inside.kept.items c.self.inside.digits)) in
    let low : column_of l c.args.i < digit_cols l = column_inside l c.args.i shape.groups inside in
    let col : c.place-first.result.1 ≡ column_of l c.args.i = ap (λ p. p.1) c.place-first.ensures.value in
    let cols : c.self.inside.digits.cols ≡ digit_cols l =
    ap (λ m. m.cols) c.self.invariant.made.digits_are ∙ ap digit_cols (shape_again c.self.inside.plan l (bytes_held c.self.inside.plan c.self.inside.layout c.self.inside.kept.items c.self.inside.digits) c.self.invariant.made.sizes) in
    omega (arith, low, col, cols)

pub keep_record-requires-clause-count : goal.keep_record-requires-clause-count
keep_record-requires-clause-count g c = λ ordinary.
    ap length (c.deref_mut.ensures.value ∙ sym (held_ordinary c.self.inside.plan c.self.inside.layout c.self.inside.kept.items c.self.inside.digits ordinary))
    ∙ c.self.invariant.made.count

pub keep_record-requires-clause-index : goal.keep_record-requires-clause-index
keep_record-requires-clause-index g c =
    omega (arith, c.requires.index, ap (λ e. length e.records) c.self.view_is, long_held c.self.inside.plan c.self.inside.layout.count (bytes_held c.self.inside.plan c.self.inside.layout c.self.inside.kept.items c.self.inside.digits))

-- the bytes that are kept
kept_is : (g : Over) (c : Place g) →
    take c.self.inside.kept.len (c.keep_record.new.kept ++ drop (length c.keep_record.new.kept) c.self.inside.kept.items) ≡ c.keep_record.new.kept
kept_is g c = with_items_is c.self.inside.kept c.keep_record.new.kept (omega (arith, c.keep_record.auto.kept, c.deref_mut.ensures.len))

-- the layer's bytes with the other record
after : (g : Over) (c : Place g) → (new : List ℕ) × IsReplaced c.self.inside.plan c.self.inside.layout
    (bytes_held c.self.inside.plan c.self.inside.layout c.self.inside.kept.items c.self.inside.digits) (slot c.self.inside.plan c.args.bytes.now) c.args.i
    c.keep_record.new.kept new
after g c =
    let p : Plan = c.self.inside.plan in
    let l : Shape = c.self.inside.layout in
    let old : List ℕ = bytes_held p l c.self.inside.kept.items c.self.inside.digits in
    let sizes : shape_at p l.count ≡ l = c.self.invariant.made.sizes in
    let inside : c.args.i < l.count = omega (arith, c.requires.index, ap (λ e. length e.records) c.self.view_is, long_held p l.count old) in
    let small : All (λ x. x < 2 ^ 8) c.args.bytes.now =
    All-from_get_or (λ x. x < 2 ^ 8) c.args.bytes.now 0 (λ i _. (c.type_inv.bytes i).fits) in
    let room : fits p c.args.bytes.now ≡ true = ap (λ (e : Records). fits e.plan c.args.bytes.now) c.self.view_is ∙ c.requires.fits in
    let ok : IsPlan p l.count = record { form = c.self.invariant.made.form; layout = subst IsLayout (sym sizes) c.self.invariant.made.layout; low = c.self.invariant.made.low; high = c.self.invariant.made.high } in
    let is : IsRecord l (slot p c.args.bytes.now) =
    subst (λ (s : Shape). IsRecord s (slot p c.args.bytes.now)) sizes (slot_is_record p l.count c.args.bytes.now ok (record { fits = room; each = small })) in
    replaced p l old (slot p c.args.bytes.now) c.args.i sizes c.self.invariant.made.count inside c.self.invariant.small is c.keep_record.new.kept (λ ordinary.
    let held = held_ordinary p l c.self.inside.kept.items c.self.inside.digits ordinary in (
      c.keep_record.auto.kept ∙ ap length (c.deref_mut.ensures.value ∙ sym held),
      c.keep_record.ensures.written ordinary
          ∙ ap (λ (b : List ℕ). slice_set (records_in l b) c.args.i c.fill.new.out) (c.deref_mut.ensures.value ∙ sym held)
          ∙ ap (slice_set (records_in l old) c.args.i) c.fill.ensures,
    ))

-- what is made, of these bytes
made_of : (g : Over) (c : Place g) →
    IsMade c.self.inside.plan c.self.inside.layout (after g c).0 c.self.inside.a1 c.replace_in_column.new.digits c.replace_in_column.new.hint
made_of g c =
    let l : Shape = c.self.inside.layout in
    let p : Plan = c.self.inside.plan in
    let sizes : shape_at p l.count ≡ l = c.self.invariant.made.sizes in
    let old : List ℕ = bytes_held p l c.self.inside.kept.items c.self.inside.digits in
    let new : List ℕ = (after g c).0 in
    let is = (after g c).1 in
    let put : List ℕ → List (List ℕ) = λ s. slice_set (records_in l old) c.args.i s in
    let written : records_in l new ≡ put (slot p c.args.bytes.now) = is.written in
    let room : fits p c.args.bytes.now ≡ true = ap (λ (e : Records). fits e.plan c.args.bytes.now) c.self.view_is ∙ c.requires.fits in
    let ok : IsPlan p l.count = record { form = c.self.invariant.made.form; layout = subst IsLayout (sym sizes) c.self.invariant.made.layout; low = c.self.invariant.made.low; high = c.self.invariant.made.high } in
    let xs : List (List ℕ) = records_in l old in
    let many : length xs ≡ l.count = long_records l old in
    let inside : c.args.i < l.count = omega (arith, c.requires.index, ap (λ e. length e.records) c.self.view_is, long_held p l.count old) in
    let are : slots p (records_held p l.count new) ≡ records_in l new =
    slots_replaced p l old new c.args.i c.args.bytes.now ok sizes room written c.self.invariant.made.slots_are in
    let w : WritesColumn (digit_matrix l xs) c.replace_in_column.new.digits (first_row l c.args.i) (column_of l c.args.i) (record_digits l (slot p c.args.bytes.now)) =
    written_as c.self.inside.digits _ c.replace_in_column.new.digits c.place-first.result.0 _ c.place-first.result.1 _ c.pack.new.out _
    (c.self.invariant.made.digits_are ∙ digits_again p l old sizes c.self.invariant.made.slots_are)
    (ap (λ p. p.0) c.place-first.ensures.value) (ap (λ p. p.1) c.place-first.ensures.value)
    (c.pack.ensures.digits ∙ ap (record_digits l) c.fill.ensures) c.replace_in_column.ensures.digits in
    let digits : c.replace_in_column.new.digits ≡ digits_at p (records_held p l.count new) =
    record_replaced l xs c.args.i (slot p c.args.bytes.now) c.replace_in_column.new.digits (shape_of_layout l c.self.invariant.made.layout) inside
    (omega (arith, inside, many)) w
    ∙ ap (digit_matrix l) (sym written)
    ∙ sym (digits_again p l new sizes are) in
    record {
      form = c.self.invariant.made.form;
      layout = c.self.invariant.made.layout;
      sizes = sizes;
      low = c.self.invariant.made.low;
      high = c.self.invariant.made.high;
      count = is.long ∙ c.self.invariant.made.count;
      good = good_again p l old new c.args.i c.args.bytes.now ok sizes room written c.self.invariant.made.good;
      slots_are = are;
      public_is = c.self.invariant.made.public_is;
      enough = c.self.invariant.made.enough;
      digits_are = digits;
      hint_is = c.replace_in_column.ensures.made ∙ ap (λ d. product d c.self.inside.a1) digits
          ∙ sym (hint_spare p (records_held p l.count new) c.self.inside.a1 c.self.invariant.made.public_is
          (omega (arith, ap digit_cols (shape_again p l new sizes), c.self.invariant.made.enough)));
    }

-- the layer holds these bytes
held_is : (g : Over) (c : Place g) →
    bytes_held c.self.inside.plan c.self.inside.layout
    (take c.self.inside.kept.len (c.keep_record.new.kept ++ drop (length c.keep_record.new.kept) c.self.inside.kept.items)) c.replace_in_column.new.digits
    ≡ (after g c).0
held_is g c =
    held_made c.self.inside.plan c.self.inside.layout (after g c).0 c.self.inside.a1 c.replace_in_column.new.digits c.replace_in_column.new.hint
    (made_of g c) (after g c).1.small _ (λ ordinary. kept_is g c ∙ (after g c).1.same ordinary)

pub invariant_of-self : goal.invariant_of-self
invariant_of-self g c = record {
  none = λ wide. kept_is g c ∙ c.keep_record.ensures.same wide ∙ c.deref_mut.ensures.value ∙ c.self.invariant.none wide;
  small = subst (All (λ x. x < 2 ^ 8)) (sym (held_is g c)) (after g c).1.small;
  made = subst (λ (b : List ℕ). IsMade c.self.inside.plan c.self.inside.layout b c.self.inside.a1 c.replace_in_column.new.digits c.replace_in_column.new.hint)
      (sym (held_is g c)) (made_of g c);
}

pub returns-clause-records : goal.returns-clause-records
returns-clause-records g c =
    let l : Shape = c.self.inside.layout in
    let p : Plan = c.self.inside.plan in
    let sizes : shape_at p l.count ≡ l = c.self.invariant.made.sizes in
    let old : List ℕ = bytes_held p l c.self.inside.kept.items c.self.inside.digits in
    let put : List ℕ → List (List ℕ) = λ s. slice_set (records_in l old) c.args.i s in
    let written : records_in l (after g c).0 ≡ put (slot p c.args.bytes.now) = (after g c).1.written in
    let room : fits p c.args.bytes.now ≡ true = ap (λ (e : Records). fits e.plan c.args.bytes.now) c.self.view_is ∙ c.requires.fits in
    let ok : IsPlan p l.count = record { form = c.self.invariant.made.form; layout = subst IsLayout (sym sizes) c.self.invariant.made.layout; low = c.self.invariant.made.low; high = c.self.invariant.made.high } in
    let made : List (List ℕ) → Records = λ rs. record { plan = p; records = rs } in
    let replaced : Records → Records = λ e. record e { records = slice_set e.records c.args.i c.args.bytes.now } in
    ap (λ (b : List ℕ). made (records_held p l.count b)) (held_is g c)
    ∙ ap made (held_replaced p l old (after g c).0 c.args.i c.args.bytes.now ok sizes room written) ∙ ap replaced c.self.view_is

pub returns-clause-marks : goal.returns-clause-marks
returns-clause-marks g c =
    let old : WordMatrix = c.self.inside.digits in
    let new : WordMatrix = c.replace_in_column.new.digits in
    let from : WordMatrix → Type 0 = λ d. MarksChanges d new c.args.marks.now c.replace_in_column.new.marks in
    let before : c.self.inside.digits ≡ digits_at c.args.self.now.plan c.args.self.now.records =
    c.self.invariant.made.digits_are ∙ ap (λ (e : Records). digits_at e.plan e.records) c.self.view_is in
    let to : WordMatrix → Type 0 = λ d. MarksChanges (digits_at c.args.self.now.plan c.args.self.now.records) d c.args.marks.now c.replace_in_column.new.marks in
    let made = invariant_of-self g c in
    subst to made.made.digits_are (subst from before c.replace_in_column.ensures.marks)
