use Rattle.std.proofs.Common.{◌≡◌, ◌∙◌, ◌+◌, ◌*◌, ◌++◌, ◌≤◌, ap, sym, subst, arith, ℕ, List, length}
use Rattle.digit_pack.specs.Layout.{Shape, digit_cols}
use Rattle.version_store.specs.KeptRecords.{KeptRecords, bytes_in_digits, counted}
use Rattle.version_store.proofs.KeptDigits.{wider_columns, kept_grown, bytes_grown}
use Rattle.version_store.proofs.digit_records.DigitRecords.push.Goals as goal

pub grow-requires : goal.grow-requires
grow-requires c =
    let l : Shape = c.self.inside.layout in
    let sizes : c.args.layout ≡ counted l (l.count + 1) =
    c.requires.sizes ∙ ap (λ (v : KeptRecords). counted v.shape (v.shape.count + 1)) (sym c.self.view_is) in (
      omega arith,
      omega (
        arith,
        ap (λ m. m.cols) c.self.invariant.digits_are,
        wider_columns l (l.count + 1) c.self.invariant.layout.groups.0 (omega arith),
        c.cols.ensures.value,
        ap digit_cols sizes,
      ),
    )

pub invariant_of-self-2 : goal.invariant_of-self-2
invariant_of-self-2 c =
    let l : Shape = c.self.inside.layout in
    let sizes : c.args.layout ≡ counted l (l.count + 1) =
    c.requires.sizes ∙ ap (λ (v : KeptRecords). counted v.shape (v.shape.count + 1)) (sym c.self.view_is) in
    kept_grown l c.self.inside.taken c.self.inside.digits c.self.invariant c.args.layout sizes c.cols.ensures.layout c.cols.result c.cols.ensures.value
    c.grow.new.self c.in-Ok.ensures.grown

pub take_records-requires-clause-whole : goal.take_records-requires-clause-whole
take_records-requires-clause-whole c =
    let sizes : c.args.layout ≡ counted c.args.self.now.shape (c.args.self.now.shape.count + 1) = c.requires.sizes in (
      1,
      omega (arith, c.requires.len, ap (λ (s : Shape). s.record_len) sizes),
    )

pub take_records-requires-clause-room : goal.take_records-requires-clause-room
take_records-requires-clause-room c =
    let l : Shape = c.self.inside.layout in
    let sizes : c.args.layout ≡ counted l (l.count + 1) =
    c.requires.sizes ∙ ap (λ (v : KeptRecords). counted v.shape (v.shape.count + 1)) (sym c.self.view_is) in
    let same : bytes_in_digits c.args.layout c.self.inside.taken c.grow.new.self ≡ bytes_in_digits l c.self.inside.taken c.self.inside.digits =
    bytes_grown l c.self.inside.taken c.self.inside.digits c.self.invariant c.args.layout sizes c.cols.ensures.layout c.cols.result c.cols.ensures.value
    c.grow.new.self c.in-Ok.ensures.grown in
    let whole : length (bytes_in_digits l c.self.inside.taken c.self.inside.digits) ≡ l.count * l.record_len =
    subst (λ (v : KeptRecords). length v.bytes ≡ v.shape.count * v.shape.record_len) (sym c.self.view_is) c.requires.whole in
    let len : length c.args.bytes.now ≡ l.record_len = c.requires.len ∙ ap (λ (v : KeptRecords). v.shape.record_len) (sym c.self.view_is) in
    let next : l.count * l.record_len + l.record_len ≡ (l.count + 1) * l.record_len = omega arith in
    subst (λ (m : Shape). length (bytes_in_digits c.args.layout c.self.inside.taken c.grow.new.self) + length c.args.bytes.now ≤ m.count * m.record_len)
    (sym sizes) (omega (arith, ap (λ (b : List ℕ). length b) same, whole, len, next))

pub returns-clause-put : goal.returns-clause-put
returns-clause-put c =
    let l : Shape = c.self.inside.layout in
    let sizes : c.args.layout ≡ counted l (l.count + 1) =
    c.requires.sizes ∙ ap (λ (v : KeptRecords). counted v.shape (v.shape.count + 1)) (sym c.self.view_is) in
    let same : bytes_in_digits c.args.layout c.self.inside.taken c.grow.new.self ≡ bytes_in_digits l c.self.inside.taken c.self.inside.digits =
    bytes_grown l c.self.inside.taken c.self.inside.digits c.self.invariant c.args.layout sizes c.cols.ensures.layout c.cols.result c.cols.ensures.value
    c.grow.new.self c.in-Ok.ensures.grown in
    let of : Shape → List ℕ → KeptRecords = λ s b. record { shape = s; bytes = b } in
    ap (λ (s : Shape). of s c.take_records.new.self.bytes) c.take_records.ensures.shape
    ∙ ap (of c.args.layout) (c.take_records.ensures.taken ∙ ap (λ (b : List ℕ). b ++ c.args.bytes.now) (same ∙ ap (λ (v : KeptRecords). v.bytes) c.self.view_is))
