use Rattle.std.proofs.Common.{arith, ap, ◌∙◌, ◌≡◌, ◌-◌, ◌*◌, ◌≤◌, ◌++◌, ℕ, List, length, replicate, sym, subst, true, false}
use Rattle.matrix_u32.specs.Matrix.{WordMatrix, widened}
use Rattle.digit_pack.specs.Layout.{Shape, IsLayout, is_wide, digit_cols}
use Rattle.pir_schemes.specs.declared.plan.Plan.{Plan}
use Rattle.pir_schemes.specs.Plans.{shape_at, records_held}
use Rattle.version_store.specs.Drafts.{grown_to}
use Rattle.version_store.specs.Editions.{Records, grown, bytes_held}
use Rattle.version_store.proofs.Grown.{more_columns}
use Rattle.version_store.proofs.GrownLayer.{held-grown}
use Rattle.version_store.proofs.KeptBytes.{fewer_bytes, held_grown, layer_more}
use Rattle.version_store.proofs.Versions.{long_held, shape_again}
use Rattle.version_store.proofs.first_layer.FirstLayer.grow.Goals as goal

pub reserve_kept-requires : goal.reserve_kept-requires
reserve_kept-requires c = record {
  fewer = λ ordinary.
      let l : Shape = c.self.inside.layout in
      let ok = rw c.unwrap-layout.ensures at c.layout.ensures.accepted in
      let low : l.count ≤ c.unwrap-layout.result.count =
      omega (
        arith,
        c.requires.more,
        ap (λ (e : Records). length e.records) c.self.view_is,
        long_held c.self.inside.plan l.count (bytes_held c.self.inside.plan c.self.inside.layout c.self.inside.kept.items c.self.inside.digits),
        ap (λ (s : Shape). s.count) ok.0,
      ) in
      fewer_bytes c.self.inside.plan l c.unwrap-layout.result c.self.inside.kept.items c.self.inside.digits ordinary c.self.invariant.made.sizes
      (ok.0 ∙ ap (shape_at c.self.inside.plan) (sym (ap (λ (s : Shape). s.count) ok.0))) c.self.invariant.made.count low;
}

pub grow-requires : goal.grow-requires
grow-requires c =
    let l : Shape = c.self.inside.layout in
    let p : Plan = c.self.inside.plan in
    let ok = rw c.unwrap-layout.ensures at c.layout.ensures.accepted in
    let low : l.count ≤ c.args.count =
    omega (arith, c.requires.more, ap (λ (e : Records). length e.records) c.self.view_is, long_held p l.count (bytes_held c.self.inside.plan c.self.inside.layout c.self.inside.kept.items c.self.inside.digits)) in
    let layout : IsLayout (shape_at p c.args.count) = subst IsLayout ok.0 ok.1 in
    omega (
      arith,
      ap (λ (m : WordMatrix). m.cols) c.self.invariant.made.digits_are,
      ap digit_cols (shape_again p l (bytes_held c.self.inside.plan c.self.inside.layout c.self.inside.kept.items c.self.inside.digits) c.self.invariant.made.sizes),
      c.cols-2.ensures.value,
      ap digit_cols ok.0,
      ap digit_cols c.self.invariant.made.sizes,
      more_columns p l.count c.args.count layout.groups.0 low,
    )

-- as many records as were there, or more
fewer : (c : goal.After-self-1) → c.self.inside.layout.count ≤ c.unwrap-layout.result.count
fewer c =
    let l : Shape = c.self.inside.layout in
    let ok = rw c.unwrap-layout.ensures at c.layout.ensures.accepted in
    omega (
      arith,
      c.requires.more,
      ap (λ (e : Records). length e.records) c.self.view_is,
      long_held c.self.inside.plan l.count (bytes_held c.self.inside.plan c.self.inside.layout c.self.inside.kept.items c.self.inside.digits),
      ap (λ (s : Shape). s.count) ok.0,
    )

pub grow_kept-requires-clause-fewer : goal.grow_kept-requires-clause-fewer
grow_kept-requires-clause-fewer c = λ ordinary.
    let l : Shape = c.self.inside.layout in
    let ok = rw c.unwrap-layout.ensures at c.layout.ensures.accepted in
    let low : l.count ≤ c.unwrap-layout.result.count =
    omega (
      arith,
      c.requires.more,
      ap (λ (e : Records). length e.records) c.self.view_is,
      long_held c.self.inside.plan l.count (bytes_held c.self.inside.plan c.self.inside.layout c.self.inside.kept.items c.self.inside.digits),
      ap (λ (s : Shape). s.count) ok.0,
    ) in
    omega (
      arith,
      ap length c.in_ok-reserve_kept.ensures.same,
      fewer_bytes c.self.inside.plan l c.unwrap-layout.result c.self.inside.kept.items c.self.inside.digits ordinary c.self.invariant.made.sizes
          (ok.0 ∙ ap (shape_at c.self.inside.plan) (sym (ap (λ (s : Shape). s.count) ok.0))) c.self.invariant.made.count low,
    )

module _ (c : goal.After-self-1) where
  sizes : c.unwrap-layout.result ≡ shape_at c.self.inside.plan c.unwrap-layout.result.count
  sizes =
      let ok = rw c.unwrap-layout.ensures at c.layout.ensures.accepted in
      ok.0 ∙ ap (shape_at c.self.inside.plan) (sym (ap (λ (s : Shape). s.count) ok.0))

  enough : digit_cols c.unwrap-layout.result ≤ c.extend_public.new.a1.rows
  enough = omega (arith, c.in_ok-extend_public.ensures.enough, c.cols.ensures.value)

  wide : c.grow.new.self ≡ widened c.self.inside.digits (digit_cols c.unwrap-layout.result)
  wide = c.in-Ok.ensures.grown ∙ ap (widened c.self.inside.digits) c.cols-2.ensures.value

  -- what is kept has zeros after it, or is as it was
  grows : is_wide c.self.inside.plan.form ≡ false → c.grow_kept.new.kept.items
      ≡ c.self.inside.kept.items ++ replicate (c.unwrap-layout.result.count * c.unwrap-layout.result.record_len - length c.self.inside.kept.items) 0
  grows ordinary =
      c.grow_kept.ensures.grown ordinary
      ∙ ap (λ (k : List ℕ). k ++ replicate (c.unwrap-layout.result.count * c.unwrap-layout.result.record_len - length k) 0) c.in_ok-reserve_kept.ensures.same

  stays : is_wide c.self.inside.plan.form ≡ true → c.grow_kept.new.kept.items ≡ c.self.inside.kept.items
  stays e = c.grow_kept.ensures.same e ∙ c.in_ok-reserve_kept.ensures.same

pub invariant_of-self-2 : goal.invariant_of-self-2
invariant_of-self-2 c =
    let ok = rw c.unwrap-layout.ensures at c.layout.ensures.accepted in
    layer_more c.self.inside.plan c.self.inside.layout c.unwrap-layout.result c.self.inside.kept.items c.self.inside.a1 c.self.inside.digits c.self.inside.hint
    c.self.invariant ok.1 (sizes c) (fewer c) c.extend_public.new.a1 c.grow.new.self c.in_ok-extend_public.ensures.public (enough c) (wide c)
    c.grow_kept.new.kept.items (grows c) (stays c)

pub returns-clause-grown : goal.returns-clause-grown
returns-clause-grown c =
    let l : Shape = c.self.inside.layout in
    let m : Shape = c.unwrap-layout.result in
    let p : Plan = c.self.inside.plan in
    let ok = rw c.unwrap-layout.ensures at c.layout.ensures.accepted in
    let count : m.count ≡ c.args.count = ap (λ (s : Shape). s.count) ok.0 in
    let before : List ℕ = bytes_held p l c.self.inside.kept.items c.self.inside.digits in
    let held : List (List ℕ) = records_held p l.count before in
    let with : List (List ℕ) → Records = λ rs. record { plan = p; records = rs } in
    ap with
    (ap (records_held p m.count)
    (held_grown p l m c.self.inside.kept.items c.self.inside.a1 c.self.inside.digits c.self.inside.hint
    c.self.invariant ok.1 (sizes c) (fewer c) c.extend_public.new.a1 c.grow.new.self c.in_ok-extend_public.ensures.public (enough c) (wide c)
    c.grow_kept.new.kept.items (grows c) (stays c))
    ∙ held-grown p l m before c.self.inside.a1 c.self.inside.digits c.self.inside.hint c.self.invariant.made ok.1 (sizes c) (fewer c)
    ∙ ap (λ n. grown p n held) count)
    ∙ ap (grown_to c.args.count) c.self.view_is
