use Rattle.std.proofs.Common.{◌∷◌, refl, sym, ◌∙◌, ap₂}
use Rattle.matrix_u32.proofs.Sums.{sum_below_none}
use Rattle.lane_kernels.proofs.PackedSums.{eights_inside, lanes_more, lanes_end}
use Rattle.lane_kernels.proofs.packed_two.four_pieces_by_two.Goals as goal

pub loop-i-init : goal.loop-i-init
loop-i-init c = simp sum_below_none (record { px = refl; qx = refl; rx = refl; sx = refl; py = refl; qy = refl; ry = refl; sy = refl })

pub bounds-a_all-i : goal.bounds-a_all-i
bounds-a_all-i c = c.loop-i-test.true

pub bounds-b_all-i : goal.bounds-b_all-i
bounds-b_all-i c = eights_inside _ _ _ _ _ c.loop-i-test.true c.as_chunks-5.ensures.front_len c.as_chunks-6.ensures.front_len c.requires.x_b

pub bounds-c_all-i : goal.bounds-c_all-i
bounds-c_all-i c = eights_inside _ _ _ _ _ c.loop-i-test.true c.as_chunks-5.ensures.front_len c.as_chunks-7.ensures.front_len c.requires.x_c

pub bounds-d_all-i : goal.bounds-d_all-i
bounds-d_all-i c = eights_inside _ _ _ _ _ c.loop-i-test.true c.as_chunks-5.ensures.front_len c.as_chunks-8.ensures.front_len c.requires.y_a

pub bounds-e_all-i : goal.bounds-e_all-i
bounds-e_all-i c = eights_inside _ _ _ _ _ c.loop-i-test.true c.as_chunks-5.ensures.front_len c.as_chunks-9.ensures.front_len c.requires.y_b

pub bounds-f_all-i : goal.bounds-f_all-i
bounds-f_all-i c = eights_inside _ _ _ _ _ c.loop-i-test.true c.as_chunks-5.ensures.front_len c.as_chunks-10.ensures.front_len c.requires.y_c

pub bounds-p_all-i : goal.bounds-p_all-i
bounds-p_all-i c = eights_inside _ _ _ _ _ c.loop-i-test.true c.as_chunks-5.ensures.front_len c.as_chunks.ensures.front_len c.requires.p

pub bounds-q_all-i : goal.bounds-q_all-i
bounds-q_all-i c = eights_inside _ _ _ _ _ c.loop-i-test.true c.as_chunks-5.ensures.front_len c.as_chunks-2.ensures.front_len c.requires.q

pub bounds-r_all-i : goal.bounds-r_all-i
bounds-r_all-i c = eights_inside _ _ _ _ _ c.loop-i-test.true c.as_chunks-5.ensures.front_len c.as_chunks-3.ensures.front_len c.requires.r

pub bounds-s_all-i : goal.bounds-s_all-i
bounds-s_all-i c = eights_inside _ _ _ _ _ c.loop-i-test.true c.as_chunks-5.ensures.front_len c.as_chunks-4.ensures.front_len c.requires.s

pub row_total-requires : goal.row_total-requires
row_total-requires c = record { first = sym c.requires.p; second = c.requires.x_b ∙ sym c.requires.p; third = c.requires.x_c ∙ sym c.requires.p }

pub row_total-requires-2 : goal.row_total-requires-2
row_total-requires-2 c = record { first = sym c.requires.q; second = c.requires.x_b ∙ sym c.requires.q; third = c.requires.x_c ∙ sym c.requires.q }

pub row_total-requires-3 : goal.row_total-requires-3
row_total-requires-3 c = record { first = sym c.requires.r; second = c.requires.x_b ∙ sym c.requires.r; third = c.requires.x_c ∙ sym c.requires.r }

pub row_total-requires-4 : goal.row_total-requires-4
row_total-requires-4 c = record { first = sym c.requires.s; second = c.requires.x_b ∙ sym c.requires.s; third = c.requires.x_c ∙ sym c.requires.s }

pub row_total-requires-5 : goal.row_total-requires-5
row_total-requires-5 c = record { first = c.requires.y_a ∙ sym c.requires.p; second = c.requires.y_b ∙ sym c.requires.p; third = c.requires.y_c ∙ sym c.requires.p }

pub row_total-requires-6 : goal.row_total-requires-6
row_total-requires-6 c = record { first = c.requires.y_a ∙ sym c.requires.q; second = c.requires.y_b ∙ sym c.requires.q; third = c.requires.y_c ∙ sym c.requires.q }

pub row_total-requires-7 : goal.row_total-requires-7
row_total-requires-7 c = record { first = c.requires.y_a ∙ sym c.requires.r; second = c.requires.y_b ∙ sym c.requires.r; third = c.requires.y_c ∙ sym c.requires.r }

pub row_total-requires-8 : goal.row_total-requires-8
row_total-requires-8 c = record { first = c.requires.y_a ∙ sym c.requires.s; second = c.requires.y_b ∙ sym c.requires.s; third = c.requires.y_c ∙ sym c.requires.s }

pub loop-i-preserved : goal.loop-i-preserved
loop-i-preserved c =
    let x = c.args.x.now in
    let y = c.args.y.now in
    let below = c.loop-i-test.true in
    let all = c.as_chunks-5.ensures.front_len in
    let so_far = c.loop-i.invariant in
    record {
      px = lanes_more _ _ _ c.loop-i.px c.args.p.now x.a.now x.b.now x.c.now c.as_chunks.result.0.now c.as_chunks-5.result.0.now c.as_chunks-6.result.0.now c.as_chunks-7.result.0.now c.products-px.result below all c.loop-i.auto.px.0 c.requires.p refl c.requires.x_b c.requires.x_c c.as_chunks.ensures.front c.as_chunks-5.ensures.front c.as_chunks-6.ensures.front c.as_chunks-7.ensures.front c.products-px.ensures so_far.px;
      qx = lanes_more _ _ _ c.loop-i.qx c.args.q.now x.a.now x.b.now x.c.now c.as_chunks-2.result.0.now c.as_chunks-5.result.0.now c.as_chunks-6.result.0.now c.as_chunks-7.result.0.now c.products-qx.result below all c.loop-i.auto.qx.0 c.requires.q refl c.requires.x_b c.requires.x_c c.as_chunks-2.ensures.front c.as_chunks-5.ensures.front c.as_chunks-6.ensures.front c.as_chunks-7.ensures.front c.products-qx.ensures so_far.qx;
      rx = lanes_more _ _ _ c.loop-i.rx c.args.r.now x.a.now x.b.now x.c.now c.as_chunks-3.result.0.now c.as_chunks-5.result.0.now c.as_chunks-6.result.0.now c.as_chunks-7.result.0.now c.products-rx.result below all c.loop-i.auto.rx.0 c.requires.r refl c.requires.x_b c.requires.x_c c.as_chunks-3.ensures.front c.as_chunks-5.ensures.front c.as_chunks-6.ensures.front c.as_chunks-7.ensures.front c.products-rx.ensures so_far.rx;
      sx = lanes_more _ _ _ c.loop-i.sx c.args.s.now x.a.now x.b.now x.c.now c.as_chunks-4.result.0.now c.as_chunks-5.result.0.now c.as_chunks-6.result.0.now c.as_chunks-7.result.0.now c.products-sx.result below all c.loop-i.auto.sx.0 c.requires.s refl c.requires.x_b c.requires.x_c c.as_chunks-4.ensures.front c.as_chunks-5.ensures.front c.as_chunks-6.ensures.front c.as_chunks-7.ensures.front c.products-sx.ensures so_far.sx;
      py = lanes_more _ _ _ c.loop-i.py c.args.p.now y.a.now y.b.now y.c.now c.as_chunks.result.0.now c.as_chunks-8.result.0.now c.as_chunks-9.result.0.now c.as_chunks-10.result.0.now c.products-py.result below all c.loop-i.auto.py.0 c.requires.p c.requires.y_a c.requires.y_b c.requires.y_c c.as_chunks.ensures.front c.as_chunks-8.ensures.front c.as_chunks-9.ensures.front c.as_chunks-10.ensures.front c.products-py.ensures so_far.py;
      qy = lanes_more _ _ _ c.loop-i.qy c.args.q.now y.a.now y.b.now y.c.now c.as_chunks-2.result.0.now c.as_chunks-8.result.0.now c.as_chunks-9.result.0.now c.as_chunks-10.result.0.now c.products-qy.result below all c.loop-i.auto.qy.0 c.requires.q c.requires.y_a c.requires.y_b c.requires.y_c c.as_chunks-2.ensures.front c.as_chunks-8.ensures.front c.as_chunks-9.ensures.front c.as_chunks-10.ensures.front c.products-qy.ensures so_far.qy;
      ry = lanes_more _ _ _ c.loop-i.ry c.args.r.now y.a.now y.b.now y.c.now c.as_chunks-3.result.0.now c.as_chunks-8.result.0.now c.as_chunks-9.result.0.now c.as_chunks-10.result.0.now c.products-ry.result below all c.loop-i.auto.ry.0 c.requires.r c.requires.y_a c.requires.y_b c.requires.y_c c.as_chunks-3.ensures.front c.as_chunks-8.ensures.front c.as_chunks-9.ensures.front c.as_chunks-10.ensures.front c.products-ry.ensures so_far.ry;
      sy = lanes_more _ _ _ c.loop-i.sy c.args.s.now y.a.now y.b.now y.c.now c.as_chunks-4.result.0.now c.as_chunks-8.result.0.now c.as_chunks-9.result.0.now c.as_chunks-10.result.0.now c.products-sy.result below all c.loop-i.auto.sy.0 c.requires.s c.requires.y_a c.requires.y_b c.requires.y_c c.as_chunks-4.ensures.front c.as_chunks-8.ensures.front c.as_chunks-9.ensures.front c.as_chunks-10.ensures.front c.products-sy.ensures so_far.sy;
    }

pub returns-clause-x : goal.returns-clause-x
returns-clause-x c =
    let x = c.args.x.now in
    let past = c.loop-i-test.false in
    let most = c.loop-i.auto.i-end in
    let all = c.as_chunks-5.ensures.front_len in
    let so_far = c.loop-i.invariant in
    ap₂ ◌∷◌ (lanes_end _ _ _ c.loop-i.px c.args.p.now x.a.now x.b.now x.c.now c.row_total.result past most all c.requires.p c.row_total.ensures so_far.px)
    (ap₂ ◌∷◌ (lanes_end _ _ _ c.loop-i.qx c.args.q.now x.a.now x.b.now x.c.now c.row_total-2.result past most all c.requires.q c.row_total-2.ensures so_far.qx)
    (ap₂ ◌∷◌ (lanes_end _ _ _ c.loop-i.rx c.args.r.now x.a.now x.b.now x.c.now c.row_total-3.result past most all c.requires.r c.row_total-3.ensures so_far.rx)
    (ap₂ ◌∷◌ (lanes_end _ _ _ c.loop-i.sx c.args.s.now x.a.now x.b.now x.c.now c.row_total-4.result past most all c.requires.s c.row_total-4.ensures so_far.sx)
    refl)))

pub returns-clause-y : goal.returns-clause-y
returns-clause-y c =
    let y = c.args.y.now in
    let past = c.loop-i-test.false in
    let most = c.loop-i.auto.i-end in
    let all = c.as_chunks-5.ensures.front_len in
    let so_far = c.loop-i.invariant in
    ap₂ ◌∷◌ (lanes_end _ _ _ c.loop-i.py c.args.p.now y.a.now y.b.now y.c.now c.row_total-5.result past most all c.requires.p c.row_total-5.ensures so_far.py)
    (ap₂ ◌∷◌ (lanes_end _ _ _ c.loop-i.qy c.args.q.now y.a.now y.b.now y.c.now c.row_total-6.result past most all c.requires.q c.row_total-6.ensures so_far.qy)
    (ap₂ ◌∷◌ (lanes_end _ _ _ c.loop-i.ry c.args.r.now y.a.now y.b.now y.c.now c.row_total-7.result past most all c.requires.r c.row_total-7.ensures so_far.ry)
    (ap₂ ◌∷◌ (lanes_end _ _ _ c.loop-i.sy c.args.s.now y.a.now y.b.now y.c.now c.row_total-8.result past most all c.requires.s c.row_total-8.ensures so_far.sy)
    refl)))
