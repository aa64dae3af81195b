use Rattle.std.proofs.Common.{◌∷◌, refl, sym, ◌∙◌, ap₂}
use Rattle.matrix_u32.proofs.Sums.{sum_below_none}
use Rattle.lane_kernels.proofs.PackedSums.{eights_inside, lanes_more, lanes_end}
use Rattle.lane_kernels.proofs.packed.eight_pieces.Goals as goal

pub loop-i-init : goal.loop-i-init
loop-i-init c = simp sum_below_none (record { p = refl; q = refl; r = refl; s = refl; t = refl; u = refl; v = refl; w = refl })

pub bounds-a_all-i : goal.bounds-a_all-i
bounds-a_all-i c = c.loop-i-test.true

pub bounds-b_all-i : goal.bounds-b_all-i
bounds-b_all-i c = eights_inside _ _ _ _ _ c.loop-i-test.true c.as_chunks-9.ensures.front_len c.as_chunks-10.ensures.front_len c.requires.b

pub bounds-c_all-i : goal.bounds-c_all-i
bounds-c_all-i c = eights_inside _ _ _ _ _ c.loop-i-test.true c.as_chunks-9.ensures.front_len c.as_chunks-11.ensures.front_len c.requires.c

pub bounds-p_all-i : goal.bounds-p_all-i
bounds-p_all-i c = eights_inside _ _ _ _ _ c.loop-i-test.true c.as_chunks-9.ensures.front_len c.as_chunks.ensures.front_len c.requires.p

pub bounds-q_all-i : goal.bounds-q_all-i
bounds-q_all-i c = eights_inside _ _ _ _ _ c.loop-i-test.true c.as_chunks-9.ensures.front_len c.as_chunks-2.ensures.front_len c.requires.q

pub bounds-r_all-i : goal.bounds-r_all-i
bounds-r_all-i c = eights_inside _ _ _ _ _ c.loop-i-test.true c.as_chunks-9.ensures.front_len c.as_chunks-3.ensures.front_len c.requires.r

pub bounds-s_all-i : goal.bounds-s_all-i
bounds-s_all-i c = eights_inside _ _ _ _ _ c.loop-i-test.true c.as_chunks-9.ensures.front_len c.as_chunks-4.ensures.front_len c.requires.s

pub bounds-t_all-i : goal.bounds-t_all-i
bounds-t_all-i c = eights_inside _ _ _ _ _ c.loop-i-test.true c.as_chunks-9.ensures.front_len c.as_chunks-5.ensures.front_len c.requires.t

pub bounds-u_all-i : goal.bounds-u_all-i
bounds-u_all-i c = eights_inside _ _ _ _ _ c.loop-i-test.true c.as_chunks-9.ensures.front_len c.as_chunks-6.ensures.front_len c.requires.u

pub bounds-v_all-i : goal.bounds-v_all-i
bounds-v_all-i c = eights_inside _ _ _ _ _ c.loop-i-test.true c.as_chunks-9.ensures.front_len c.as_chunks-7.ensures.front_len c.requires.v

pub bounds-w_all-i : goal.bounds-w_all-i
bounds-w_all-i c = eights_inside _ _ _ _ _ c.loop-i-test.true c.as_chunks-9.ensures.front_len c.as_chunks-8.ensures.front_len c.requires.w

pub row_total-requires : goal.row_total-requires
row_total-requires c = record { first = sym c.requires.p; second = c.requires.b ∙ sym c.requires.p; third = c.requires.c ∙ sym c.requires.p }

pub row_total-requires-2 : goal.row_total-requires-2
row_total-requires-2 c = record { first = sym c.requires.q; second = c.requires.b ∙ sym c.requires.q; third = c.requires.c ∙ sym c.requires.q }

pub row_total-requires-3 : goal.row_total-requires-3
row_total-requires-3 c = record { first = sym c.requires.r; second = c.requires.b ∙ sym c.requires.r; third = c.requires.c ∙ sym c.requires.r }

pub row_total-requires-4 : goal.row_total-requires-4
row_total-requires-4 c = record { first = sym c.requires.s; second = c.requires.b ∙ sym c.requires.s; third = c.requires.c ∙ sym c.requires.s }

pub row_total-requires-5 : goal.row_total-requires-5
row_total-requires-5 c = record { first = sym c.requires.t; second = c.requires.b ∙ sym c.requires.t; third = c.requires.c ∙ sym c.requires.t }

pub row_total-requires-6 : goal.row_total-requires-6
row_total-requires-6 c = record { first = sym c.requires.u; second = c.requires.b ∙ sym c.requires.u; third = c.requires.c ∙ sym c.requires.u }

pub row_total-requires-7 : goal.row_total-requires-7
row_total-requires-7 c = record { first = sym c.requires.v; second = c.requires.b ∙ sym c.requires.v; third = c.requires.c ∙ sym c.requires.v }

pub row_total-requires-8 : goal.row_total-requires-8
row_total-requires-8 c = record { first = sym c.requires.w; second = c.requires.b ∙ sym c.requires.w; third = c.requires.c ∙ sym c.requires.w }

pub loop-i-preserved : goal.loop-i-preserved
loop-i-preserved c =
    let x = c.args.x.now in
    let below = c.loop-i-test.true in
    let all = c.as_chunks-9.ensures.front_len in
    let so_far = c.loop-i.invariant in
    record {
      p = lanes_more _ _ _ c.loop-i.ps c.args.p.now x.a.now x.b.now x.c.now c.as_chunks.result.0.now c.as_chunks-9.result.0.now c.as_chunks-10.result.0.now c.as_chunks-11.result.0.now c.products-ps.result below all c.loop-i.auto.ps.0 c.requires.p refl c.requires.b c.requires.c c.as_chunks.ensures.front c.as_chunks-9.ensures.front c.as_chunks-10.ensures.front c.as_chunks-11.ensures.front c.products-ps.ensures so_far.p;
      q = lanes_more _ _ _ c.loop-i.qs c.args.q.now x.a.now x.b.now x.c.now c.as_chunks-2.result.0.now c.as_chunks-9.result.0.now c.as_chunks-10.result.0.now c.as_chunks-11.result.0.now c.products-qs.result below all c.loop-i.auto.qs.0 c.requires.q refl c.requires.b c.requires.c c.as_chunks-2.ensures.front c.as_chunks-9.ensures.front c.as_chunks-10.ensures.front c.as_chunks-11.ensures.front c.products-qs.ensures so_far.q;
      r = lanes_more _ _ _ c.loop-i.rs c.args.r.now x.a.now x.b.now x.c.now c.as_chunks-3.result.0.now c.as_chunks-9.result.0.now c.as_chunks-10.result.0.now c.as_chunks-11.result.0.now c.products-rs.result below all c.loop-i.auto.rs.0 c.requires.r refl c.requires.b c.requires.c c.as_chunks-3.ensures.front c.as_chunks-9.ensures.front c.as_chunks-10.ensures.front c.as_chunks-11.ensures.front c.products-rs.ensures so_far.r;
      s = lanes_more _ _ _ c.loop-i.ss c.args.s.now x.a.now x.b.now x.c.now c.as_chunks-4.result.0.now c.as_chunks-9.result.0.now c.as_chunks-10.result.0.now c.as_chunks-11.result.0.now c.products-ss.result below all c.loop-i.auto.ss.0 c.requires.s refl c.requires.b c.requires.c c.as_chunks-4.ensures.front c.as_chunks-9.ensures.front c.as_chunks-10.ensures.front c.as_chunks-11.ensures.front c.products-ss.ensures so_far.s;
      t = lanes_more _ _ _ c.loop-i.ts c.args.t.now x.a.now x.b.now x.c.now c.as_chunks-5.result.0.now c.as_chunks-9.result.0.now c.as_chunks-10.result.0.now c.as_chunks-11.result.0.now c.products-ts.result below all c.loop-i.auto.ts.0 c.requires.t refl c.requires.b c.requires.c c.as_chunks-5.ensures.front c.as_chunks-9.ensures.front c.as_chunks-10.ensures.front c.as_chunks-11.ensures.front c.products-ts.ensures so_far.t;
      u = lanes_more _ _ _ c.loop-i.us c.args.u.now x.a.now x.b.now x.c.now c.as_chunks-6.result.0.now c.as_chunks-9.result.0.now c.as_chunks-10.result.0.now c.as_chunks-11.result.0.now c.products-us.result below all c.loop-i.auto.us.0 c.requires.u refl c.requires.b c.requires.c c.as_chunks-6.ensures.front c.as_chunks-9.ensures.front c.as_chunks-10.ensures.front c.as_chunks-11.ensures.front c.products-us.ensures so_far.u;
      v = lanes_more _ _ _ c.loop-i.vs c.args.v.now x.a.now x.b.now x.c.now c.as_chunks-7.result.0.now c.as_chunks-9.result.0.now c.as_chunks-10.result.0.now c.as_chunks-11.result.0.now c.products-vs.result below all c.loop-i.auto.vs.0 c.requires.v refl c.requires.b c.requires.c c.as_chunks-7.ensures.front c.as_chunks-9.ensures.front c.as_chunks-10.ensures.front c.as_chunks-11.ensures.front c.products-vs.ensures so_far.v;
      w = lanes_more _ _ _ c.loop-i.ws c.args.w.now x.a.now x.b.now x.c.now c.as_chunks-8.result.0.now c.as_chunks-9.result.0.now c.as_chunks-10.result.0.now c.as_chunks-11.result.0.now c.products-ws.result below all c.loop-i.auto.ws.0 c.requires.w refl c.requires.b c.requires.c c.as_chunks-8.ensures.front c.as_chunks-9.ensures.front c.as_chunks-10.ensures.front c.as_chunks-11.ensures.front c.products-ws.ensures so_far.w;
    }

pub returns : goal.returns
returns c =
    let x = c.args.x.now in
    let past = c.loop-i-test.false in
    let most = c.loop-i.auto.i-end in
    let all = c.as_chunks-9.ensures.front_len in
    let so_far = c.loop-i.invariant in
    ap₂ ◌∷◌ (lanes_end _ _ _ c.loop-i.ps c.args.p.now x.a.now x.b.now x.c.now c.row_total.result past most all c.requires.p c.row_total.ensures so_far.p)
    (ap₂ ◌∷◌ (lanes_end _ _ _ c.loop-i.qs c.args.q.now x.a.now x.b.now x.c.now c.row_total-2.result past most all c.requires.q c.row_total-2.ensures so_far.q)
    (ap₂ ◌∷◌ (lanes_end _ _ _ c.loop-i.rs c.args.r.now x.a.now x.b.now x.c.now c.row_total-3.result past most all c.requires.r c.row_total-3.ensures so_far.r)
    (ap₂ ◌∷◌ (lanes_end _ _ _ c.loop-i.ss c.args.s.now x.a.now x.b.now x.c.now c.row_total-4.result past most all c.requires.s c.row_total-4.ensures so_far.s)
    (ap₂ ◌∷◌ (lanes_end _ _ _ c.loop-i.ts c.args.t.now x.a.now x.b.now x.c.now c.row_total-5.result past most all c.requires.t c.row_total-5.ensures so_far.t)
    (ap₂ ◌∷◌ (lanes_end _ _ _ c.loop-i.us c.args.u.now x.a.now x.b.now x.c.now c.row_total-6.result past most all c.requires.u c.row_total-6.ensures so_far.u)
    (ap₂ ◌∷◌ (lanes_end _ _ _ c.loop-i.vs c.args.v.now x.a.now x.b.now x.c.now c.row_total-7.result past most all c.requires.v c.row_total-7.ensures so_far.v)
    (ap₂ ◌∷◌ (lanes_end _ _ _ c.loop-i.ws c.args.w.now x.a.now x.b.now x.c.now c.row_total-8.result past most all c.requires.w c.row_total-8.ensures so_far.w)
    refl)))))))
