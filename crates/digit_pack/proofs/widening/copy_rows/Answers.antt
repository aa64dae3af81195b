use Rattle.std.proofs.Common.{◌≡◌, ◌∙◌, ◌≤◌, ◌+◌, ◌*◌, arith, subst, sym, refl}
use Rattle.std.proofs.lemmas.Nat.{row_fits}
use Rattle.matrix_u32.proofs.Products.{piece-list_of}
use Rattle.digit_pack.proofs.WiderRows.{WidensFirst, none_widened, one_widened, all_widened}
use Rattle.digit_pack.proofs.widening.copy_rows.Goals as goal

pub loop-i-init : goal.loop-i-init
loop-i-init c =
    subst (WidensFirst c.args.words.now c.args.rows c.args.from c.args.to 0) (sym c.requires.zeros)
    (none_widened c.args.words.now c.args.rows c.args.from c.args.to)

pub loop-i-preserved : goal.loop-i-preserved
loop-i-preserved c =
    let fits : c.loop-i.i * c.args.from + c.args.from ≤ c.args.rows * c.args.from =
    row_fits c.loop-i.i c.args.from c.args.rows c.args.from c.loop-i-test.true (omega arith) in
    one_widened c.args.words.now c.args.rows c.args.from c.args.to c.loop-i.i _ _ c.loop-i.wide c.copy_from_slice.new.self c.loop-i.invariant
    c.loop-i-test.true c.requires.wider refl (omega arith)
    (c.copy_from_slice.ensures.after ∙ piece-list_of c.args.words.now (c.loop-i.i * c.args.from) c.args.from (omega (arith, fits, c.requires.count)))

pub returns : goal.returns
returns c =
    let done : c.loop-i.i ≡ c.args.rows = omega arith in
    all_widened c.args.words.now c.args.rows c.args.from c.args.to c.loop-i.wide
    (subst (λ n. WidensFirst c.args.words.now c.args.rows c.args.from c.args.to n c.loop-i.wide) done c.loop-i.invariant)
