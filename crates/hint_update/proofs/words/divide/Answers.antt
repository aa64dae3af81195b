use Rattle.std.proofs.Common.{ℕ, ◌*◌, ◌/◌, ◌%◌, ◌^◌, arith, ap, ◌∙◌, get_or-set_other}
use Rattle.std.specs.Prelude.{slice_index}
use Rattle.matrix_u32.proofs.Products.{filled_more}
use Rattle.hint_update.proofs.words.divide.Goals as goal

pub loop-k-preserved : goal.loop-k-preserved
loop-k-preserved c =
    let numbers = c.loop-k.numbers in
    let here : ℕ = c.loop-k.k in
    let written : ℕ = c.shifted.result * c.args.inverse % 2 ^ 32 in
    record {
      done = filled_more numbers here written (λ k. slice_index c.args.numbers.now k / 2 ^ c.args.bits * c.args.inverse % 2 ^ 32)
          (omega arith)
          (ap (λ n. n * c.args.inverse % 2 ^ 32) c.shifted.ensures
          ∙ ap (λ n. n / 2 ^ c.args.bits * c.args.inverse % 2 ^ 32) (c.loop-k.invariant.rest here (omega arith) (omega arith)))
          c.loop-k.invariant.done;
      rest = λ k l m. get_or-set_other numbers here k written 0 (omega (arith, l)) ∙ c.loop-k.invariant.rest k (omega (arith, l)) m;
    }
