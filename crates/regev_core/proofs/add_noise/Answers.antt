use Rattle.std.proofs.Common.{arith, rules, ap, ◌∙◌, ◌≡◌, ◌+◌, ◌%◌, ◌^◌, ◌<◌, ◌==◌, if◌then◌else◌, ℕ, pos, length, below_more, get_or-set_same, get_or-set_other, w32, List, refl, ⊎_elim}
use Rattle.std.proofs.lemmas.Bool.{cases_eq}
use Rattle.std.proofs.lemmas.List.{length-set}
use Rattle.std.specs.Prelude.{slice_index, slice_index_or, slice_set}
use mir.Val.{SFits}
use Rattle.matrix_u32.specs.Sum.{residue}
use Rattle.matrix_u32.proofs.Sums.{at_place, off_place}
use Rattle.matrix_u32.proofs.Products.{words_are}
use Rattle.noise_table.specs.Margin.{delta}
use Rattle.regev_core.proofs.Rounding.{plus_bits}
use Rattle.regev_core.proofs.add_noise.Goals as goal

pub loop-j-init : goal.loop-j-init
loop-j-init c = record { done = λ k l. absurd (omega arith); rest = λ k _ l. refl }

pub loop-j-preserved : goal.loop-j-preserved
loop-j-preserved c =
    let in_rows : c.loop-j.j < length c.args.out.now = omega (arith, c.loop-j.auto.out) in
    let fits : SFits w32 (slice_index_or c.args.e.now c.loop-j.j (pos 0)) = search rules in
    let written : c.wrapping_add_signed.result
    ≡ (slice_index c.args.out.now c.loop-j.j + residue (slice_index_or c.args.e.now c.loop-j.j (pos 0))) % 2 ^ 32 =
    c.wrapping_add_signed.ensures ∙ plus_bits _ _ _ fits (c.loop-j.invariant.rest c.loop-j.j (omega arith) in_rows) in
    record {
      done = below_more _ _
          (λ k l. get_or-set_other c.loop-j.out c.loop-j.j k c.wrapping_add_signed.result 0 (omega arith) ∙ c.loop-j.invariant.done k l)
          (get_or-set_same c.loop-j.out c.loop-j.j c.wrapping_add_signed.result 0 (omega arith) ∙ written);
      rest = λ k l r. get_or-set_other c.loop-j.out c.loop-j.j k c.wrapping_add_signed.result 0 (omega arith) ∙ c.loop-j.invariant.rest k (omega arith) r;
    }

-- a list to one of whose words delta was added
placed : (out : List ℕ) (n place v : ℕ) (f : ℕ → ℕ) → length out ≡ n → place < n → ((k : ℕ) → k < n → slice_index out k ≡ f k % 2 ^ 32) →
    (k : ℕ) → k < n → slice_index (slice_set out place ((slice_index out place + v) % 2 ^ 32)) k ≡ (f k + (if k == place then v else 0)) % 2 ^ 32
placed out n place v f e p h k l =
    ⊎_elim
    (λ s. ap (λ i. slice_index (slice_set out place ((slice_index out place + v) % 2 ^ 32)) i) s
    ∙ get_or-set_same out place ((slice_index out place + v) % 2 ^ 32) 0 (omega arith)
    ∙ omega (arith, h place p, at_place k place v s, ap f s))
    (λ d. get_or-set_other out place k ((slice_index out place + v) % 2 ^ 32) 0 d ∙ omega (arith, h k l, off_place k place v d))
    (cases_eq k place)

pub returns : goal.returns
returns c =
    let n : ℕ = length c.args.out.now in
    words_are _ n _ (length-set _ _ _ ∙ c.loop-j.auto.out) (λ k l.
    ap (λ v. slice_index (slice_set c.loop-j.out c.args.place ((slice_index c.loop-j.out c.args.place + v) % 2 ^ 32)) k) c.delta.ensures
    ∙ placed c.loop-j.out n c.args.place (delta c.args.w)
    (λ k. slice_index c.args.out.now k + residue (slice_index_or c.args.e.now k (pos 0)))
    c.loop-j.auto.out c.requires.place (λ k l. c.loop-j.invariant.done k (omega (arith, c.loop-j-test.false, c.loop-j.auto.out))) k l)
