use Rattle.std.proofs.Common.{arith, ap, ◌∙◌, ℕ, pos, length, below_more, get_or-set_same, get_or-set_other, w32}
use Rattle.std.proofs.lemmas.Int.{to_z-of_z}
use Rattle.std.proofs.lemmas.List.FromFn.{fill_by_all}
use Rattle.seed_expand.specs.Words.{word_here, source_word, further}
use Rattle.noise_table.specs.Noise.{noise}
use Rattle.noise_table.proofs.fill_noise.Goals as goal

pub loop-noise-preserved : goal.loop-noise-preserved
loop-noise-preserved c =
    let k : ℕ = c.loop-noise.noise-index in
    record {
      source = c.next.ensures.source ∙ ap (λ s. further s 1) c.loop-noise.invariant.source ∙ c.places_run_on.ensures.in_turn c.args.source.now k 1;
      filled = below_more _ k
          (λ j l. get_or-set_other c.loop-noise.out k j _ (pos 0) (omega arith) ∙ c.loop-noise.invariant.filled j l)
          (get_or-set_same c.loop-noise.out k _ (pos 0) (omega arith)
          ∙ to_z-of_z w32 c.noise_of.result (record { sfits = c.noise_of.type_inv }) ∙ c.noise_of.ensures.value
          ∙ ap noise (c.next.ensures.word ∙ ap word_here c.loop-noise.invariant.source));
    }

pub returns-clause-noise : goal.returns-clause-noise
returns-clause-noise c =
    fill_by_all (λ k. noise (source_word c.args.source.now k)) c.loop-noise.out (length c.args.out.now) (pos 0) c.loop-noise.auto.out
    (λ k l. c.loop-noise.invariant.filled k (omega arith))
