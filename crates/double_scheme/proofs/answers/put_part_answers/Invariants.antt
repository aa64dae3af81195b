use Rattle.std.proofs.Common.{◌≡◌, ◌≤◌, ◌-◌, ◌*◌, take}
use Rattle.std.specs.Prelude.{flat_map}
use Rattle.std.specs.List.{range_with_len}
use Rattle.double_scheme.specs.Double.{part_answer_of, part_of_query}
use Rattle.double_scheme.proofs.answers.put_part_answers.Given as goal

abbrev pub invariant-loop-d : goal.invariant-loop-d
invariant-loop-d g l = record {
  within : l.d ≤ l.parts;
  so_far : take (l.d * l.count) l.out
      ≡ flat_map (λ d. part_answer_of (g.S.DigitStore.digits l.server_hint) l.first (part_of_query l.layout l.words d)) (range_with_len 0 l.d);
}

abbrev pub decreases-loop-d : goal.decreases-loop-d
decreases-loop-d g l = l.parts - l.d
