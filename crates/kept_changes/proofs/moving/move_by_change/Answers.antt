use Rattle.std.proofs.Common.{ap, sym, ◌∙◌, ℕ, ◌%◌}
use Rattle.matrix_u32.specs.Matrix.{WordMatrix}
use Rattle.seed_expand.specs.Words.{public_rows}
use Rattle.digit_pack.specs.Layout.{Shape, digit_cols}
use Rattle.hint_changes.proofs.Places.{other_places}
use Rattle.kept_changes.specs.Moves.{changed_record}
use Rattle.kept_changes.proofs.moving.move_by_change.Goals as goal

pub returns-else-change-groups-clause-moved : goal.returns-else-change-groups-clause-moved
returns-else-change-groups-clause-moved g c =
    let l : Shape = c.args.layout.now in
    let i : ℕ = c.args.change.now.index in
    let a1 : WordMatrix = public_rows c.args.public.now.seed 0 0 (digit_cols l) c.args.public.now.dimension in
    sym (other_places l a1 c.args.hint.now (changed_record c.args.change.now) c.args.place c.requires.rows c.requires.place
    (λ same. c.if-change-groups.false (ap (λ n. i % n) c.groups.ensures.value ∙ same)))
