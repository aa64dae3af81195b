use Rattle.std.proofs.Common.{refl, ap, ◌∙◌, ◌≡◌, ℕ, List}
use Rattle.matrix_u32.specs.Matrix.{WordMatrix}
use Rattle.seed_expand.specs.Words.{public_rows}
use Rattle.digit_pack.specs.Layout.{Shape, digit_cols}
use Rattle.hint_changes.specs.Changes.{moved}
use Rattle.hint_changes.specs.Entries.{changes_in}
use Rattle.pir_schemes.specs.declared.plan.Plan.{Plan}
use Rattle.pir_schemes.specs.Plans.{shape_at}
use Rattle.change_file.specs.Files.{move_of}
use Rattle.kept_changes.specs.Moves.{hint_after_move}
use Rattle.kept_changes.proofs.whole_hint.move_whole.Goals as goal

pub returns-clause-moved : goal.returns-clause-moved
returns-clause-moved g c = λ _.
    let p : Plan = c.args.plan.now in
    let l : Shape = shape_at p c.args.block.now.count in
    let before : WordMatrix = c.args.hint.now.matrix in
    let bytes : List ℕ = c.args.block.now.entries.now in
    let matrix : c.move_by_entries.new.hint ≡ hint_after_move p (move_of c.args.block.now) before =
    c.move_by_entries.ensures.hint
    ∙ ap (λ (x : Shape). moved x (public_rows c.args.public.now.seed 0 0 (digit_cols x) c.args.public.now.dimension)
    (changes_in x.record_len bytes) before) c.in-Some.ensures.1
    ∙ ap (λ (s : List ℕ). moved l (public_rows s 0 0 (digit_cols l) c.args.public.now.dimension) (changes_in p.record_len bytes) before) c.requires.seed
    ∙ ap (λ (n : ℕ). moved l (public_rows p.seed 0 0 (digit_cols l) n) (changes_in p.record_len bytes) before) c.requires.dimension in
    record {
      scheme = refl;
      version = refl;
      rows = ap (λ (x : WordMatrix). x.rows) matrix;
      cols = ap (λ (x : WordMatrix). x.cols) matrix;
      matrix = matrix;
    }
