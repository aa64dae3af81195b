use Rattle.std.proofs.Common.{arith, refl, ap, sym, ◌∙◌, ◌≡◌, ℕ, ◌%◌, List}
use Rattle.std.proofs.lemmas.Nat.{mod_below}
use Rattle.matrix_u32.specs.Matrix.{WordMatrix}
use Rattle.seed_expand.specs.Words.{public_rows}
use Rattle.digit_pack.specs.Layout.{Shape, digit_cols}
use Rattle.hint_changes.specs.Changes.{moved, rows_in_place}
use Rattle.hint_changes.specs.Entries.{changes_in}
use Rattle.pir_schemes.specs.declared.plan.Plan.{Plan}
use Rattle.pir_schemes.specs.Plans.{shape_at}
use Rattle.change_file.specs.Files.{move_of}
use Rattle.kept_changes.specs.Moves.{hint_after_move, record_rows}
use Rattle.kept_changes.proofs.Steps.{one_block}
use Rattle.kept_changes.proofs.files.move_by_block.Goals as goal

pub returns-clause-moved : goal.returns-clause-moved
returns-clause-moved g c = λ _.
    let p : Plan = c.args.plan.now in
    let i : ℕ = c.args.index in
    let l : Shape = shape_at p c.args.block.now.count in
    let before : WordMatrix = c.args.hint.now.matrix in
    let bytes : List ℕ = c.args.block.now.entries.now in
    let is : c.in-Some.layout ≡ l = c.in-Some.ensures.1 in
    let groups : c.groups.result ≡ p.groups = c.groups.ensures.value ∙ ap (λ (x : Shape). x.groups) is in
    let rows : record_rows p i c.move_place.new.hint ≡ record_rows p i (hint_after_move p (move_of c.args.block.now) before) =
    sym (ap (λ (x : Shape). rows_in_place x (i % p.groups) c.move_place.new.hint) is)
    ∙ sym (ap (λ (n : ℕ). rows_in_place c.in-Some.layout (i % n) c.move_place.new.hint) groups)
    ∙ c.move_place.ensures.moved
    ∙ ap (λ (n : ℕ). rows_in_place c.in-Some.layout (i % n) (moved c.in-Some.layout (public_rows c.args.public.now.seed 0 0 (digit_cols c.in-Some.layout) c.args.public.now.dimension)
    (changes_in c.in-Some.layout.record_len bytes) before)) groups
    ∙ ap (λ (x : Shape). rows_in_place x (i % p.groups) (moved x (public_rows c.args.public.now.seed 0 0 (digit_cols x) c.args.public.now.dimension)
    (changes_in x.record_len bytes) before)) is
    ∙ ap (λ (s : List ℕ). rows_in_place l (i % p.groups) (moved l (public_rows s 0 0 (digit_cols l) c.args.public.now.dimension) (changes_in p.record_len bytes) before))
    c.requires.seed
    ∙ ap (λ (n : ℕ). rows_in_place l (i % p.groups) (moved l (public_rows p.seed 0 0 (digit_cols l) n) (changes_in p.record_len bytes) before)) c.requires.dimension in
    one_block p i (move_of c.args.block.now) c.args.hint.now _ c.requires.rows
    (mod_below i p.groups (omega (arith, c.groups.ensures.layout.groups.0, c.groups.ensures.value, groups))) refl refl
    c.move_place.ensures.size.0 c.move_place.ensures.size.1 rows
