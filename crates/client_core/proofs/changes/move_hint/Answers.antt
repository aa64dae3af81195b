use Rattle.std.proofs.Common.{◌∙◌, ℕ, List, ap}
use Rattle.matrix_u32.specs.Matrix.{WordMatrix}
use Rattle.seed_expand.specs.Words.{public_rows}
use Rattle.digit_pack.specs.Layout.{Shape, digit_cols}
use Rattle.hint_changes.specs.Changes.{moved}
use Rattle.hint_changes.specs.Entries.{changes_in}
use Rattle.client_core.specs.declared.state.ServerInfo.{ServerInfo}
use Rattle.client_core.specs.declared.state.Hint.{Hint}
use Rattle.client_core.specs.States.{shape_known}
use Rattle.client_core.proofs.changes.move_hint.Goals as goal

pub returns : goal.returns
returns g c =
    let k : ServerInfo = c.args.known.now in
    let h : Hint = c.args.hint.now in
    let bytes : List ℕ = c.args.entries.now in
    let l : Shape = shape_known k in
    ap (λ (m : WordMatrix). record h { version = k.version; matrix = m })
    (c.move_by_entries.ensures.hint
    ∙ ap (λ (x : Shape). moved x (public_rows c.args.public.seed 0 0 (digit_cols x) c.args.public.dimension) (changes_in x.record_len bytes) h.matrix)
    c.layout.ensures.shape
    ∙ ap (λ (s : List ℕ). moved l (public_rows s 0 0 (digit_cols l) c.args.public.dimension) (changes_in l.record_len bytes) h.matrix) c.requires.seed
    ∙ ap (λ (n : ℕ). moved l (public_rows k.plan.seed 0 0 (digit_cols l) n) (changes_in l.record_len bytes) h.matrix) c.requires.dimension)
