use Rattle.std.proofs.Common.{ap, sym, ◌∙◌, ◌≡◌, ℕ, length, List, subst}
use Rattle.matrix_u32.specs.Sum.{dot}
use Rattle.matrix_u32.specs.Matrix.{row}
use Rattle.matrix_u32.proofs.Products.{length-list_of}
use Rattle.digit_pack.specs.Layout.{FitsRecord, record_at, record_digits, record_bytes, digit_matrix, digit_rows}
use Rattle.simple_scheme.specs.Simple.{hint_of, simple_answer, simple_query, simple_reading}
use Rattle.digit_pack.proofs.RecordLemmas.{shape_of_layout}
use Rattle.simple_scheme.proofs.Recovering.{record_or_memory}
use Rattle.simple_scheme.proofs.records.recover.Goals as goal

pub returns-clause-quiet : goal.returns-clause-quiet
unfolding simple_answer
returns-clause-quiet g c = λ records a1 e whole eh ea quiet.
    let l = c.args.layout.now in
    let i : ℕ = c.args.i in
    let bytes : List ℕ = record_at records i in
    let shape = shape_of_layout l c.width-width.ensures.layout in
    let back = c.pack_unpacks.ensures l bytes shape.width whole in
    let answer : List ℕ = simple_answer (digit_matrix l records) (simple_query l a1 c.args.seed.now c.args.number i) in
    let read : simple_reading l c.args.hint.now c.args.seed.now c.args.number i c.args.answer.now ≡ record_digits l bytes =
    ap (λ h. simple_reading l h c.args.seed.now c.args.number i c.args.answer.now) eh
    ∙ ap (λ a. simple_reading l (hint_of (digit_matrix l records) a1) c.args.seed.now c.args.number i a) ea
    ∙ c.quiet_retrieval_reads_the_record.ensures l records a1 c.args.seed.now c.args.number i shape c.requires.record e quiet in
    record_or_memory l (digit_rows l) c.args.answer.now (simple_reading l c.args.hint.now c.args.seed.now c.args.number i c.args.answer.now) bytes
    c.read_record-record.result
    (ap length ea ∙ length-list_of (digit_rows l) (λ r. dot (row (digit_matrix l records) r) (simple_query l a1 c.args.seed.now c.args.number i)))
    (subst (FitsRecord l) (sym read) back.accepted)
    (ap (record_bytes l) read ∙ back.same)
    c.read_record-record.ensures
