use Rattle.std.proofs.Common.{ap, sym, ◌∙◌, ◌≡◌, ℕ, length, List, subst}
use Rattle.matrix_u32.specs.Matrix.{WordMatrix}
use Rattle.digit_pack.specs.Layout.{FitsRecord, record_at, record_digits, record_bytes, digit_matrix}
use Rattle.digit_pack.proofs.RecordLemmas.{shape_of_layout}
use Rattle.simple_scheme.proofs.Recovering.{record_or_memory}
use Rattle.double_scheme.specs.Double.{server_hint_of, client_hint_of, double_answer_count, double_reading}
use Rattle.double_scheme.proofs.Retrieval.{length-answer}
use Rattle.double_scheme.proofs.records.recover.Goals as goal

pub returns-clause-quiet : goal.returns-clause-quiet
returns-clause-quiet g c = λ records a1 a2 rows1 rows2 cols whole eh ea quiet.
    let l = c.args.layout.now in
    let i : ℕ = c.args.i in
    let seed : List ℕ = c.args.seed.now in
    let number : ℕ = c.args.number in
    let bytes : List ℕ = record_at records i in
    let shape = shape_of_layout l c.width-width.ensures.layout in
    let back = c.pack_unpacks.ensures l bytes shape.width whole in
    let server : WordMatrix = server_hint_of l.width (digit_matrix l records) a1 in
    let read : double_reading l c.args.client_hint.now seed number c.args.answer.now ≡ record_digits l bytes =
    ap (λ h. double_reading l h seed number c.args.answer.now) eh
    ∙ ap (λ a. double_reading l (client_hint_of server a2) seed number a) ea
    ∙ c.quiet_retrieval_reads_the_record.ensures l records a1 a2 seed number i shape c.requires.record rows1 rows2 cols quiet in
    let count : length c.args.answer.now ≡ double_answer_count l c.args.client_hint.now.cols =
    ap length ea ∙ length-answer l records a1 a2 seed number i rows1 rows2 cols ∙ ap (double_answer_count l) (sym (ap (λ (h : WordMatrix). h.cols) eh)) in
    record_or_memory l (double_answer_count l c.args.client_hint.now.cols) c.args.answer.now
    (double_reading l c.args.client_hint.now seed number c.args.answer.now) bytes c.read_record-record.result
    count
    (subst (FitsRecord l) (sym read) back.accepted)
    (ap (record_bytes l) read ∙ back.same)
    c.read_record-record.ensures
