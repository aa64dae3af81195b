use Rattle.std.proofs.Common.{ap, sym, ◌∙◌, ◌≡◌, List, ℕ, Bool, true, Some, None, Option, if◌then◌else◌}
use Rattle.frame_codec.specs.declared.frame.Frame.{Frame}
use Rattle.frame_codec.specs.declared.frame.Frame.TheVariants.{Refused}
use Rattle.matrix_u32.specs.Matrix.{WordMatrix}
use Rattle.digit_pack.specs.Layout.{Shape, digit_matrix, records_in}
use Rattle.digit_pack.proofs.Limits.{ordinary_room}
use Rattle.once_session.specs.declared.stage.Table.{Table}
use Rattle.once_session.specs.declared.stage.Stage.{Stage}
use Rattle.once_session.specs.declared.stage.Stage.TheVariants.{Loaded, Bad}
use Rattle.once_session.specs.Courses.{is_load, loaded_shape, table_of}
use Rattle.once_session.proofs.stage.load.Goals as goal

pub digits_of_records-requires-clause-room : goal.digits_of_records-requires-clause-room
digits_of_records-requires-clause-room c =
    ordinary_room c.in-Some.layout c.in-Some.ensures.layout (ap (λ (s : Shape). s.side) c.in-Some.ensures.some.1)

pub returns : goal.returns
returns c =
    let bytes : List ℕ = c.args.records.now in
    let l : Shape = loaded_shape c.args.record_len c.args.groups c.args.width bytes in
    let e : c.as_slice.result.now ≡ bytes = c.as_slice.ensures.items in
    let is : is_load c.args.record_len c.args.groups c.args.width bytes ≡ true =
    ap (λ (b : List ℕ). is_load c.args.record_len c.args.groups c.args.width b) (sym e) ∙ c.in-Some.ensures.some.0 in
    let layout : c.in-Some.layout ≡ l =
    c.in-Some.ensures.some.1 ∙ ap (λ (b : List ℕ). loaded_shape c.args.record_len c.args.groups c.args.width b) e in
    let digits : c.in_ok-digits.digits ≡ digit_matrix l (records_in l bytes) =
    c.in_ok-digits.ensures ∙ ap (λ (b : List ℕ). digit_matrix c.in-Some.layout (records_in c.in-Some.layout b)) c.as_slice-2.ensures.items
    ∙ ap (λ s. digit_matrix s (records_in s bytes)) layout in
    let t : Shape → WordMatrix → Table = λ l d. record { layout = l; digits = d } in
    let table : t c.in-Some.layout c.in_ok-digits.digits ≡ table_of c.args.record_len c.args.groups c.args.width bytes =
    ap (λ s. t s c.in_ok-digits.digits) layout ∙ ap (t l) digits in
    record {
      reply_is = let none : Bool → Option Frame = λ b. if b then None else Some (Refused 1) in sym (ap none is);
      stage_is = ap Loaded table
          ∙ (let goes : Bool → Stage = λ b. if b then Loaded (table_of c.args.record_len c.args.groups c.args.width bytes) else Bad in sym (ap goes is));
      fits = tt;
      kept = record { layout = c.in-Some.ensures.layout; rows = ap (λ m. m.rows) c.in_ok-digits.ensures; cols = ap (λ m. m.cols) c.in_ok-digits.ensures };
    }
