use Rattle.std.proofs.Common.{◌≡◌, ◌*◌, arith, ap, ap₂, subst, sym, ◌∙◌, ℕ, List, length}
use Rattle.digit_pack.specs.Layout.{Shape, records_in}
use Rattle.digit_pack.proofs.Limits.{few_bytes}
use Rattle.pir_schemes.specs.declared.plan.Plan.{Plan}
use Rattle.pir_schemes.specs.Plans.{records_held, slots}
use Rattle.version_store.specs.Editions.{Records, bytes_held, version_shape}
use Rattle.version_store.specs.Openings.{bytes_of_records}
use Rattle.version_store.proofs.RecordBytes.{joined_records}
use Rattle.version_store.proofs.Versions.{long_held, shape_again}
use Rattle.version_store.proofs.first_layer.FirstLayer.bytes_len.Goals as goal

pub returns-clause-value : goal.returns-clause-value
returns-clause-value c =
    let l : Shape = c.self.inside.layout in
    let bytes : List ℕ = (bytes_held c.self.inside.plan c.self.inside.layout c.self.inside.kept.items c.self.inside.digits) in
    ap₂ ◌*◌ c.count.ensures.value c.record_len.ensures.value
    ∙ sym c.self.invariant.made.count
    ∙ ap length (sym (joined_records l bytes c.self.invariant.made.count)
    ∙ ap bytes_of_records (sym c.self.invariant.made.slots_are)
    ∙ ap (λ e. bytes_of_records (slots e.plan e.records)) c.self.view_is)

pub returns-clause-each : goal.returns-clause-each
returns-clause-each c =
    let l : Shape = c.self.inside.layout in
    let bytes : List ℕ = (bytes_held c.self.inside.plan c.self.inside.layout c.self.inside.kept.items c.self.inside.digits) in
    ap₂ ◌*◌ (c.count.ensures.value ∙ sym (long_held c.self.inside.plan l.count bytes) ∙ ap (λ (e : Records). length e.records) c.self.view_is)
    (c.record_len.ensures.value ∙ sym (ap (λ (s : Shape). s.record_len) c.self.invariant.made.sizes) ∙ ap (λ (e : Records). e.plan.record_len) c.self.view_is)

pub returns-clause-records : goal.returns-clause-records
returns-clause-records c =
    let p : Plan = c.self.inside.plan in
    let l : Shape = c.self.inside.layout in
    let bytes : List ℕ = bytes_held p l c.self.inside.kept.items c.self.inside.digits in
    let all : List (List ℕ) = slots p (records_held p l.count bytes) in
    let are : all ≡ records_in l bytes = c.self.invariant.made.slots_are in
    subst (λ (e : Records). records_in (version_shape e) (bytes_of_records (slots e.plan e.records)) ≡ slots e.plan e.records) c.self.view_is
    (ap (λ (s : Shape). records_in s (bytes_of_records all)) (shape_again p l bytes c.self.invariant.made.sizes)
    ∙ ap (λ (xs : List (List ℕ)). records_in l (bytes_of_records xs)) are
    ∙ ap (records_in l) (joined_records l bytes c.self.invariant.made.count)
    ∙ sym are)

pub returns-clause-few : goal.returns-clause-few
returns-clause-few c =
    omega (arith, ap₂ ◌*◌ c.count.ensures.value c.record_len.ensures.value, few_bytes c.self.inside.layout c.self.invariant.made.layout)
