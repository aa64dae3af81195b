use Rattle.std.proofs.Common.{ap, ◌≡◌, ◌∙◌, ℕ, List, [], false}
use Rattle.std.proofs.lemmas.Result.{IfOk-weaker}
use Rattle.std.specs.List.{list_all}
use Rattle.digit_pack.specs.Layout.{Shape, records_in}
use Rattle.snapshot_file.specs.declared.snapshot.Header.{Header}
use Rattle.snapshot_file.specs.Snapshots.{shape_of}
use Rattle.version_store.specs.HeldRecords.{bytes_held_by}
use Rattle.pir_schemes.specs.declared.plan.Plan.{Plan}
use Rattle.pir_schemes.specs.Plans.{is_slot_of, records_held}
use Rattle.version_store.specs.Editions.{Records}
use Rattle.version_store.specs.Histories.{StoreState, StandsFor, opened}
use Rattle.version_store.specs.Openings.{held_of, plan_held, records_for}
use Rattle.version_store.proofs.Slotted.{held_slots}
use Rattle.version_store.proofs.HistoryLemmas.{open_stands}
use Rattle.version_store.proofs.store.Store.hold.Goals as goal

pub returns-clause-held : goal.returns-clause-held
returns-clause-held g c =
    let ok = rw c.unwrap-layout.ensures at c.layout.ensures.accepted in
    let h : Header = c.args.header.now in
    let bytes : List ℕ = bytes_held_by c.args.held in
    let of : Plan → ℕ → Records = λ p n. record { plan = p; records = records_held p n bytes } in
    let edition : c.in_ok-edition.edition ≡ of (plan_held h) h.count =
    c.in_ok-edition.ensures
    ∙ ap (λ (l : Shape). of c.plan_of-plan.result l.count) ok.0
    ∙ ap (λ p. of p h.count) c.plan_of-plan.ensures in
    let made : Records → StoreState = λ e. record {
      version = h.version;
      edition = e;
      draft = e.records;
      marked = false;
      publisher = h.publisher;
      log = [];
      olds = [];
    } in
    IfOk-weaker c.of.result (λ s. s ≡ made c.in_ok-edition.edition) (λ s. s ≡ held_of h bytes) (λ s e. e ∙ ap made edition) c.of.ensures

pub returns-clause-history : goal.returns-clause-history
returns-clause-history g c =
    let h : Header = c.args.header.now in
    let bytes : List ℕ = bytes_held_by c.args.held in
    IfOk-weaker c.of.result (λ s. s ≡ held_of h bytes) (λ s. StandsFor s (opened h.version (records_for h bytes))) (λ s e. open_stands s h bytes e)
    (returns-clause-held g c)

pub open-requires-clause-slots : goal.open-requires-clause-slots
open-requires-clause-slots g c =
    let ok = rw c.unwrap-layout.ensures at c.layout.ensures.accepted in
    let h : Header = c.args.header.now in
    let bytes : List ℕ = bytes_held_by c.args.held in
    ap (λ (l : Shape). list_all (is_slot_of c.plan_of-plan.result) (records_in l bytes)) ok.0
    ∙ ap (λ (p : Plan). list_all (is_slot_of p) (records_in (shape_of h) bytes)) c.plan_of-plan.ensures
    ∙ held_slots h bytes c.requires.sound.slots
