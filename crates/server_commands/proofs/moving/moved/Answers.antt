use Rattle.std.proofs.Common.{◌≡◌, ℕ, List, ap, ◌∙◌, sym, subst}
use Rattle.pir_schemes.specs.Plans.{records_held}
use Rattle.snapshot_file.specs.declared.snapshot.Header.{Header}
use Rattle.snapshot_file.specs.Snapshots.{header_of}
use Rattle.snapshot_file.specs.Migrations.{in_slots}
use Rattle.version_store.specs.Openings.{IsSound, plan_held}
use Rattle.server_commands.proofs.moving.moved.Goals as goal

pub returns-in-Ok : goal.returns-in-Ok
returns-in-Ok c =
    let file : Header = header_of c.args.snapshot.now in
    let records : List ℕ = c.args.snapshot.now.records.items in
    let slots : List ℕ = c.in-Ok.moved.records.items in
    let is : header_of c.in-Ok.moved ≡ in_slots file = c.in-Ok.ensures.moved.header in
    let sound : IsSound file records = c.requires in
    let stay = c.migrated_records_stay.ensures file records slots sound c.in-Ok.ensures.moved.form c.in-Ok.ensures.moved.layout c.in-Ok.ensures.moved.slots in
    record {
      whole = c.requires;
      form = c.in-Ok.ensures.moved.form;
      header = is;
      sound = subst (λ (h : Header). IsSound h slots) (sym is) stay.0;
      same = ap (λ (h : Header). records_held (plan_held h) h.count slots) is ∙ stay.1;
    }
