use Rattle.std.proofs.Common.{◌≡◌, ℕ, List, ap, ◌∙◌, sym, subst}
use Rattle.pir_schemes.specs.Plans.{records_held}
use Rattle.snapshot_file.specs.declared.snapshot.Header.{Header}
use Rattle.snapshot_file.specs.Snapshots.{header_of}
use Rattle.snapshot_file.specs.Widenings.{in_wide}
use Rattle.version_store.specs.Openings.{IsSound, plan_held}
use Rattle.server_commands.proofs.moving.widened.Goals as goal

pub returns-in-Ok : goal.returns-in-Ok
returns-in-Ok c =
    let file : Header = header_of c.args.snapshot.now in
    let records : List ℕ = c.args.snapshot.now.records.items in
    let is : header_of c.in-Ok.wide ≡ in_wide file c.args.seed = c.in-Ok.ensures.widened.header in
    let sound : IsSound file records = c.requires in
    let stay = c.widened_records_stay.ensures file c.args.seed records sound c.in-Ok.ensures.widened.form c.in-Ok.ensures.widened.layout in
    record {
      whole = c.requires;
      form = c.in-Ok.ensures.widened.form;
      header = is;
      sound = subst (λ (h : Header). IsSound h c.in-Ok.wide.records.items) (sym is)
          (subst (λ (r : List ℕ). IsSound (in_wide file c.args.seed) r) (sym c.in-Ok.ensures.widened.same) stay.0);
      same = ap (λ (h : Header). records_held (plan_held h) h.count c.in-Ok.wide.records.items) is
          ∙ ap (λ (r : List ℕ). records_held (plan_held (in_wide file c.args.seed)) file.count r) c.in-Ok.ensures.widened.same
          ∙ stay.1;
    }
