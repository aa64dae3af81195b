use Rattle.std.proofs.Common.{sym, subst, ◌∙◌}
use Rattle.pir_schemes.specs.Plans.{records_held}
use Rattle.snapshot_file.specs.Snapshots.{header_of}
use Rattle.version_store.specs.Histories.{StoreState, StandsFor, opened}
use Rattle.version_store.specs.Openings.{plan_held}
use Rattle.foreign_sessions.proofs.server.ServerSession.open.Goals as goal

pub returns-clause-opened : goal.returns-clause-opened
returns-clause-opened c =
    let h = header_of c.in_ok-snapshot.snapshot in
    record {
      header = header_of c.in_ok-snapshot.snapshot;
      records = c.in_ok-snapshot.snapshot.records.items;
      snapshot = c.in_ok-snapshot.ensures.accepted;
      file = c.in_ok-snapshot.ensures.input;
      store = c.new.ensures.store ∙ c.in-Ok.ensures.held;
      history = subst (λ (s : StoreState). StandsFor s (opened h.version (records_held (plan_held h) h.count c.in_ok-snapshot.snapshot.records.items)))
          (sym c.new.ensures.store) c.in-Ok.ensures.history;
      none = c.new.ensures.none;
      silent = c.new-2.ensures.items;
    }
