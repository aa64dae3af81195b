use Rattle.std.proofs.Common.{◌≡◌, Bool, ◌<◌, ◌^◌, All, ℕ, List, length, map, Some, refl, sym, ap, subst, ◌∙◌}
use Rattle.std.proofs.lemmas.List.{length-map}
use Rattle.digit_pack.specs.Layout.{is_wide}
use Rattle.pir_schemes.specs.Plans.{records_held}
use Rattle.version_store.specs.Openings.{plan_held}
use Rattle.snapshot_file.specs.Snapshots.{header_of}
use Rattle.snapshot_file.specs.declared.snapshot.Header.{Header}
use Rattle.version_store.specs.Histories.{StoreState, StandsFor, opened}
use Rattle.server_core.specs.Cores.{session_of}
use Rattle.server_core.specs.Sessions.{new_session}
use Rattle.pir_world.specs.Runs.{opening}
use Rattle.pir_world.specs.Sides.{fresh_side}
use Rattle.pir_world.proofs.Opening.{opening_parts, opening_run}
use Rattle.pir_world.proofs.world.World.new.Goals as goal

pub invariant_of-result : goal.invariant_of-result
invariant_of-result g c =
    let h = header_of c.args.snapshot in
    let bytes = c.args.snapshot.records.items in
    let seeds = c.args.seeds.items in
    let same = c.open_ends.ensures.store ∙ c.new-server.ensures.store in
    let stands = subst (λ (s : StoreState). StandsFor s (opened c.args.snapshot.version (records_held (plan_held h) h.count bytes))) (sym same) c.in-Ok.ensures.history in
    let all = subst (λ (b : List ℕ). All (λ (x : ℕ). x < 2 ^ 8) b) c.as_slice.ensures.value c.copy_of-copied.ensures.bytes in
    let wide = c.is_wide-wide.ensures ∙ ap is_wide c.from.ensures ∙ ap (λ (x : Header). is_wide x.form) c.header-header.ensures in
    let ends = c.in-Ok-open_ends.ensures.ends ∙ ap (λ (b : Bool). map (fresh_side b) c.as_slice-2.result.now) wide ∙ ap (λ (s : List (List ℕ)). map (fresh_side (is_wide h.form)) s) c.as_slice-2.ensures.value in
    let at = subst (λ (s : List (List ℕ)). (id : ℕ) → id < length s →
    session_of c.open_ends.new.server.sessions id ≡ Some new_session) c.as_slice-2.ensures.value c.in-Ok-open_ends.ensures.opened in (
      opening h bytes seeds,
      opening_run h bytes seeds _ (record { sound = c.in-Ok.ensures.sound; bytes = all }) c.header-header.ensures (c.in-Ok-copied.ensures.items
          ∙ c.as_slice.ensures.value) refl c.new.ensures.items
          (opening_parts h bytes seeds c.open_ends.new.server c.in-Ok-open_ends.ends.items c.new-2.result.items (same
          ∙ c.in-Ok.ensures.held) stands ends at c.new-2.ensures.items),
    )

pub returns-clause-opened : goal.returns-clause-opened
returns-clause-opened g c = record {
  header = c.header-header.ensures;
  records_are = c.in-Ok-copied.ensures.items ∙ c.as_slice.ensures.value;
  seeds_are = refl;
  clients = ap length (c.in-Ok-open_ends.ensures.ends ∙ ap (λ (b : Bool). map (fresh_side b) c.as_slice-2.result.now) (c.is_wide-wide.ensures ∙ ap is_wide c.from.ensures ∙ ap (λ (x : Header). is_wide x.form) c.header-header.ensures) ∙ ap (λ (s : List (List ℕ)). map (fresh_side (is_wide (header_of c.args.snapshot).form)) s) c.as_slice-2.ensures.value)
      ∙ length-map c.args.seeds.items (fresh_side (is_wide (header_of c.args.snapshot).form));
  steps = c.new.ensures.items;
  outcomes = c.new-2.ensures.items;
  unbroken = refl;
}
