use Rattle.std.proofs.Common.{◌≡◌, ◌++◌, ℕ, List, min, length, refl, sym, ap, ◌∙◌}
use Rattle.pir_world.proofs.Sending.{when_ok, serves_delivery}
use Rattle.pir_world.proofs.client_endpoint.ClientEndpoint.deliver_up.Goals as goal

pub returns-clause-served : goal.returns-clause-served
returns-clause-served g c = rw (← c.self.view_is) (λ h session stands at.
    let f = c.in-Ok.ensures.fed h stands session at in
    let n : c.min-n.result ≡ min c.args.most (length c.self.inside.up.items) = c.min-n.ensures ∙ ap (λ (x : ℕ). min c.args.most x) c.len.ensures.value in
    let down = when_ok c.extend_from_slice.result _ (sym c.if-is_err.ensures.value) c.extend_from_slice.ensures.ok
    ∙ ap (λ (b : List ℕ). c.self.inside.down.items ++ b) c.as_slice-2.ensures.value in (
      f.0,
      f.1,
      serves_delivery c.args.most c.min-n.result h c.args.server.now.store c.feed.new.self.store
          (record { client = c.self.inside.client; up = c.self.inside.up.items; down = c.self.inside.down.items })
          (record { client = c.self.inside.client; up = c.advance.new.self.items; down = c.extend_from_slice.new.self.items })
          session f.0 c.as_slice.result.now c.new-replies.result.items c.feed.new.out.items n c.as_slice.ensures c.new-replies.ensures.items f.2 refl
          c.advance.ensures.items down,
    ))
