use Rattle.std.proofs.Common.{rules, ◌≡◌, ◌+◌, ◌^◌, Bool, true, false, refl, ne_eqb}
use Rattle.std.specs.Prelude.{◌==◌}
use Rattle.server_core.proofs.serve.serve_publish.Goals as goal

pub returns-in-Err-Memory-clause-served : goal.returns-in-Err-Memory-clause-served
returns-in-Err-Memory-clause-served g c h s =
    let marked : c.args.store.now.marked ≡ true = not_false c.args.store.now.marked (λ e. let bad = c.in-Err-Memory.ensures.nothing.1 e in cc) in
    let more : (c.args.store.now.version + 1 == 2 ^ 64) ≡ false =
    ne_eqb (c.args.store.now.version + 1) (2 ^ 64) (λ e. let bad = c.in-Err-Memory.ensures.used_up.1 (marked, e) in cc) in
    search rules
  where
    not_false : (b : Bool) → (b ≡ false → ⊥) → b ≡ true
    not_false true e = refl
    not_false false e = absurd (e refl)
