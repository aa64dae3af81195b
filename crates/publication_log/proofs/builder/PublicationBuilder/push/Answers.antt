use Rattle.std.proofs.Common.{◌≡◌, ◌≤◌, ◌<◌, ◌+◌, ◌-◌, ◌^◌, ◌++◌, ◌∷◌, [], ℕ, List, length, take, drop, Some, None, Option, Ok, Err, Result, refl, sym, ap, subst, ◌∙◌, append_assoc, rules, arith, true, false, Bool}
use Rattle.publication_log.specs.Publications.{Placed, placed_bytes}
use Rattle.publication_log.proofs.Placings.{body_push, are_push, next_push}
use Rattle.publication_log.proofs.builder.PublicationBuilder.push.Goals as goal

pub returns-clause-added : goal.returns-clause-added
returns-clause-added c = λ p made.
    let d : Placed = record { place = c.args.place; bytes = c.args.bytes.now } in record {
      version = made.version;
      body = c.in-Ok.ensures.added ∙ ap (λ (x : List ℕ). x ++ placed_bytes d) made.body ∙ body_push p d;
      low = sym (next_push 0 p.changes d);
      each = are_push 0 p.changes d made.each (record { place = c.ranges.place.fits; len = c.if-bytes-ge-RECORD_END.false }) (omega (arith, made.low, c.if-place-self.false));
    }
