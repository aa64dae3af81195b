use Rattle.std.proofs.Common.{◌≡◌, ◌≤◌, ◌<◌, ◌+◌, ◌-◌, ◌^◌, ◌++◌, ◌∷◌, [], ℕ, List, length, take, drop, Some, None, Option, Ok, Err, Result, refl, sym, ap, subst, ◌∙◌, append_assoc, rules, arith, true, false, Bool}
use Rattle.publication_log.specs.Publications.{Published, IsPublished, body_bytes}
use Rattle.publication_log.specs.Entries.{log_entry, next_link}
use Rattle.publication_log.proofs.Placings.{fault_is_none}
use Rattle.publication_log.proofs.Readings.{published}
use Rattle.publication_log.proofs.reading.next_at.Goals as goal

pub returns-in_default-decode-clause-bad : goal.returns-in_default-decode-clause-bad
returns-in_default-decode-clause-bad c =
    let it = c.in-Some.ensures.some in
    (c.in-Some.frame.body.now, c.in-Some.frame.rest.now, it.0, it.2, λ p is e. fault_is_none c.in_default-decode.field-0 c.in-Some.frame.body.now p c.in_default-decode.ensures.refused is e)

pub returns-then-not-is_next-clause-bad : goal.returns-then-not-is_next-clause-bad
returns-then-not-is_next-clause-bad c =
    let it = c.in-Some.ensures.some in
    let found = c.in-Ok.ensures.ok in
    let p : Published = record { version = c.in-Ok.publication.version; changes = found.0 } in (
      p,
      c.in-Some.frame.rest.now,
      published c.in-Some.frame.body.now p it.0 found.1 found.2 found.4,
      it.2 ∙ ap (λ (x : List ℕ). log_entry c.args.link.now x ++ c.in-Some.frame.rest.now) found.4,
      λ e. let yes : c.is_next.result ≡ true = c.is_next.ensures.1 e in absurd (let no = c.if-not-is_next.true in cc),
    )

pub returns-clause-some : goal.returns-clause-some
returns-clause-some c =
    let it = c.in-Some.ensures.some in
    let found = c.in-Ok.ensures.ok in
    let p : Published = record { version = c.in-Ok.publication.version; changes = found.0 } in
    let follows : p.version ≡ c.args.version + 1 = c.is_next.ensures.0 c.if-not-is_next.false in (
      p,
      record {
        each = published c.in-Some.frame.body.now p it.0 found.1 found.2 found.4;
        follows = follows;
        version = follows;
        link = it.1 ∙ ap (next_link c.args.link.now) found.4;
        count = c.in-Some.ensures.count;
        whole = it.2 ∙ ap (λ (x : List ℕ). log_entry c.args.link.now x ++ c.in-Some.frame.rest.now) found.4;
      },
    )
