use Rattle.std.proofs.Common.{◌∷◌, ◌++◌, [], ℕ, List, sym, ap, ◌∙◌}
use Rattle.publication_log.specs.Publications.{Published, body_bytes}
use Rattle.publication_log.specs.Entries.{next_link}
use Rattle.publication_log.specs.Logs.{log_header_bytes, first_link, log_bytes}
use Rattle.publication_log.proofs.Chains.{last_push}
use Rattle.publication_log.proofs.Onward.{reads_one, none_left, all_read, linked_on}
use Rattle.publication_log.proofs.relinking.relinked.Goals as goal

pub entries-preserved : goal.entries-preserved
entries-preserved c = λ link version ps each e.
    let it = c.entries.invariant link version ps each e in
    let f = c.in-Some.frame in
    let whole = c.in-Some.ensures.some in
    let h = c.args.header.now in
    let one = reads_one link ps it.0 it.1 c.entries.rest.now f.body.now f.digest.now f.rest.now it.2 whole.0 whole.1 whole.2 c.in-Some.ensures.shorter in (
      it.0 ++ one.first ∷ [],
      one.others,
      one.more,
      linked_on (log_header_bytes h) c.entries.bytes.items c.push_entry.new.bytes.items f.body.now (first_link h) c.entries.link it.0 one.first it.3 it.4
          c.in_ok-link.ensures.added one.body_is,
      c.in_ok-link.ensures.link
          ∙ ap (λ (x : List ℕ). next_link c.entries.link x) one.body_is
          ∙ ap (λ (x : List ℕ). next_link x (body_bytes one.first)) it.4
          ∙ sym (last_push (first_link h) it.0 one.first),
    )

pub returns : goal.returns
returns c = λ link version ps each e.
    let it = c.entries.invariant link version ps each e in
    let none = none_left link ps it.0 it.1 c.entries.rest.now it.2 c.in_default.ensures.none in
    it.3 ∙ ap (λ (x : List Published). log_bytes c.args.header.now x) (sym (all_read link ps it.0 it.1 c.entries.rest.now it.2 none))
