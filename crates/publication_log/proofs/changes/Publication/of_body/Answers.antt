use Rattle.std.proofs.Common.{◌≡◌, ◌≤◌, ◌<◌, ◌+◌, ◌-◌, ◌^◌, ◌++◌, ◌∷◌, [], ℕ, List, length, take, drop, Some, None, Option, refl, sym, ap, subst, ◌∙◌, rules, arith, true, false, Bool}
use Rattle.std.proofs.lemmas.List.{drop_at}
use Rattle.byteorder.specs.Endian.{little_number}
use Rattle.publication_log.specs.Publications.{log_number_bytes, changes_bytes}
use Rattle.publication_log.proofs.Numbers.{tail_is, number_back, length-number}
use Rattle.publication_log.proofs.Placings.{length-body}
use Rattle.publication_log.proofs.changes.Publication.of_body.Goals as goal

pub returns-then-body-lt-VERSION_LEN : goal.returns-then-body-lt-VERSION_LEN
returns-then-body-lt-VERSION_LEN c = λ p fits e. absurd (omega (arith, c.if-body-lt-VERSION_LEN.true, ap length e, length-body p))

pub returns : goal.returns
returns c = λ p fits e. (
  c.read_u64.ensures ∙ ap (little_number 8) e ∙ number_back 8 p.version (changes_bytes p.changes) fits,
  tail_is 8 c.args.body.now ∙ ap (drop 8) e ∙ drop_at (log_number_bytes 8 p.version) (changes_bytes p.changes) 8 (length-number 8 p.version),
)
