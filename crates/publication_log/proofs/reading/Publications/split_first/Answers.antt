use Rattle.std.proofs.Common.{◌≡◌, ◌≤◌, ◌<◌, ◌+◌, ◌-◌, ◌^◌, ◌++◌, ◌∷◌, [], ℕ, List, length, take, drop, Some, None, Option, Ok, Err, Result, refl, sym, ap, subst, ◌∙◌, append_assoc, rules, arith, true, false, Bool}
use Rattle.publication_log.specs.Publications.{body_bytes}
use Rattle.publication_log.specs.Entries.{next_link, chain_bytes}
use Rattle.publication_log.specs.Logs.{bodies_of}
use Rattle.publication_log.proofs.Frames.{length-next, entry_parts, one_frame}
use Rattle.publication_log.proofs.reading.Publications.split_first.Goals as goal

pub returns-in_err-frame-clause-some : goal.returns-in_err-frame-clause-some
returns-in_err-frame-clause-some c = λ link p ps is e.
    let next : List ℕ = next_link link (body_bytes p) in
    let rest : List ℕ = chain_bytes next (bodies_of ps) in
    absurd (c.in_err-frame.ensures.none (body_bytes p) next rest is.len (length-next link (body_bytes p)) (e ∙ entry_parts link (body_bytes p) rest))

pub returns-in_err-publication-clause-some : goal.returns-in_err-publication-clause-some
returns-in_err-publication-clause-some c = λ link p ps is e.
    let it = c.in_ok-frame.ensures.some in
    let f = c.in_ok-frame.frame in
    let next : List ℕ = next_link link (body_bytes p) in
    let rest : List ℕ = chain_bytes next (bodies_of ps) in
    let same = one_frame f.body.now (body_bytes p) f.digest.now next f.rest.now rest it.0 is.len it.1 (length-next link (body_bytes p)) (sym it.2 ∙ e ∙ entry_parts link (body_bytes p) rest) in
    absurd (c.in_err-publication.ensures p is.version same.0)

pub returns-clause-some : goal.returns-clause-some
returns-clause-some c = λ link p ps is e.
    let it = c.in_ok-frame.ensures.some in
    let f = c.in_ok-frame.frame in
    let next : List ℕ = next_link link (body_bytes p) in
    let rest : List ℕ = chain_bytes next (bodies_of ps) in
    let same = one_frame f.body.now (body_bytes p) f.digest.now next f.rest.now rest it.0 is.len it.1 (length-next link (body_bytes p)) (sym it.2 ∙ e ∙ entry_parts link (body_bytes p) rest) in
    let found = c.in_ok-publication.ensures p is.version same.0 in
    (found.0, found.1, same.2)
