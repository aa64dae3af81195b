use Rattle.std.proofs.Common.{◌∷◌, ◌++◌, [], arith}
use Rattle.publication_log.proofs.Chains.{length_push}
use Rattle.publication_log.proofs.Onward.{reads_one, none_left, after_first, after_all}
use Rattle.publication_log.proofs.reading.Publications.without_first.Goals as goal

pub loop-i-preserved : goal.loop-i-preserved
loop-i-preserved c = λ link version ps each e.
    let it = c.loop-i.invariant link version ps each e in
    let f = c.in-Some.frame in
    let whole = c.in-Some.ensures.some in
    let one = reads_one link ps it.0 it.1 c.loop-i.rest.now f.body.now f.digest.now f.rest.now it.2 whole.0 whole.1 whole.2 c.in-Some.ensures.shorter in
    (it.0 ++ one.first ∷ [], one.others, one.more, omega (arith, length_push it.0 one.first, it.3))

pub returns-in_default : goal.returns-in_default
returns-in_default c = λ link version ps each e.
    let it = c.loop-i.invariant link version ps each e in
    let none = none_left link ps it.0 it.1 c.loop-i.rest.now it.2 c.in_default.ensures.none in
    after_all link ps it.0 it.1 c.loop-i.rest.now c.args.n it.2 none (omega (arith, it.3, c.loop-i.auto.i-end))

pub returns : goal.returns
returns c = λ link version ps each e.
    let it = c.loop-i.invariant link version ps each e in
    after_first link ps it.0 it.1 c.loop-i.rest.now c.args.n it.2 (omega (arith, it.3, c.loop-i.auto.i-end, c.loop-i-test.false))
