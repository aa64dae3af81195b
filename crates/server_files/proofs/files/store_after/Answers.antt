use Rattle.std.proofs.Common.{◌≡◌, ℕ, IfOk, take, drop, subst}
use Rattle.publication_log.specs.Entries.{last_link}
use Rattle.publication_log.specs.Logs.{bodies_of}
use Rattle.version_store.specs.Histories.{StoreState}
use Rattle.server_files.proofs.Restored.{next_drop, same_store}
use Rattle.server_files.proofs.files.store_after.Goals as goal

pub returns-clause-replayed : goal.returns-clause-replayed
returns-clause-replayed g c link version ps each entries =
    let n : ℕ = c.earlier_count-earlier.result in
    let next = next_drop n version ps each in
    let done = c.open_and_replay.ensures.replayed (last_link link (bodies_of (take n ps))) next.0 (drop n ps) next.1
    (c.without_first.ensures link version ps each entries) in
    let same = same_store c.args.read.opening.header c.in-Ok.taken.opening.header c.args.read.opening.bytes c.in-Ok.taken.opening.bytes ps n
    c.last_sixteen_suffice.ensures (c.earlier_count-earlier.ensures link version ps each entries) (c.in-Ok.ensures.replayed link version ps each entries) in
    subst (λ (s : StoreState). IfOk c.open_and_replay.result (λ it. it.0 ≡ s)) same done
