use Rattle.std.proofs.Common.{◌≡◌, ℕ, ◌<◌, List, length, slice_index, arith, Ok, Err}
use Rattle.std.proofs.lemmas.List.Sorted.{searched}
use Rattle.record_log.proofs.Olds.{greater, not_less}
use Rattle.record_log.proofs.old_records.place_of.Goals as goal

pub returns-in-Ok-clause-less : goal.returns-in-Ok-clause-less
returns-in-Ok-clause-less c =
    let xs : List ℕ = c.args.numbers.now in
    let k : ℕ = c.in-Ok.k in
    let found : (k < length xs) × (slice_index xs k ≡ c.args.least) =
    searched xs c.args.least (Ok k) c.in-Ok.ensures.position (not_less xs c.requires) in
    λ j h. omega (arith, greater xs c.requires j k h found.0, found.1)

pub returns-in-Ok-clause-others : goal.returns-in-Ok-clause-others
returns-in-Ok-clause-others c =
    let xs : List ℕ = c.args.numbers.now in
    let k : ℕ = c.in-Ok.k in
    let found : (k < length xs) × (slice_index xs k ≡ c.args.least) =
    searched xs c.args.least (Ok k) c.in-Ok.ensures.position (not_less xs c.requires) in
    λ j h l. omega (arith, not_less xs c.requires k j h l, found.1)

pub returns-in-Err-clause-less : goal.returns-in-Err-clause-less
returns-in-Err-clause-less c =
    let xs : List ℕ = c.args.numbers.now in
    (searched xs c.args.least (Err c.in-Err.k) c.in-Err.ensures.position (not_less xs c.requires)).1

pub returns-in-Err-clause-others : goal.returns-in-Err-clause-others
returns-in-Err-clause-others c =
    let xs : List ℕ = c.args.numbers.now in
    let place = searched xs c.args.least (Err c.in-Err.k) c.in-Err.ensures.position (not_less xs c.requires) in
    λ j h l. omega (arith, place.2 j h l)
