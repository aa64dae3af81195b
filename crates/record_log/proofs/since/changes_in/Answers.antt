use Rattle.std.proofs.Common.{◌≡◌, ℕ, ◌+◌, ◌*◌, ◌<◌, ◌≤◌, ◌++◌, List, length, arith, ap, ◌∙◌, subst, refl, true, Bool}
use Rattle.std.proofs.Math.Nat.{mul-le-mul_right}
use Rattle.std.proofs.lemmas.Bool.{both_ways}
use Rattle.record_log.specs.OldRecords.{OldRecord, entries_bytes}
use Rattle.record_log.specs.Steps.{AddsWithin, next_entry, olds_of}
use Rattle.record_log.proofs.Listing.{listed_inside}
use Rattle.record_log.proofs.Walk.{all_changes, all_done, too_long, with_next}
use Rattle.record_log.proofs.since.changes_in.Given.{Over}
use Rattle.record_log.proofs.since.changes_in.Goals as goal

pub push_listed-requires-clause-inside : goal.push_listed-requires-clause-inside
push_listed-requires-clause-inside g c =
    let len : ℕ = g.S.RecordSource.record_len c.args.current.now in
    let n : ℕ = c.in-Some.number in
    let inside : n < c.args.count = listed_inside (olds_of c.args.lists.now) c.args.count n c.requires.inside c.in-Some.ensures.1 in
    let room : (n + 1) * len ≤ c.args.count * len = mul-le-mul_right len (omega (arith, inside)) in
    omega (arith, room, c.requires.whole)

pub returns-then-not-branch-clause-too_many : goal.returns-then-not-branch-clause-too_many
returns-then-not-branch-clause-too_many g c =
    let len : ℕ = g.S.RecordSource.record_len c.args.current.now in
    let bytes : List ℕ = g.S.RecordSource.bytes c.args.current.now in
    let lists : List (List OldRecord) = olds_of c.args.lists.now in
    let written : List ℕ = c.loop-number.entries.items in
    let n : ℕ = c.in-Some.number in
    let inside : n < c.args.count = listed_inside lists c.args.count n c.requires.inside c.in-Some.ensures.1 in
    let over : c.args.most < length (written ++ next_entry lists len bytes n) =
    subst (λ (b : Bool). AddsWithin c.args.most written c.push_listed.new.out.items (next_entry lists len bytes n) b) c.if-not-branch.true
    c.in_ok-push_listed.ensures in
    let more : c.args.most < length (entries_bytes (all_changes lists len c.args.count bytes)) =
    too_long lists len c.args.count bytes (written ++ next_entry lists len bytes n) c.args.most (n + 1) (omega (arith, inside))
    (with_next lists len c.args.count bytes written c.loop-number.least n c.loop-number.invariant.written c.in-Some.ensures.0 inside c.in-Some.ensures.2)
    over in
    (λ _. more, λ _. refl)

pub overflow_add-least : goal.overflow_add-least
overflow_add-least g c =
    omega (arith, listed_inside (olds_of c.args.lists.now) c.args.count c.in-Some.number c.requires.inside c.in-Some.ensures.1, c.requires.few)

pub loop-number-smaller : goal.loop-number-smaller
loop-number-smaller g c =
    omega (arith, listed_inside (olds_of c.args.lists.now) c.args.count c.in-Some.number c.requires.inside c.in-Some.ensures.1, c.in-Some.ensures.0)

pub loop-number-preserved : goal.loop-number-preserved
loop-number-preserved g c =
    let len : ℕ = g.S.RecordSource.record_len c.args.current.now in
    let bytes : List ℕ = g.S.RecordSource.bytes c.args.current.now in
    let lists : List (List OldRecord) = olds_of c.args.lists.now in
    let written : List ℕ = c.loop-number.entries.items in
    let n : ℕ = c.in-Some.number in
    let inside : n < c.args.count = listed_inside lists c.args.count n c.requires.inside c.in-Some.ensures.1 in
    let fits : AddsWithin c.args.most written c.push_listed.new.out.items (next_entry lists len bytes n) true =
    subst (λ (b : Bool). AddsWithin c.args.most written c.push_listed.new.out.items (next_entry lists len bytes n) b) c.if-not-branch.false
    c.in_ok-push_listed.ensures in
    record {
      written = fits.0
          ∙ with_next lists len c.args.count bytes written c.loop-number.least n c.loop-number.invariant.written c.in-Some.ensures.0 inside c.in-Some.ensures.2;
      few = fits.1;
      low = omega (arith, inside);
    }

-- the entries are those of all changes
all_written : (g : Over) (c : goal.In_default g) →
    c.loop-number.entries.items
    ≡ entries_bytes (all_changes (olds_of c.args.lists.now) (g.S.RecordSource.record_len c.args.current.now) c.args.count (g.S.RecordSource.bytes c.args.current.now))
all_written g c =
    c.loop-number.invariant.written
    ∙ all_done (olds_of c.args.lists.now) (g.S.RecordSource.record_len c.args.current.now) c.args.count (g.S.RecordSource.bytes c.args.current.now)
    c.loop-number.least c.loop-number.invariant.low c.in_default.ensures

pub returns-clause-entries : goal.returns-clause-entries
returns-clause-entries g c = all_written g c

pub returns-clause-too_many : goal.returns-clause-too_many
returns-clause-too_many g c =
    (λ e. absurd (both_ways true e refl), λ over. absurd (omega (arith, over, ap length (all_written g c), c.loop-number.invariant.few)))
