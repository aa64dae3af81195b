use Rattle.std.proofs.Common.{◌≡◌, ◌∙◌, ◌+◌, ◌≤◌, ◌<◌, ◌++◌, ℕ, List, [], ◌∷◌, length, take, drop, Option, ap, subst, arith, append_assoc}
use Rattle.std.specs.Io.KnownBytes.{IsAtEnd}
use Rattle.std.proofs.KnownBytes.{Consumes-trans, Appends-trans}
use Rattle.std.proofs.lemmas.List.{length-append, length-take-le, length-drop}
use Rattle.sha2.specs.Hashers.{Holds256}
use Rattle.snapshot_file.specs.declared.snapshot.SnapshotFault.{SnapshotFault}
use Rattle.snapshot_file.specs.declared.snapshot.SnapshotFault.TheVariants as faults
use Rattle.snapshot_file.specs.Verdicts.{EndsBelow, EndsAfter}
use Rattle.snapshot_file.proofs.copying.copy_records.Goals as goal

-- whatever stops a piece comes before it is whole
below_wanted : (wanted : ℕ) (fault : SnapshotFault) (part : List ℕ) (left : Option (List ℕ)) → EndsBelow wanted fault part left → length part < wanted
below_wanted wanted faults.Short part left e = e.0
below_wanted wanted faults.Read part left e = e
below_wanted wanted faults.NotSnapshot part left e = absurd e
below_wanted wanted faults.BadLayout part left e = absurd e
below_wanted wanted faults.BadDigest part left e = absurd e
below_wanted wanted faults.TrailingBytes part left e = absurd e
below_wanted wanted faults.Memory part left e = absurd e
below_wanted wanted faults.BadSlot part left e = absurd e

-- a piece that the input's end cuts short
ends_below : (wanted : ℕ) (fault : SnapshotFault) (part : List ℕ) (left : Option (List ℕ)) → fault ≡ faults.Short → EndsBelow wanted fault part left →
    (length part < wanted) × IsAtEnd left
ends_below wanted fault part left is e = subst (λ f. EndsBelow wanted f part left) is e

-- one byte after the end
byte_after : (fault : SnapshotFault) (part : List ℕ) → fault ≡ faults.TrailingBytes → EndsAfter fault part → length part ≡ 1
byte_after fault part is e =
    let one : (b : ℕ) × (part ≡ b ∷ []) = subst (λ f. EndsAfter f part) is e in
    ap (λ (x : List ℕ). length x) one.1

-- the bytes before a piece and a part of it
module _ (at n len : ℕ) (buffer before part : List ℕ) (long : length before ≡ at) (within : at + n ≤ len) (room : n ≤ length buffer) where
  pub still_below : length part < length (take n buffer) → length (before ++ part) < len
  still_below lt = omega (arith, lt, long, within, length-append before part, length-take-le n buffer room)

  pub one_piece_more : length part ≡ length (take n buffer) → length (before ++ part) ≡ at + n
  one_piece_more e = omega (arith, e, long, length-append before part, length-take-le n buffer room)

  pub room_stays : length part ≡ length (take n buffer) → length (part ++ drop n buffer) ≡ length buffer
  room_stays e = omega (arith, e, room, length-append part (drop n buffer), length-drop n buffer, length-take-le n buffer room)

pub returns-in-Err-Short-clause-refused : goal.returns-in-Err-Short-clause-refused
returns-in-Err-Short-clause-refused g c =
    let done = c.loop-at.invariant.done in
    let e = c.in-Err-Short.ensures.err in
    let short = ends_below _ _ _ _ c.in-Err-Short.field-0-is e.2 in (
      done.0 ++ e.0,
      Consumes-trans _ _ _ _ _ done.2 e.1,
      (
        still_below c.loop-at.at c.min-n.result c.args.len c.loop-at.buffer done.0 e.0 done.1
            (omega (arith, c.min-n.ensures, c.loop-at-test.true)) (omega (arith, c.min-n.ensures)) short.0,
        short.1,
      ),
    )

pub returns-in-Err : goal.returns-in-Err
returns-in-Err g c =
    let done = c.loop-at.invariant.done in
    let e = c.in-Err.ensures.err in
    let lt : length (done.0 ++ e.0) < c.args.len =
    still_below c.loop-at.at c.min-n.result c.args.len c.loop-at.buffer done.0 e.0 done.1
    (omega (arith, c.min-n.ensures, c.loop-at-test.true)) (omega (arith, c.min-n.ensures)) (below_wanted _ _ _ _ e.2) in
    record { whole = _; refused = (done.0 ++ e.0, Consumes-trans _ _ _ _ _ done.2 e.1, omega (arith, lt)) }

pub returns-in-Err-write_out-clause-refused : goal.returns-in-Err-write_out-clause-refused
returns-in-Err-write_out-clause-refused g c =
    let done = c.loop-at.invariant.done in (
      done.0 ++ c.fill.new.out,
      Consumes-trans _ _ _ _ _ done.2 c.in-Ok.ensures.ok,
      (
        one_piece_more c.loop-at.at c.min-n.result c.args.len c.loop-at.buffer done.0 c.fill.new.out done.1
            (omega (arith, c.min-n.ensures, c.loop-at-test.true)) (omega (arith, c.min-n.ensures)) c.fill.auto.out,
        omega (arith, c.min-n.ensures, c.loop-at-test.true),
      ),
    )

pub loop-at-preserved : goal.loop-at-preserved
loop-at-preserved g c =
    let done = c.loop-at.invariant.done in
    let within : c.loop-at.at + c.min-n.result ≤ c.args.len = omega (arith, c.min-n.ensures, c.loop-at-test.true) in
    let room : c.min-n.result ≤ length c.loop-at.buffer = omega (arith, c.min-n.ensures) in
    record {
      within = within;
      room = room_stays c.loop-at.at c.min-n.result c.args.len c.loop-at.buffer done.0 c.fill.new.out done.1 within room c.fill.auto.out
          ∙ c.loop-at.invariant.room;
      done = (
        done.0 ++ c.fill.new.out,
        one_piece_more c.loop-at.at c.min-n.result c.args.len c.loop-at.buffer done.0 c.fill.new.out done.1 within room c.fill.auto.out,
        Consumes-trans _ _ _ _ _ done.2 c.in-Ok.ensures.ok,
        Appends-trans _ _ _ _ _ done.3 c.in-Ok-write_out.ensures.all,
        λ m h. subst (Holds256 c.update.new.self) (append_assoc m done.0 c.fill.new.out)
            (c.update.ensures (m ++ done.0) (done.4 m h)),
      );
    }

pub returns-in-Err-TrailingBytes-clause-refused : goal.returns-in-Err-TrailingBytes-clause-refused
returns-in-Err-TrailingBytes-clause-refused g c =
    let done = c.loop-at.invariant.done in
    let e = c.in-Err-TrailingBytes.ensures.err in (
      done.0 ++ e.0,
      Consumes-trans _ _ _ _ _ done.2 e.1,
      omega (arith, length-append done.0 e.0, byte_after _ _ c.in-Err-TrailingBytes.field-0-is e.2, done.1, c.loop-at-test.false, c.loop-at.invariant.within),
    )
