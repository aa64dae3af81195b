use Rattle.std.proofs.Common.{◌≡◌, ◌∙◌, ◌+◌, ◌*◌, ◌/◌, ◌≤◌, ◌++◌, ℕ, List, [], length, take, drop, refl, sym, ap, subst, arith, append_assoc, rules}
use Rattle.std.specs.Io.KnownBytes.{Consumes}
use Rattle.std.proofs.KnownBytes.{Consumes-trans, Consumes-nil}
use Rattle.std.proofs.lemmas.List.{append-nil, length-append, length-take-le, length-drop}
use Rattle.std.proofs.Math.Nat.{mul-le-mul_right, div-mul-le_self}
use Rattle.sha2.specs.Hashers.{Holds256}
use Rattle.snapshot_file.specs.declared.snapshot.Header.{Header}
use Rattle.digit_pack.specs.Layout.{Shape}
use Rattle.snapshot_file.specs.Snapshots.{with_count, has_slots}
use Rattle.snapshot_file.specs.Verdicts.{EndsBelow}
use Rattle.snapshot_file.proofs.Readings.{below_more}
use Rattle.snapshot_file.proofs.Received.{none_bad}
use Rattle.snapshot_file.proofs.receiving.receive_records.Given.{Over}
use Rattle.snapshot_file.proofs.receiving.receive_records.Goals as goal

-- the piece has whole records
room_for : (most n r len : ℕ) → n ≤ most → most ≡ len / r → n * r ≤ len
room_for most n r len taken e = omega (arith, mul-le-mul_right r taken, ap (λ x. x * r) e, div-mul-le_self len r)

-- no record is taken at the beginning
module _ (h : Header) (taken : List ℕ) (none : taken ≡ []) where
  pub no_bytes : length taken ≡ 0 * h.record_len
  no_bytes = ap (λ (x : List ℕ). length x) none ∙ zero_times h.record_len
    where
      zero_times : (r : ℕ) → 0 ≡ 0 * r
      zero_times r = omega arith

pub loop-i-init : goal.loop-i-init
loop-i-init g c =
    let none = c.requires.none in
    record {
      within = omega arith;
      room = refl;
      shape = refl;
      long = no_bytes c.args.header.now (g.S.RecordSink.taken c.args.sink.now) none;
      good = none_bad c.args.header.now _ refl ∙ ap (has_slots (with_count 0 c.args.header.now)) (sym none);
      read = subst (Consumes _ _) (sym none) (Consumes-nil _);
      hashed = λ m h. subst (Holds256 c.args.hasher.now) (sym (append-nil m) ∙ ap (λ (x : List ℕ). m ++ x) (sym none)) h;
    }

-- a piece of whole records: as many bytes as they have
piece_len : (g : Over) (c : goal.After-slice_known-in-loop-i-2-1 g) → length c.fill.new.out ≡ c.min-n.result * c.args.header.now.record_len
piece_len g c =
    let r : ℕ = c.from-record_len.result in
    let room : c.min-n.result * r ≤ length c.loop-i.buffer =
    room_for (length c.args.buffer.now / r) c.min-n.result r (length c.loop-i.buffer) (omega (arith, c.min-n.ensures))
    (ap (λ n. n / r) (sym c.loop-i.invariant.room)) in
    c.fill.auto.out ∙ length-take-le (c.min-n.result * r) c.loop-i.buffer room ∙ ap (λ x. c.min-n.result * x) c.from-record_len.ensures

pub take_records-requires-clause-room : goal.take_records-requires-clause-room
take_records-requires-clause-room g c =
    let i : ℕ = c.loop-i.i in
    let n : ℕ = c.min-n.result in
    let r : ℕ = c.args.header.now.record_len in
    let room : n * c.from-record_len.result ≤ length c.loop-i.buffer =
    room_for (length c.args.buffer.now / c.from-record_len.result) n c.from-record_len.result (length c.loop-i.buffer) (omega (arith, c.min-n.ensures))
    (ap (λ n. n / c.from-record_len.result) (sym c.loop-i.invariant.room)) in
    let long : length c.fill.new.out ≡ n * r =
    c.fill.auto.out ∙ length-take-le (n * c.from-record_len.result) c.loop-i.buffer room ∙ ap (λ x. n * x) c.from-record_len.ensures in
    let below : i + n ≤ c.args.header.now.count = omega (arith, c.min-n.ensures, c.loop-i-test.true) in
    let all : i * r + n * r ≡ (i + n) * r = omega arith in
    subst (λ (s : Shape). length (g.S.RecordSink.taken c.loop-i.sink) + length c.fill.new.out ≤ s.count * s.record_len)
    (sym (c.loop-i.invariant.shape ∙ c.requires.shape)) (omega (arith, c.loop-i.invariant.long, long, all, mul-le-mul_right r below))

pub loop-i-preserved : goal.loop-i-preserved
loop-i-preserved g c =
    let i : ℕ = c.loop-i.i in
    let n : ℕ = c.min-n.result in
    let r : ℕ = c.args.header.now.record_len in
    let before : List ℕ = g.S.RecordSink.taken c.loop-i.sink in
    let piece : List ℕ = c.fill.new.out in
    let size : length piece ≡ n * r = piece_len g c in
    let whole : n * c.from-record_len.result ≡ n * r = ap (λ x. n * x) c.from-record_len.ensures in
    let room : n * c.from-record_len.result ≤ length c.loop-i.buffer =
    room_for (length c.args.buffer.now / c.from-record_len.result) n c.from-record_len.result (length c.loop-i.buffer) (omega (arith, c.min-n.ensures))
    (ap (λ n. n / c.from-record_len.result) (sym c.loop-i.invariant.room)) in
    let all : i * r + n * r ≡ (i + n) * r = omega arith in
    let taken : g.S.RecordSink.taken c.take_records.new.self ≡ before ++ piece = c.take_records.ensures.taken in
    record {
      within = omega (arith, c.min-n.ensures, c.loop-i-test.true);
      room = length-append piece (drop (n * c.from-record_len.result) c.loop-i.buffer)
          ∙ omega (arith, size, whole, room, length-drop (n * c.from-record_len.result) c.loop-i.buffer, c.loop-i.invariant.room);
      shape = c.take_records.ensures.shape ∙ c.loop-i.invariant.shape;
      long = ap (λ (x : List ℕ). length x) taken ∙ omega (arith, length-append before piece, c.loop-i.invariant.long, size, all);
      good = c.judge_records-good.ensures before i n c.loop-i.invariant.long size c.loop-i.invariant.good
          ∙ ap (has_slots (with_count (i + n) c.args.header.now)) (sym taken);
      read = subst (Consumes _ _) (sym taken) (Consumes-trans _ _ _ _ _ c.loop-i.invariant.read c.in_ok-fill.ensures.ok);
      hashed = λ m h. subst (Holds256 c.update.new.self)
          (append_assoc m before piece ∙ ap (λ (x : List ℕ). m ++ x) (sym taken))
          (c.update.ensures (m ++ before) (c.loop-i.invariant.hashed m h));
    }

pub returns-in_err-fill-clause-err : goal.returns-in_err-fill-clause-err
returns-in_err-fill-clause-err g c =
    let e = c.in_err-fill.ensures.err in
    let i : ℕ = c.loop-i.i in
    let n : ℕ = c.min-n.result in
    let r : ℕ = c.args.header.now.record_len in
    let before : List ℕ = g.S.RecordSink.taken c.loop-i.sink in
    let whole : n * c.from-record_len.result ≡ n * r = ap (λ x. n * x) c.from-record_len.ensures in
    let room : n * c.from-record_len.result ≤ length c.loop-i.buffer =
    room_for (length c.args.buffer.now / c.from-record_len.result) n c.from-record_len.result (length c.loop-i.buffer) (omega (arith, c.min-n.ensures))
    (ap (λ n. n / c.from-record_len.result) (sym c.loop-i.invariant.room)) in
    let long : length (take (n * c.from-record_len.result) c.loop-i.buffer) ≡ n * r = length-take-le (n * c.from-record_len.result) c.loop-i.buffer room ∙ whole in
    let below : i + n ≤ c.args.header.now.count = omega (arith, c.min-n.ensures, c.loop-i-test.true) in
    let all : i * r + n * r ≡ (i + n) * r = omega arith in
    let le : length before + length (take (n * c.from-record_len.result) c.loop-i.buffer) ≤ c.args.header.now.count * r =
    omega (arith, c.loop-i.invariant.long, long, all, mul-le-mul_right r below) in
    let h : (part : List ℕ) × Consumes (g.R.Read.remaining c.args.reader.now) (g.R.Read.remaining c.fill.new.reader) part
    × EndsBelow (c.args.header.now.count * r) c.in_err-fill.field-0.0 part (g.R.Read.remaining c.fill.new.reader) = (
      before ++ e.0,
      Consumes-trans _ _ _ _ _ c.loop-i.invariant.read e.1,
      below_more _ before e.0 (length (take (n * c.from-record_len.result) c.loop-i.buffer)) _ _ le e.2,
    ) in
    search (rules, h)
