use Rattle.std.proofs.Common.{rules, ◌≡◌, ◌≤◌, ◌<◌, ◌*◌, ◌+◌, ◌++◌, ◌-◌, ◌/◌, ℕ, List, [], length, take, drop, arith, ap, sym, subst, ◌∙◌, append_assoc}
use Rattle.std.specs.Io.KnownBytes.{Appends}
use Rattle.std.proofs.KnownBytes.{Appends-trans}
use Rattle.std.proofs.lemmas.List.{length-take-le, length-append, length-drop}
use Rattle.std.proofs.Math.Nat.{mul-le-mul_right, div-mul-le_self}
use Rattle.sha2.specs.Hashers.{Holds256}
use Rattle.snapshot_file.proofs.Pieces.{add_times, taken_more, split_piece}
use Rattle.snapshot_file.proofs.Writings.{part_taken, part_shorter}
use Rattle.snapshot_file.proofs.streaming.write_records.Goals as goal

-- the piece has whole records
room_for : (most n r len : ℕ) → n ≤ most → most ≡ len / r → n * r ≤ len
room_for most n r len taken e = omega (arith, mul-le-mul_right r taken, ap (λ x. x * r) e, div-mul-le_self len r)

module _ (i n r count : ℕ) (buffer bytes piece : List ℕ) (left : n ≤ count - i) (below : i < count) (len : length bytes ≡ count * r)
    (room : n * r ≤ length buffer) where
  pub long : length (take (n * r) buffer) ≡ n * r
  long = length-take-le (n * r) buffer room

  pub inside : i * r + length (take (n * r) buffer) ≤ length bytes
  inside =
      let all : i + n ≤ count = omega (arith, left, below) in
      omega (arith, long, len, add_times i n r, mul-le-mul_right r all)

  pub whole : piece ≡ take (length (take (n * r) buffer)) (drop (i * r) bytes) → piece ≡ take (n * r) (drop (i * r) bytes)
  whole e = e ∙ ap (λ m. take m (drop (i * r) bytes)) long

pub copy_records-requires-clause-whole : goal.copy_records-requires-clause-whole
copy_records-requires-clause-whole g c = (
  c.min-n.result,
  length-take-le (c.min-n.result * c.args.record_len) c.loop-i.buffer
      (room_for (length c.args.buffer.now / c.args.record_len) c.min-n.result c.args.record_len (length c.loop-i.buffer)
      (omega (arith, c.min-n.ensures)) (ap (λ n. n / c.args.record_len) (sym c.loop-i.invariant.room))),
)

pub copy_records-requires-clause-inside : goal.copy_records-requires-clause-inside
copy_records-requires-clause-inside g c =
    inside c.loop-i.i c.min-n.result c.args.record_len c.args.count c.loop-i.buffer (g.S.RecordSource.bytes c.args.source.now) []
    (omega (arith, c.min-n.ensures)) c.loop-i-test.true c.requires.len
    (room_for (length c.args.buffer.now / c.args.record_len) c.min-n.result c.args.record_len (length c.loop-i.buffer)
    (omega (arith, c.min-n.ensures)) (ap (λ n. n / c.args.record_len) (sym c.loop-i.invariant.room)))

pub returns-in_err-write_out-clause-part : goal.returns-in_err-write_out-clause-part
returns-in_err-write_out-clause-part g c =
    let i : ℕ = c.loop-i.i in
    let n : ℕ = c.min-n.result in
    let r : ℕ = c.args.record_len in
    let bytes : List ℕ = g.S.RecordSource.bytes c.args.source.now in
    let room : n * r ≤ length c.loop-i.buffer =
    room_for (length c.args.buffer.now / r) n r (length c.loop-i.buffer) (omega (arith, c.min-n.ensures)) (ap (λ n. n / r) (sym c.loop-i.invariant.room)) in
    let piece : c.copy_records.new.out ≡ take (n * r) (drop (i * r) bytes) =
    whole i n r c.args.count c.loop-i.buffer bytes c.copy_records.new.out (omega (arith, c.min-n.ensures)) c.loop-i-test.true c.requires.len room c.copy_records.ensures in
    let e = c.in_err-write_out.ensures.prefix in
    let before : List ℕ = take (i * r) bytes in
    let beyond : List ℕ = drop (i * r + n * r) bytes in
    let encoded : bytes ≡ before ++ (c.copy_records.new.out ++ beyond) = split_piece i n r bytes c.copy_records.new.out piece in
    let h : (x : ℕ) × (x < length bytes) × Appends (g.W.Write.contents c.args.writer.now) (g.W.Write.contents c.write_out.new.writer) (take x bytes) = (
      length before + e.0,
      part_shorter before c.copy_records.new.out beyond bytes e.0 encoded e.1,
      subst (Appends _ _) (part_taken before c.copy_records.new.out beyond bytes e.0 encoded e.1) (Appends-trans _ _ _ _ _ c.loop-i.invariant.out e.2),
    ) in
    search (rules, h)

pub loop-i-preserved : goal.loop-i-preserved
loop-i-preserved g c =
    let i : ℕ = c.loop-i.i in
    let n : ℕ = c.min-n.result in
    let r : ℕ = c.args.record_len in
    let bytes : List ℕ = g.S.RecordSource.bytes c.args.source.now in
    let room : n * r ≤ length c.loop-i.buffer =
    room_for (length c.args.buffer.now / r) n r (length c.loop-i.buffer) (omega (arith, c.min-n.ensures)) (ap (λ n. n / r) (sym c.loop-i.invariant.room)) in
    let piece : c.copy_records.new.out ≡ take (n * r) (drop (i * r) bytes) =
    whole i n r c.args.count c.loop-i.buffer bytes c.copy_records.new.out (omega (arith, c.min-n.ensures)) c.loop-i-test.true c.requires.len room c.copy_records.ensures in
    let joined : take (i * r) bytes ++ c.copy_records.new.out ≡ take ((i + n) * r) bytes =
    ap (λ (x : List ℕ). take (i * r) bytes ++ x) piece ∙ taken_more i n r bytes in
    let size : length c.copy_records.new.out ≡ n * r = c.copy_records.auto.out ∙ length-take-le (n * r) c.loop-i.buffer room in
    record {
      within = omega (arith, c.min-n.ensures, c.loop-i-test.true);
      room = length-append c.copy_records.new.out (drop (n * r) c.loop-i.buffer)
          ∙ omega (arith, size, room, length-drop (n * r) c.loop-i.buffer, c.loop-i.invariant.room);
      out = subst (Appends _ _) joined (Appends-trans _ _ _ _ _ c.loop-i.invariant.out c.in_ok-write_out.ensures.all);
      hashed = λ m h. subst (Holds256 c.update.new.self)
          (append_assoc m (take (i * r) bytes) c.copy_records.new.out ∙ ap (λ (x : List ℕ). m ++ x) joined)
          (c.update.ensures (m ++ take (i * r) bytes) (c.loop-i.invariant.hashed m h));
    }
