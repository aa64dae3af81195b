use Rattle.std.proofs.Common.{◌≡◌, ◌∙◌, ◌+◌, ◌-◌, ◌*◌, ◌/◌, ◌≤◌, ◌++◌, [], ℕ, List, true, length, take, drop, sym, ap, arith, append_assoc}
use Rattle.std.specs.Prelude.{◌&&◌, if◌then◌else◌}
use Rattle.std.proofs.lemmas.List.{append-nil, take_all, length-append, length-take-le, length-drop}
use Rattle.std.proofs.Math.Nat.{mul-le-mul_right}
use Rattle.digit_pack.specs.Slots.{is_slotted, is_slot}
use Rattle.snapshot_file.specs.declared.snapshot.Header.{Header}
use Rattle.snapshot_file.specs.Snapshots.{with_count, has_slots}
use Rattle.snapshot_file.proofs.Pieces.{batch_count, taken_more}
use Rattle.snapshot_file.proofs.Received.{none_judged, slots_more}
use Rattle.snapshot_file.proofs.receiving.judge_records.Goals.{then-is_good, else-is_good}
use Rattle.snapshot_file.proofs.receiving.judge_records.Goals as goal

no_bytes : (r : ℕ) (piece : List ℕ) → [] ≡ take (0 * r) piece
no_bytes r piece = let none : 0 ≡ 0 * r = omega arith in ap (λ k. take k piece) none

pub loop-k-init : goal.loop-k-init
loop-k-init c =
    let h : Header = c.args.header.now in
    record {
      judged = λ before m long good.
          let none : m ≡ m + 0 = omega arith in
          good
          ∙ ap (λ k. has_slots (with_count k h) before) none
          ∙ ap (has_slots (with_count (m + 0) h)) (sym (append-nil before) ∙ ap (λ (x : List ℕ). before ++ x) (no_bytes h.record_len c.args.piece.now));
    }

pub loop-k-preserved : goal.loop-k-preserved
loop-k-preserved c =
    let h : Header = c.args.header.now in
    let r : ℕ = h.record_len in
    let k : ℕ = c.loop-k.k in
    let n : ℕ = c.requires.whole.0 in
    let piece : List ℕ = c.args.piece.now in
    let mid : List ℕ = take (k * r + r - k * r) (drop (k * r) piece) in
    let cut : k * r + r - k * r ≡ 1 * r = omega arith in
    let one : 1 * r ≡ r = omega arith in
    let pieces : length piece / c.from-record_len.result ≡ n =
    batch_count (length piece) c.from-record_len.result r n c.requires.whole.1 c.from-record_len.ensures c.requires.some in
    let below : k + 1 ≤ n = omega (arith, c.loop-k-test.true, pieces) in
    let next : (k + 1) * r ≡ k * r + r = omega arith in
    let room : k * r + r ≤ length piece = omega (arith, next, mul-le-mul_right r below, c.requires.whole.1) in
    let size : length mid ≡ r = length-take-le (k * r + r - k * r) (drop (k * r) piece) (omega (arith, cut, one, room, length-drop (k * r) piece)) ∙ cut ∙ one in
    let joined : take (k * r) piece ++ mid ≡ take ((k + 1) * r) piece =
    ap (λ m. take (k * r) piece ++ take m (drop (k * r) piece)) cut ∙ taken_more k 1 r piece in
    let slotted : is_slotted h.form ≡ true = ap is_slotted (sym c.from.ensures) ∙ sym c.is_slotted.ensures ∙ c.if-not-is_slotted.false in
    let slot : c.is_good.result ≡ (if is_slotted h.form then is_slot mid else true) =
    c.is_good.ensures
    ∙ ap (λ (x : ℕ). is_slot (take (k * x + x - k * x) (drop (k * x) piece))) c.from-record_len.ensures
    ∙ sym (ap (λ b. if b then is_slot mid else true) slotted) in
    let both : c.if-is_good.all ≡ c.is_good.result && c.loop-k.all = elim c.if-is_good.branch [
      | then-is_good w ↦ w.all-is ∙ ap (λ b. b && c.loop-k.all) (sym w.if-is_good.true)
      | else-is_good w ↦ w.all-is ∙ w.if-is_good.false ∙ ap (λ b. b && c.loop-k.all) (sym w.if-is_good.false)
    ] in
    record {
      judged = λ before m long good.
          let so_far : List ℕ = before ++ take (k * r) piece in
          let each : m * r + k * r ≡ (m + k) * r = omega arith in
          let longer : length so_far ≡ (m + k) * r =
          omega (arith, length-append before (take (k * r) piece), length-take-le (k * r) piece (omega (arith, room)), long, each) in
          let more : m + k + 1 ≡ m + (k + 1) = omega arith in
          both
          ∙ ap (λ b. b && c.loop-k.all) slot
          ∙ ap (λ b. (if is_slotted h.form then is_slot mid else true) && b) (c.loop-k.invariant.judged before m long good)
          ∙ slots_more h (m + k) so_far mid longer size
          ∙ ap (has_slots (with_count (m + k + 1) h)) (append_assoc before (take (k * r) piece) mid ∙ ap (λ (x : List ℕ). before ++ x) joined)
          ∙ ap (λ j. has_slots (with_count j h) (before ++ take ((k + 1) * r) piece)) more;
    }

pub returns-then-not-is_slotted : goal.returns-then-not-is_slotted
returns-then-not-is_slotted c =
    λ before m n long whole good.
    good
    ∙ none_judged c.args.header.now m (m + n) before (before ++ c.args.piece.now)
    (ap is_slotted (sym c.from.ensures) ∙ sym c.is_slotted.ensures ∙ c.if-not-is_slotted.true)

pub returns : goal.returns
returns c =
    let h : Header = c.args.header.now in
    let r : ℕ = h.record_len in
    let piece : List ℕ = c.args.piece.now in
    λ before m n long whole good.
    let pieces : length piece / c.from-record_len.result ≡ n =
    batch_count (length piece) c.from-record_len.result r n whole c.from-record_len.ensures c.requires.some in
    let last : c.loop-k.k ≡ n = omega (arith, pieces, c.loop-k-test.false, c.loop-k.auto.k-end) in
    let all : c.loop-k.k * r ≡ length piece = ap (λ j. j * r) last ∙ sym whole in
    c.loop-k.invariant.judged before m long good
    ∙ ap (λ j. has_slots (with_count (m + j) h) (before ++ take (c.loop-k.k * r) piece)) last
    ∙ ap (λ (x : List ℕ). has_slots (with_count (m + n) h) (before ++ x)) (take_all (c.loop-k.k * r) piece (omega (arith, all)))
