use Rattle.std.proofs.Common.{◌≡◌, ◌≤◌, ◌*◌, ◌+◌, ◌-◌, ◌/◌, ℕ, List, length, take, drop, arith, ap, sym, ◌∙◌}
use Rattle.std.proofs.lemmas.List.{take_all, length-take-le, length-drop}
use Rattle.std.proofs.Math.Nat.{mul-div_cancel, mul-le-mul_right, div-mul-le_self}
use Rattle.snapshot_file.proofs.Pieces.{copied_more}
use Rattle.snapshot_file.proofs.streaming.copy_records.Goals as goal

pub overflow_add-first : goal.overflow_add-first
overflow_add-first g c = omega (arith, c.requires.few, c.loop-k-test.true, div-mul-le_self (length c.args.out.now) c.args.record_len)

pub loop-k-preserved : goal.loop-k-preserved
loop-k-preserved g c =
    let r : ℕ = c.args.record_len in
    let k : ℕ = c.loop-k.k in
    let count : ℕ = length c.args.out.now / r in
    let below : k + 1 ≤ count = omega (arith, c.loop-k-test.true) in
    let next : (k + 1) * r ≡ k * r + r = omega arith in
    let room : k * r + r ≤ length c.loop-k.out =
    omega (arith, next, mul-le-mul_right r below, div-mul-le_self (length c.args.out.now) r, c.loop-k.auto.out) in
    let mid : List ℕ = take (k * r + r - k * r) (drop (k * r) c.loop-k.out) in
    let cut : k * r + r - k * r ≡ r = omega arith in
    let len : length mid ≡ r =
    length-take-le (k * r + r - k * r) (drop (k * r) c.loop-k.out) (omega (arith, cut, room, length-drop (k * r) c.loop-k.out)) ∙ cut in
    copied_more k r c.args.first (k * r + r - k * r) c.loop-k.out c.copy_record.new.out (g.S.RecordSource.bytes c.args.source.now)
    (omega (arith, room)) (c.copy_record.auto.out ∙ len)
    (c.copy_record.ensures ∙ ap (λ n. take n (drop ((c.args.first + k) * n) (g.S.RecordSource.bytes c.args.source.now))) c.requires.record_len)
    c.loop-k.invariant

pub returns : goal.returns
returns g c =
    let r : ℕ = c.args.record_len in
    let long : length c.args.out.now ≡ c.requires.whole.0 * r = c.requires.whole.1 in
    let count : length c.args.out.now / r ≡ c.requires.whole.0 = ap (λ n. n / r) long ∙ mul-div_cancel c.requires.whole.0 c.requires.some in
    let last : c.loop-k.k ≡ c.requires.whole.0 = omega (arith, count, c.loop-k-test.false, c.loop-k.auto.k-end) in
    let all : c.loop-k.k * r ≡ length c.args.out.now = ap (λ n. n * r) last ∙ sym long in
    sym (take_all (c.loop-k.k * r) c.loop-k.out (omega (arith, all, c.loop-k.auto.out)))
    ∙ c.loop-k.invariant
    ∙ ap (λ n. take n (drop (c.args.first * r) (g.S.RecordSource.bytes c.args.source.now))) all
