use Rattle.std.proofs.Common.{arith, ap, ap₂, sym, ◌∙◌, ◌≡◌, ℕ, ◌+◌, ◌-◌, ◌*◌, ◌≤◌, List, [], ◌++◌, length, take, drop, mul-le-mul_right}
use Rattle.std.specs.Prelude.{flat_map}
use Rattle.std.specs.List.{range_with_len}
use Rattle.std.proofs.lemmas.List.{take_all}
use Rattle.std.proofs.lemmas.Slice.{take-put_mid}
use Rattle.matrix_u32.specs.Matrix.{WordMatrix}
use Rattle.digit_pack.specs.Layout.{digit_rows, digits_per_record}
use Rattle.double_scheme.specs.Double.{part_answer_of, part_of_query}
use Rattle.double_scheme.proofs.Answering.{one_part, two_parts}
use Rattle.double_scheme.proofs.answers.put_part_answers.Goals as goal

-- so many words for each part
all_parts : (k a b x y total : ℕ) → x ≡ a → y ≡ b → total ≡ k * (a + b) → k * (x + y) ≡ total
all_parts k a b x y total e f whole = rw (e, f) (sym whole)

-- those of n parts from one on are among them
some_of_them : (d n k a b x y total : ℕ) → d + n ≤ k → x ≡ a → y ≡ b → total ≡ k * (a + b) → d * (x + y) + n * (x + y) ≤ total
some_of_them d n k a b x y total below e f whole =
    let last : (d + n) * (x + y) ≤ k * (x + y) = mul-le-mul_right (x + y) below in
    omega (arith, last, all_parts k a b x y total e f whole)

pub slice_bounds-two-end : goal.slice_bounds-two-end
slice_bounds-two-end g c =
    omega (
      arith,
      some_of_them c.loop-d.d 2 (digits_per_record c.args.layout.now) _ _ c.rows.result c.rows-2.result _
          (omega (arith, c.if-d-parts.true, c.digits_per_record-parts.ensures.value)) c.rows.ensures.value c.rows-2.ensures.value c.requires.room,
      c.loop-d.auto.out,
    )

pub chunk_of-y-requires : goal.chunk_of-y-requires
chunk_of-y-requires g c =
    let l = c.args.layout.now in
    let r : ℕ = c.rows-rows.result in
    let last : (c.loop-d.d + 2) * r ≤ digits_per_record l * r =
    mul-le-mul_right r (omega (arith, c.if-d-parts.true, c.digits_per_record-parts.ensures.value)) in
    let same : digits_per_record l * r ≡ digits_per_record l * digit_rows l = ap (λ n. digits_per_record l * n) c.rows-rows.ensures.value in
    omega (arith, last, same, c.requires.words, c.cols-cols.ensures.value)

pub loop-d-preserved-then-d-parts : goal.loop-d-preserved-then-d-parts
loop-d-preserved-then-d-parts g c =
    let l = c.args.layout.now in
    let words : List ℕ = c.args.words.now in
    let h : WordMatrix = g.S.DigitStore.digits c.args.server_hint.now in
    let first : WordMatrix = c.args.first.now in
    let count : ℕ = c.rows.result + c.rows-2.result in
    let d : ℕ = c.loop-d.d in
    let f : ℕ → List ℕ = λ d. part_answer_of h first (part_of_query l words d) in
    let x : c.chunk_of-x.result.now ≡ part_of_query l words d =
    c.chunk_of-x.ensures.value
    ∙ ap (λ r. take r (drop (c.cols-cols.result + d * r) words)) c.rows-rows.ensures.value
    ∙ ap (λ n. take (digit_rows l) (drop (n + d * digit_rows l) words)) c.cols-cols.ensures.value in
    let y : c.chunk_of-y.result.now ≡ part_of_query l words (d + 1) =
    c.chunk_of-y.ensures.value
    ∙ ap (λ r. take r (drop (c.cols-cols.result + (d + 1) * r) words)) c.rows-rows.ensures.value
    ∙ ap (λ n. take (digit_rows l) (drop (n + (d + 1) * digit_rows l) words)) c.cols-cols.ensures.value in
    let inside : d * count + 2 * count ≤ length c.args.out.now =
    some_of_them d 2 (digits_per_record l) h.rows first.rows c.rows.result c.rows-2.result (length c.args.out.now)
    (omega (arith, c.if-d-parts.true, c.digits_per_record-parts.ensures.value)) c.rows.ensures.value c.rows-2.ensures.value c.requires.room in
    record {
      within = omega (arith, c.if-d-parts.true);
      so_far = take-put_mid (d * count) (d * count + 2 * count - d * count) c.loop-d.out c.put_two_part_answers.new.out ((d + 2) * count) (omega arith)
          (omega (arith, inside, c.loop-d.auto.out))
          ∙ ap (λ ws. ws ++ c.put_two_part_answers.new.out) c.loop-d.invariant.so_far
          ∙ ap (λ ws. flat_map f (range_with_len 0 d) ++ ws)
          (c.put_two_part_answers.ensures ∙ ap₂ (λ (x y : List ℕ). part_answer_of h first x ++ part_answer_of h first y) x y)
          ∙ two_parts f d;
    }

pub loop-d-preserved : goal.loop-d-preserved
loop-d-preserved g c =
    let l = c.args.layout.now in
    let words : List ℕ = c.args.words.now in
    let h : WordMatrix = g.S.DigitStore.digits c.args.server_hint.now in
    let first : WordMatrix = c.args.first.now in
    let count : ℕ = c.rows.result + c.rows-2.result in
    let d : ℕ = c.loop-d.d in
    let f : ℕ → List ℕ = λ d. part_answer_of h first (part_of_query l words d) in
    let x : c.chunk_of-x.result.now ≡ part_of_query l words d =
    c.chunk_of-x.ensures.value
    ∙ ap (λ r. take r (drop (c.cols-cols.result + d * r) words)) c.rows-rows.ensures.value
    ∙ ap (λ n. take (digit_rows l) (drop (n + d * digit_rows l) words)) c.cols-cols.ensures.value in
    let inside : d * count + 1 * count ≤ length c.args.out.now =
    some_of_them d 1 (digits_per_record l) h.rows first.rows c.rows.result c.rows-2.result (length c.args.out.now)
    (omega (arith, c.loop-d-test.true, c.digits_per_record-parts.ensures.value)) c.rows.ensures.value c.rows-2.ensures.value c.requires.room in
    record {
      within = omega (arith, c.loop-d-test.true);
      so_far = take-put_mid (d * count) (d * count + count - d * count) c.loop-d.out c.put_part_answer.new.out ((d + 1) * count) (omega arith)
          (omega (arith, inside, c.loop-d.auto.out))
          ∙ ap (λ ws. ws ++ c.put_part_answer.new.out) c.loop-d.invariant.so_far
          ∙ ap (λ ws. flat_map f (range_with_len 0 d) ++ ws) (c.put_part_answer.ensures ∙ ap (part_answer_of h first) x)
          ∙ one_part f [] d;
    }

pub returns : goal.returns
returns g c =
    let l = c.args.layout.now in
    let words : List ℕ = c.args.words.now in
    let h : WordMatrix = g.S.DigitStore.digits c.args.server_hint.now in
    let first : WordMatrix = c.args.first.now in
    let count : ℕ = c.rows.result + c.rows-2.result in
    let end : c.loop-d.d ≡ digits_per_record l = omega (arith, c.loop-d-test.false, c.loop-d.invariant.within, c.digits_per_record-parts.ensures.value) in
    let whole : digits_per_record l * count ≡ length c.args.out.now =
    all_parts (digits_per_record l) h.rows first.rows c.rows.result c.rows-2.result (length c.args.out.now) c.rows.ensures.value c.rows-2.ensures.value
    c.requires.room in
    sym (take_all (c.loop-d.d * count) c.loop-d.out (omega (arith, ap (λ k. k * count) end, whole, c.loop-d.auto.out)))
    ∙ c.loop-d.invariant.so_far
    ∙ ap (λ n. flat_map (λ d. part_answer_of h first (part_of_query l words d)) (range_with_len 0 n)) end
