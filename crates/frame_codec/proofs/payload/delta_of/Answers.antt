use Rattle.std.proofs.Common.{◌≡◌, ℕ, List, length, ◌+◌, ◌-◌, ◌*◌, ◌/◌, ◌%◌, arith, rules, ◌∙◌, drop, sym, ap}
use Rattle.std.proofs.Math.Nat.{mul-mod_left}
use Rattle.std.proofs.lemmas.List.{take_rest, length-drop}
use Rattle.frame_codec.specs.Numbers.{number_in, word_bytes}
use Rattle.frame_codec.specs.Frames.{IsPayload}
use Rattle.frame_codec.specs.Rows.{RowList, HasWholeRows}
use Rattle.frame_codec.proofs.Payloads.{no_stands, has_delta, is_delta, DeltaFields, whole_rows, rows_divide}
use Rattle.frame_codec.proofs.payload.delta_of.Goals.{then-payload-lt22-via-then-payload-lt22, then-payload-lt22-via-else-payload-lt22+then-payload-ne0}
use Rattle.frame_codec.proofs.payload.delta_of.Goals as goal

pub words_of-requires : goal.words_of-requires
words_of-requires c = rw take_rest ((length c.args.payload.now - 22) / 4, omega (arith, length-drop 22 c.args.payload.now))

pub returns-then-payload-lt22-clause-reads : goal.returns-then-payload-lt22-clause-reads
returns-then-payload-lt22-clause-reads c =
    no_stands 132 c.args.payload.now (λ h. let e =
    h.1 in elim c.then-payload-lt22.branch [
      | then-payload-lt22-via-then-payload-lt22 w ↦ omega arith
      | then-payload-lt22-via-else-payload-lt22+then-payload-ne0 w ↦ omega arith
    ])

-- whole rows of this many words leave no words over
nothing_over : (len m n dimension : ℕ) → len ≡ 22 + 4 * (m * (n + 1)) → dimension ≡ n → (len - 22) / 4 % (dimension + 1) ≡ 0
nothing_over len m n dimension e same =
    let count : (len - 22) / 4 ≡ m * (n + 1) = omega arith in
    rw (same, count) (mul-mod_left m (n + 1))

pub returns-then-count-dimension-ne0-clause-reads : goal.returns-then-count-dimension-ne0-clause-reads
returns-then-count-dimension-ne0-clause-reads c =
    let dimension : c.u16_at-dimension.result ≡ number_in 2 (drop 20 c.args.payload.now) = rw take_rest at c.u16_at-dimension.ensures in
    no_stands 132 c.args.payload.now (λ h. c.if-count-dimension-ne0.true
    (nothing_over (length c.args.payload.now) h.0 (number_in 2 (drop 20 c.args.payload.now)) c.u16_at-dimension.result h.1 dimension))

pub new-requires : goal.new-requires
new-requires c =
    let w : word_bytes c.in_ok-words.words ≡ drop 22 c.args.payload.now = c.in_ok-words.ensures.bytes ∙ take_rest c.args.payload.now 22 in
    whole_rows c.u16_at-dimension.result c.in_ok-words.words (drop 22 c.args.payload.now) ((length c.args.payload.now - 22) / 4) w
    (omega (arith, length-drop 22 c.args.payload.now)) (search rules)

pub returns-clause-reads : goal.returns-clause-reads
returns-clause-reads c =
    let bytes : List ℕ = c.args.payload.now in
    let rows : RowList = record { dimension = c.u16_at-dimension.result; words = c.in_ok-words.words } in
    let w : word_bytes c.in_ok-words.words ≡ drop 22 c.args.payload.now = c.in_ok-words.ensures.bytes ∙ take_rest c.args.payload.now 22 in
    let fields : DeltaFields c.args.payload.now c.u64_at.result c.u64_at-2.result c.u32_at.result rows = record {
      since_is = c.u64_at.ensures;
      now_is = rw take_rest at c.u64_at-2.ensures;
      count_is = rw take_rest at c.u32_at.ensures;
      dimension_is = rw take_rest at c.u16_at-dimension.ensures;
      words_are = w;
    } in
    let whole : HasWholeRows rows =
    whole_rows c.u16_at-dimension.result c.in_ok-words.words (drop 22 c.args.payload.now) ((length c.args.payload.now - 22) / 4) w
    (omega (arith, length-drop 22 c.args.payload.now)) (search rules) in
    rw c.new.ensures (is_delta c.args.payload.now (λ i. omega (arith, c.type_inv.payload i)) (omega arith) _ _ _ rows fields
    (omega (arith, c.u64_at.type_inv)) (omega (arith, c.u64_at-2.type_inv)) (omega (arith, c.u32_at.type_inv)) (omega (arith, c.u16_at-dimension.type_inv))
    whole c.in_ok-words.ensures.fields)

pub returns-in_err-words-clause-memory : goal.returns-in_err-words-clause-memory
returns-in_err-words-clause-memory c =
    let dimension : c.u16_at-dimension.result ≡ number_in 2 (drop 20 c.args.payload.now) = rw take_rest at c.u16_at-dimension.ensures in
    let zero : (length c.args.payload.now - 22) / 4 % (c.u16_at-dimension.result + 1) ≡ 0 = search rules in
    let rest : (length c.args.payload.now - 22) / 4 % (number_in 2 (drop 20 c.args.payload.now) + 1) ≡ 0 =
    ap (λ (x : ℕ). (length c.args.payload.now - 22) / 4 % (x + 1)) (sym dimension) ∙ zero in
    let count : (length c.args.payload.now - 22) / 4
    ≡ (length c.args.payload.now - 22) / 4 / (number_in 2 (drop 20 c.args.payload.now) + 1) * (number_in 2 (drop 20 c.args.payload.now) + 1) =
    rows_divide (number_in 2 (drop 20 c.args.payload.now)) ((length c.args.payload.now - 22) / 4) rest in
    let is : IsPayload 132 c.args.payload.now =
    has_delta c.args.payload.now (λ i. omega (arith, c.type_inv.payload i))
    ((length c.args.payload.now - 22) / 4 / (number_in 2 (drop 20 c.args.payload.now) + 1)) (omega (arith, count)) in
    search (rules, is)
