use Rattle.std.proofs.Common.{◌≡◌, ℕ, ◌+◌, ◌*◌, ◌<◌, ◌++◌, ◌∷◌, [], All, List, length, ap, ◌∙◌, sym, subst, rules, arith, Result, Ok, Err, OnOk}
use Rattle.std.proofs.lemmas.List.{length-append, length_push}
use Rattle.std.specs.List.Sorted.{IsStrictlyIncreasing}
use Rattle.record_log.specs.OldRecords.{OldBytes, OldRecord, olds_in}
use Rattle.record_log.proofs.Olds.{all_less, ascend_more, old_record, olds_in_more}
use Rattle.record_log.proofs.old_records.OldRecords.push.Goals as goal

numbers : (c : goal.After-extend_from_slice) → c.push.new.self.items ≡ c.self.inside.numbers.items ++ c.args.number ∷ []
numbers c = search rules

bytes : (c : goal.After-extend_from_slice) → c.extend_from_slice.new.self.items ≡ c.self.inside.bytes.items ++ c.args.bytes.now
bytes c = search rules

len : (c : goal.After-extend_from_slice) → length c.args.bytes.now ≡ c.self.inside.record_len
len c = c.requires.len ∙ ap (λ (v : OldBytes). v.record_len) (sym c.self.view_is)

pub invariant_of-self-2 : goal.invariant_of-self-2
invariant_of-self-2 c =
    let o = c.self.inside in
    let later : All (λ (old : OldRecord). old.index < c.args.number) (olds_in o.record_len o.numbers.items o.bytes.items) =
    subst (λ (v : OldBytes). All (λ (old : OldRecord). old.index < c.args.number) v.records) (sym c.self.view_is) c.requires.later in
    let before : length o.bytes.items ≡ length o.numbers.items * o.record_len = c.self.invariant.0 in
    let many : length c.push.new.self.items ≡ length o.numbers.items + 1 = ap length (numbers c) ∙ length_push o.numbers.items c.args.number in
    let long : length c.extend_from_slice.new.self.items ≡ length o.bytes.items + length c.args.bytes.now =
    ap length (bytes c) ∙ length-append o.bytes.items c.args.bytes.now in
    let all : length o.bytes.items + length c.args.bytes.now ≡ (length o.numbers.items + 1) * o.record_len = omega (arith, before, len c) in (
      long ∙ all ∙ ap (λ n. n * o.record_len) (sym many),
      subst IsStrictlyIncreasing (sym (numbers c)) (ascend_more o.numbers.items c.args.number c.self.invariant.1
          (all_less o.record_len o.numbers.items o.bytes.items c.args.number later)),
    )

-- what holds anyway holds at `Ok`
always : {T E : Type 0} {P : Type 0} (r : Result T E) → P → OnOk r P
always (Ok x) h = h
always (Err e) h = tt

-- an old record more
abbrev with_one_more : OldBytes → OldRecord → OldBytes
with_one_more v old = record { record_len = v.record_len; records = v.records ++ old ∷ [] }

pub returns-clause-pushed : goal.returns-clause-pushed
returns-clause-pushed c =
    let o = c.self.inside in
    let old : OldRecord = old_record c.args.number c.args.bytes.now in
    let made : List OldRecord → OldBytes = λ olds. record { record_len = o.record_len; records = olds } in
    let olds : olds_in o.record_len c.push.new.self.items c.extend_from_slice.new.self.items ≡ olds_in o.record_len o.numbers.items o.bytes.items ++ old ∷ [] =
    ap (λ (xs : List ℕ). olds_in o.record_len xs c.extend_from_slice.new.self.items) (numbers c)
    ∙ ap (olds_in o.record_len (o.numbers.items ++ c.args.number ∷ [])) (bytes c)
    ∙ olds_in_more o.record_len o.numbers.items o.bytes.items c.args.number c.args.bytes.now c.self.invariant.0 (len c) in
    always c.extend_from_slice.result (ap made olds ∙ ap (λ (v : OldBytes). with_one_more v old) c.self.view_is)
