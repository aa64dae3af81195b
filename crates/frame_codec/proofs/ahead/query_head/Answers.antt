use Rattle.std.proofs.Common.{◌≡◌, ◌++◌, ◌<◌, ◌≤◌, ◌∙◌, List, ℕ, length, take, arith, false, refl, sym}
use Rattle.std.proofs.lemmas.List.{length-append}
use Rattle.frame_codec.proofs.Fronts.{copied_all, IsBytes-append}
use Rattle.frame_codec.proofs.Pieces.{readable_limit}
use Rattle.frame_codec.proofs.Queries.{has_query_head, no_query_of_fault, no_query_of_few, no_query_of_kind}
use Rattle.frame_codec.proofs.ahead.query_head.Goals.{then-saturating_add-size-via-then-saturating_add-size, then-saturating_add-size-via-else-saturating_add-size+then-size-lt-QUERY_HEAD_LEN, then-head-ne-QUERY-via-then-head-ne-QUERY, then-head-ne-QUERY-via-else-head-ne-QUERY+then-not-is_payload_len}
use Rattle.frame_codec.proofs.ahead.query_head.Goals as goal

pub returns-in-Err-clause-none : goal.returns-in-Err-clause-none
returns-in-Err-clause-none c = no_query_of_fault _ (c.args.first.now ++ c.args.rest.now) c.in-Err.ensures.err

pub returns-then-saturating_add-size-clause-none : goal.returns-then-saturating_add-size-clause-none
returns-then-saturating_add-size-clause-none c =
    let bytes : List ℕ = c.args.first.now ++ c.args.rest.now in
    let few : 14 ≤ c.in-Ok.size → length bytes < c.in-Ok.size = λ long. elim c.then-saturating_add-size.branch [
      | then-saturating_add-size-via-then-saturating_add-size w ↦
          omega (
            arith,
            length-append c.args.first.now c.args.rest.now,
            c.saturating_add.ensures,
            w.if-saturating_add-size.true,
            readable_limit false bytes c.in-Ok.size c.in-Ok.ensures.ok,
          )
      | then-saturating_add-size-via-else-saturating_add-size+then-size-lt-QUERY_HEAD_LEN w ↦
          absurd (omega (arith, long, w.if-size-lt-QUERY_HEAD_LEN.true))
    ] in
    no_query_of_few bytes c.in-Ok.size c.in-Ok.ensures.ok few

pub returns-then-head-ne-QUERY-clause-none : goal.returns-then-head-ne-QUERY-clause-none
returns-then-head-ne-QUERY-clause-none c =
    let bytes : List ℕ = c.args.first.now ++ c.args.rest.now in
    let whole : c.in-Ok.size ≤ length bytes =
    omega (arith, length-append c.args.first.now c.args.rest.now, c.saturating_add.ensures, c.if-saturating_add-size.false) in
    let space : c.fill_front.new.space ≡ take 14 bytes =
    copied_all 14 c.fill_front.new.space bytes c.fill_front.result c.fill_front.ensures.len c.fill_front.ensures.bytes
    (omega (arith, whole, c.if-size-lt-QUERY_HEAD_LEN.false)) in
    no_query_of_kind bytes c.fill_front.new.space c.in-Ok.size c.in-Ok.ensures.ok space
    (λ kind len. elim c.then-head-ne-QUERY.branch [
      | then-head-ne-QUERY-via-then-head-ne-QUERY w ↦ w.if-head-ne-QUERY.true kind
      | then-head-ne-QUERY-via-else-head-ne-QUERY+then-not-is_payload_len w ↦
          absurd (let bad = sym w.if-not-is_payload_len.true ∙ w.is_payload_len.ensures.1 len in cc)
    ])

pub returns-clause-some : goal.returns-clause-some
returns-clause-some c =
    let bytes : List ℕ = c.args.first.now ++ c.args.rest.now in
    let whole : c.in-Ok.size ≤ length bytes =
    omega (arith, length-append c.args.first.now c.args.rest.now, c.saturating_add.ensures, c.if-saturating_add-size.false) in
    let space : c.fill_front.new.space ≡ take 14 bytes =
    copied_all 14 c.fill_front.new.space bytes c.fill_front.result c.fill_front.ensures.len c.fill_front.ensures.bytes
    (omega (arith, whole, c.if-size-lt-QUERY_HEAD_LEN.false)) in
    has_query_head bytes c.fill_front.new.space c.in-Ok.size _ (record {
      fits = IsBytes-append c.args.first.now c.args.rest.now (λ i. omega (arith, c.type_inv.first i)) (λ i. omega (arith, c.type_inv.rest i));
      readable = c.in-Ok.ensures.ok;
      whole = whole;
      len = c.is_payload_len.ensures.0 c.if-not-is_payload_len.false;
      space_is = space;
      kind = c.if-head-ne-QUERY.false;
      scheme = refl;
      version = c.u64_at.ensures;
      count = refl;
    })
