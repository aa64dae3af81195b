use Rattle.std.proofs.Common.{◌≡◌, ℕ, length, ◌-◌, List, arith, ap, ◌∙◌, drop, get_or, take}
use Rattle.std.proofs.lemmas.List.{take_rest}
use Rattle.std.proofs.lemmas.Result.{err_from_is_err_and}
use Rattle.frame_codec.specs.Frames.{Stands}
use Rattle.frame_codec.specs.Streams.{is_kind, length_at, kind_at}
use Rattle.frame_codec.proofs.Prefixes.{sound_partial, whole_frame, announced, judged}
use Rattle.frame_codec.proofs.prefix.frame_at.Goals as goal

pub returns-then-bytes-size-clause-partial : goal.returns-then-bytes-size-clause-partial
returns-then-bytes-size-clause-partial c = sound_partial c.args.wide c.args.bytes.now c.in_ok-size.size c.in_ok-size.ensures.ok c.if-bytes-size.true

pub returns-in-None-clause-fault : goal.returns-in-None-clause-fault
returns-in-None-clause-fault c =
    let j = judged c.args.wide c.args.bytes.now c.in_ok-size.size c.in_ok-size.ensures.ok c.if-bytes-size.false in
    let kind : get_or c.split_at.result.0.now 4 0 ≡ kind_at c.args.bytes.now = ap (λ (x : List ℕ). get_or x 4 0) c.split_at.ensures.front ∙ j.prefix_kind in
    let payload : take (length c.split_at.result.0.now - 5) (drop 5 c.split_at.result.0.now) ≡ take (length_at c.args.bytes.now) (drop 5 c.args.bytes.now) =
    take_rest c.split_at.result.0.now 5 ∙ ap (drop 5) c.split_at.ensures.front ∙ j.prefix_payload in
    let none = rw c.in-None.is at c.in_ok-decode.ensures.reads in
    (j.within, j.len, j.kind, λ h. none h.0 (rw (kind, payload) (announced c.args.wide c.args.bytes.now h.0 h.1 h.2 h.3).stands))

pub returns-in-Some-clause-whole : goal.returns-in-Some-clause-whole
returns-in-Some-clause-whole c =
    let j = judged c.args.wide c.args.bytes.now c.in_ok-size.size c.in_ok-size.ensures.ok c.if-bytes-size.false in
    let kind : get_or c.split_at.result.0.now 4 0 ≡ kind_at c.args.bytes.now = ap (λ (x : List ℕ). get_or x 4 0) c.split_at.ensures.front ∙ j.prefix_kind in
    let payload : take (length c.split_at.result.0.now - 5) (drop 5 c.split_at.result.0.now) ≡ take (length_at c.args.bytes.now) (drop 5 c.args.bytes.now) =
    take_rest c.split_at.result.0.now 5 ∙ ap (drop 5) c.split_at.ensures.front ∙ j.prefix_payload in
    let found = rw c.in-Some.is at c.in_ok-decode.ensures.reads in
    let rest : c.split_at.result.1.now ≡ drop (length_at c.args.bytes.now) (drop 5 c.args.bytes.now) = c.split_at.ensures.back ∙ j.beyond in
    let s : Stands (kind_at c.args.bytes.now) (take (length_at c.args.bytes.now) (drop 5 c.args.bytes.now)) c.in-Some.frame = rw (← kind, ← payload) found in
    let w = whole_frame c.args.bytes.now c.in-Some.frame (λ i. omega (arith, c.type_inv.bytes i)) j.within j.len s in
    (record { frame = w.0; known = ap (is_kind c.args.wide) s.kind ∙ j.kind }, rw rest w.1, omega (arith, c.split_at.ensures.back_len, j.whole_len))

pub returns-in_err-decode-clause-memory : goal.returns-in_err-decode-clause-memory
returns-in_err-decode-clause-memory c =
    let p = err_from_is_err_and c.from_residual-in_err-decode.result c.from_residual-in_err-decode.ensures.1 in
    let j = judged c.args.wide c.args.bytes.now c.in_ok-size.size c.in_ok-size.ensures.ok c.if-bytes-size.false in
    let kind : get_or c.split_at.result.0.now 4 0 ≡ kind_at c.args.bytes.now = ap (λ (x : List ℕ). get_or x 4 0) c.split_at.ensures.front ∙ j.prefix_kind in
    let payload : take (length c.split_at.result.0.now - 5) (drop 5 c.split_at.result.0.now) ≡ take (length_at c.args.bytes.now) (drop 5 c.args.bytes.now) =
    take_rest c.split_at.result.0.now 5 ∙ ap (drop 5) c.split_at.ensures.front ∙ j.prefix_payload in
    let found = c.in_err-decode.ensures.memory in
    let s : Stands (kind_at c.args.bytes.now) (take (length_at c.args.bytes.now) (drop 5 c.args.bytes.now)) found.0 = rw (← kind, ← payload) found.1 in
    let w = whole_frame c.args.bytes.now found.0 (λ i. omega (arith, c.type_inv.bytes i)) j.within j.len s in
    rw p.1 (λ _. (
      found.0,
      drop (length_at c.args.bytes.now) (drop 5 c.args.bytes.now),
      record { frame = w.0; known = ap (is_kind c.args.wide) s.kind ∙ j.kind },
      w.1,
    ))
