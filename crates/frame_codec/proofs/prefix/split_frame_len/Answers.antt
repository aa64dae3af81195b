use Rattle.std.proofs.Common.{◌∙◌, ◌<◌, ◌≤◌, ◌++◌, List, ℕ, length, sym, arith}
use Rattle.std.proofs.lemmas.List.{length-append}
use Rattle.std.proofs.lemmas.Result.{err_from_is_err_and}
use Rattle.frame_codec.specs.Streams.{IsReadable}
use Rattle.frame_codec.proofs.Pieces.{header_readable, header_fault, bad_length, good_length, no_bad_length, readable_limit}
use Rattle.frame_codec.proofs.prefix.split_frame_len.Goals as goal

pub returns-in_err-size-clause-err : goal.returns-in_err-size-clause-err
returns-in_err-size-clause-err c =
    let bytes : List ℕ = c.args.first.now ++ c.args.rest.now in
    let p = err_from_is_err_and c.from_residual.result c.from_residual.ensures.1 in
    rw (p.1, p.2) (header_fault c.args.wide c.in_err-size.field-0.0 bytes (rw (← c.header_of-len.ensures.bytes) c.in_err-size.ensures.err))

pub returns-then-saturating_add-size-clause-ok : goal.returns-then-saturating_add-size-clause-ok
returns-then-saturating_add-size-clause-ok c =
    header_readable c.args.wide (c.args.first.now ++ c.args.rest.now) c.in_ok-size.size (rw (← c.header_of-len.ensures.bytes) c.in_ok-size.ensures.ok)

pub returns-then-saturating_add-size-clause-judged : goal.returns-then-saturating_add-size-clause-judged
returns-then-saturating_add-size-clause-judged c =
    let bytes : List ℕ = c.args.first.now ++ c.args.rest.now in
    let sound : IsReadable c.args.wide bytes c.in_ok-size.size =
    header_readable c.args.wide bytes c.in_ok-size.size (rw (← c.header_of-len.ensures.bytes) c.in_ok-size.ensures.ok) in
    let few : length bytes < c.in_ok-size.size =
    omega (
      arith,
      length-append c.args.first.now c.args.rest.now,
      c.saturating_add.ensures,
      c.if-saturating_add-size.true,
      readable_limit c.args.wide bytes c.in_ok-size.size sound,
    ) in
    no_bad_length c.args.wide bytes c.in_ok-size.size sound few

pub returns-then-not-is_payload_len-clause-err : goal.returns-then-not-is_payload_len-clause-err
returns-then-not-is_payload_len-clause-err c =
    let bytes : List ℕ = c.args.first.now ++ c.args.rest.now in
    let sound : IsReadable c.args.wide bytes c.in_ok-size.size =
    header_readable c.args.wide bytes c.in_ok-size.size (rw (← c.header_of-len.ensures.bytes) c.in_ok-size.ensures.ok) in
    let all : c.in_ok-size.size ≤ length bytes =
    omega (arith, length-append c.args.first.now c.args.rest.now, c.saturating_add.ensures, c.if-saturating_add-size.false) in
    bad_length c.args.wide bytes c.header_of-len.result.0 c.header_of-len.result.1 c.in_ok-size.size
    (record { within = c.header_of-len.ensures.within; taken = c.header_of-len.ensures.bytes; readable = sound }) all
    (λ is. absurd (let bad = sym c.if-not-is_payload_len.true ∙ c.is_payload_len.ensures.1 is in cc))

pub returns-clause-ok : goal.returns-clause-ok
returns-clause-ok c =
    header_readable c.args.wide (c.args.first.now ++ c.args.rest.now) c.in_ok-size.size (rw (← c.header_of-len.ensures.bytes) c.in_ok-size.ensures.ok)

pub returns-clause-judged : goal.returns-clause-judged
returns-clause-judged c =
    let bytes : List ℕ = c.args.first.now ++ c.args.rest.now in
    let sound : IsReadable c.args.wide bytes c.in_ok-size.size =
    header_readable c.args.wide bytes c.in_ok-size.size (rw (← c.header_of-len.ensures.bytes) c.in_ok-size.ensures.ok) in
    let all : c.in_ok-size.size ≤ length bytes =
    omega (arith, length-append c.args.first.now c.args.rest.now, c.saturating_add.ensures, c.if-saturating_add-size.false) in
    good_length c.args.wide bytes c.header_of-len.result.0 c.header_of-len.result.1 c.in_ok-size.size
    (record { within = c.header_of-len.ensures.within; taken = c.header_of-len.ensures.bytes; readable = sound }) all
    (c.is_payload_len.ensures.0 c.if-not-is_payload_len.false)
