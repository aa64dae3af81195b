use Rattle.std.proofs.Common.{◌≡◌, ◌<◌, ◌+◌, ◌-◌, ◌++◌, ℕ, List, slice_index, length, take, drop, sym, ap, ◌∙◌, arith}
use Rattle.std.proofs.lemmas.List.{length-append, length-drop, take_rest, take-append-drop}
use Rattle.byteorder.specs.Endian.{little_number}
use Rattle.change_file.specs.Files.{HintMove, block_body}
use Rattle.change_file.proofs.Bodies.{body_read, entries_len, length-body}
use Rattle.change_file.proofs.blocks.cut_block.Goals.{then-rest-len-via-then-rest-len, then-rest-len-via-else-rest-len+then-rest-len-lt-LINK_LEN}
use Rattle.change_file.proofs.blocks.cut_block.Goals as goal

pub returns-then-rest-len-clause-none : goal.returns-then-rest-len-clause-none
returns-then-rest-len-clause-none c = λ m link rest is count e.
    let bytes = c.args.bytes.now in
    let len : c.read_u32-len.result ≡ length m.entries =
    c.read_u32-len.ensures ∙ ap (little_number 4) (take_rest bytes 20) ∙ entries_len m bytes (link ++ rest) is e in
    let long : length bytes ≡ length m.entries + 24 + (32 + length rest) =
    omega (arith, ap length e, length-append (block_body m) (link ++ rest), length-append link rest, count, length-body m) in
    elim c.then-rest-len.branch [
      | then-rest-len-via-then-rest-len w ↦ absurd (omega (arith, w.if-rest-len, len, long))
      | then-rest-len-via-else-rest-len+then-rest-len-lt-LINK_LEN w ↦ absurd (omega (arith, w.if-rest-len, w.if-rest-len-lt-LINK_LEN, len, long))
    ]

pub returns-clause-some : goal.returns-clause-some
returns-clause-some c =
    let bytes = c.args.bytes.now in
    let body = c.split_at.result.0.now in
    let each : (i : ℕ) → slice_index bytes i < 256 = λ i. omega (arith, c.type_inv.bytes i) in
    let m : HintMove = record {
      since = c.read_u64.result;
      version = c.read_u64-2.result;
      count = c.read_u32.result;
      entries = take (length body - 24) (drop 24 body);
    } in
    let is : body ≡ block_body m = body_read m bytes body c.read_u32-len.result each c.split_at.ensures.front_len c.split_at.ensures.front (omega arith)
    c.read_u64.ensures
    (c.read_u64-2.ensures ∙ ap (little_number 8) (take_rest bytes 8))
    (c.read_u32.ensures ∙ ap (little_number 4) (take_rest bytes 16))
    (c.read_u32-len.ensures ∙ ap (little_number 4) (take_rest bytes 20))
    (take_rest body 24) in
    let len : length m.entries ≡ c.read_u32-len.result = omega (arith, c.split_at.ensures.front_len, ap length (take_rest body 24), length-drop 24 body) in (
      record { since = omega arith; version = omega arith; count = omega arith; len = omega (arith, len) },
      c.split_at-2.ensures.front_len,
      is,
      (
        c.split_at-2.result.1.now,
        sym (take-append-drop (24 + c.read_u32-len.result) bytes)
            ∙ ap (λ (x : List ℕ). x ++ drop (24 + c.read_u32-len.result) bytes) (sym c.split_at.ensures.front)
            ∙ ap (λ (x : List ℕ). body ++ x) (sym c.split_at.ensures.back ∙ sym (take-append-drop 32 c.split_at.result.1.now) ∙ ap (λ (x : List ℕ). x ++ drop 32 c.split_at.result.1.now) (sym c.split_at-2.ensures.front) ∙ ap (λ (x : List ℕ). c.split_at-2.result.0.now ++ x) (sym c.split_at-2.ensures.back)),
      ),
    )
