use Rattle.std.proofs.Common.{◌≡◌, ◌<◌, ◌^◌, ℕ, All, List, arith, get_or}
use Rattle.std.proofs.lemmas.List.{get_or_default}
use Rattle.frame_codec.proofs.frame.Bytes32.copied.Goals as goal

each_byte : (bytes copy : List ℕ) → copy ≡ bytes → ((i : ℕ) → get_or bytes i 0 < 256) → All (λ b. b < 2 ^ 8) copy
each_byte bytes copy e fits k d lt = rw (get_or_default copy k d 0 lt, e) (fits k)

pub invariant_of-result : goal.invariant_of-result
invariant_of-result c = (
  c.copy_from_slice.ensures.len,
  each_byte c.args.bytes.now c.copy_from_slice.new.self c.copy_from_slice.ensures.after
      (λ i. omega (arith, c.type_inv.bytes i)),
)

pub returns-clause-fields : goal.returns-clause-fields
returns-clause-fields c = each_byte c.args.bytes.now c.copy_from_slice.new.self c.copy_from_slice.ensures.after (λ i. omega (arith, c.type_inv.bytes i))
