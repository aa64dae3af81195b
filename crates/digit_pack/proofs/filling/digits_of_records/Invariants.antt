use Rattle.std.proofs.Common.{◌≡◌, vec_len}
use Rattle.digit_pack.specs.Layout.{digit_matrix, digits_per_record, records_in}
use Rattle.digit_pack.proofs.Turns.{records_before}
use Rattle.digit_pack.proofs.filling.digits_of_records.Given as goal

-- the records of the turns before n are written
abbrev pub invariant-loop-n : goal.invariant-loop-n
invariant-loop-n g l = record {
  digits : g.S.DigitStore.digits l.store ≡ digit_matrix l.layout (records_before l.layout (records_in l.layout l.bytes) l.n);
  room : vec_len l.packed ≡ digits_per_record l.layout;
}
