use Rattle.std.proofs.Common.{subst}
use Rattle.matrix_u32.specs.Matrix.{IsWhole}
use Rattle.digit_pack.proofs.Triples.{whole_unpacked}
use Rattle.digit_pack.proofs.packed3.PackedDigitsDigitStore.rows.Goals as goal

pub returns-clause-whole : goal.returns-clause-whole
returns-clause-whole g c = subst IsWhole c.self.view_is (whole_unpacked c.self.inside.rows c.self.inside.cols c.self.inside.words.items)
