use Rattle.std.proofs.Common.{◌++◌, ◌<◌, List, ℕ, length, arith}
use Rattle.std.proofs.lemmas.List.{length-append}
use Rattle.frame_codec.proofs.Pieces.{readable_limit}
use Rattle.frame_codec.proofs.Prefixes.{sound_partial}
use Rattle.frame_codec.proofs.reader.see_frame.Goals as goal

pub returns-then-saturating_add-enough : goal.returns-then-saturating_add-enough
returns-then-saturating_add-enough c =
    let bytes : List ℕ = c.args.pending.now ++ c.args.piece.now in
    let few : length bytes < c.in_ok-enough.enough =
    omega (
      arith,
      length-append c.args.pending.now c.args.piece.now,
      c.saturating_add.ensures,
      c.if-saturating_add-enough.true,
      readable_limit c.args.wide bytes c.in_ok-enough.enough c.in_ok-enough.ensures.ok,
    ) in
    sound_partial c.args.wide bytes c.in_ok-enough.enough c.in_ok-enough.ensures.ok few
