use Rattle.std.proofs.Common.{◌≡◌, ◌≤◌, ◌+◌, ◌++◌, ℕ, List, length, take, arith}
use Rattle.std.proofs.KnownBytes.{Consumes-trans}
use Rattle.std.proofs.lemmas.List.{length-append, length-take-le}
use Rattle.server_commands.proofs.counted.rest_of.Goals as goal

-- the bytes of one piece more
one_more : (n taken : ℕ) (before buffer : List ℕ) → length before ≡ taken → n ≤ length buffer → length (before ++ take n buffer) ≡ taken + n
one_more n taken before buffer long within = omega (arith, long, length-append before (take n buffer), length-take-le n buffer within)

pub pieces-preserved : goal.pieces-preserved
pieces-preserved g c =
    let done = c.pieces.invariant.done in
    record {
      within = omega (arith, c.if-n-most.false, c.pieces.invariant.within);
      room = omega (arith, c.in-Ok.ensures.room, c.pieces.invariant.room);
      done = (
        done.0 ++ take c.in-Ok.n c.read_piece.new.buffer.items,
        one_more c.in-Ok.n c.pieces.taken done.0 c.read_piece.new.buffer.items done.1 c.in-Ok.ensures.within,
        Consumes-trans _ _ _ _ _ done.2 c.in-Ok.ensures.piece,
      );
    }
