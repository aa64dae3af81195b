-- Hints that are moved in turn.
use Rattle.std.proofs.Common.{ℕ, List, [], ◌∷◌, refl}
use Rattle.matrix_u32.specs.Matrix.{WordMatrix}
use Rattle.digit_pack.specs.Layout.{Shape}
use Rattle.change_file.specs.Files.{HintMove}
use Rattle.change_file.specs.Laws.{MovesInTurn}
use Rattle.change_file.specs.Moves.{moved_once}

pub made_in_turn : (l : Shape) (seed : List ℕ) (dimension : ℕ) (hint : WordMatrix) (ms others : List HintMove) → MovesInTurn l seed dimension hint ms others
made_in_turn l seed dimension hint [] others = record { in_turn = refl; rows = refl; cols = refl }
made_in_turn l seed dimension hint (m ∷ ms) others =
    let it = made_in_turn l seed dimension (moved_once l seed dimension m hint) ms others in
    record { in_turn = it.in_turn; rows = it.rows; cols = it.cols }
