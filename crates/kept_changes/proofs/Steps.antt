-- Moves of a hint, one after another.
use Rattle.std.proofs.Common.{◌≡◌, ℕ, ◌+◌, ◌%◌, ◌<◌, List, [], ◌∷◌, drop, refl, sym, ap, subst, ◌∙◌}
use Rattle.digit_pack.specs.Layout.{digit_rows}
use Rattle.hint_changes.specs.Entries.{changes_in}
use Rattle.pir_schemes.specs.declared.plan.Plan.{Plan}
use Rattle.pir_schemes.specs.Plans.{shape_at, first_public}
use Rattle.client_core.specs.declared.state.Hint.{Hint}
use Rattle.change_file.specs.declared.blocks.WholeBlock.{WholeBlock}
use Rattle.change_file.specs.Files.{HintMove, IsNextBlock, block_len, last_version, move_of, moves_in, next_block_link}
use Rattle.change_file.proofs.Chains.{moves_more}
use Rattle.kept_changes.specs.Moves.{AreMovesOf, IsMoveOf, IsMovedOn, IsMovedWhole, hint_after_move, moved_through, record_rows}
use Rattle.kept_changes.proofs.Alike.{moved_alike}

-- no move
pub no_move : (p : Plan) (i : ℕ) (hint : Hint) → IsMovedOn p i [] hint hint
no_move p i hint = record { scheme = refl; version = refl; rows = refl; cols = refl; moved = λ whole _ _ same. same }

-- a move, and those after it
pub one_and_more : (p : Plan) (i : ℕ) (m : HintMove) (ms : List HintMove) (before now after : Hint) → IsMovedOn p i (m ∷ []) before now →
    IsMovedOn p i ms now after → IsMovedOn p i (m ∷ ms) before after
one_and_more p i m ms before now after one more = record {
  scheme = more.scheme ∙ one.scheme;
  version = more.version ∙ ap (λ (v : ℕ). last_version v ms) one.version;
  rows = more.rows ∙ one.rows;
  cols = more.cols ∙ one.cols;
  moved = λ whole high wide same.
      more.moved (hint_after_move p m whole) (high ∙ sym one.rows) (wide ∙ sym one.cols) (one.moved whole high wide same);
}

-- the same of a whole hint
pub no_move_of_whole : (p : Plan) (hint : Hint) → IsMovedWhole p [] hint hint
no_move_of_whole p hint = record { scheme = refl; version = refl; rows = refl; cols = refl; matrix = refl }

pub one_and_more_of_whole : (p : Plan) (m : HintMove) (ms : List HintMove) (before now after : Hint) → IsMovedWhole p (m ∷ []) before now →
    IsMovedWhole p ms now after → IsMovedWhole p (m ∷ ms) before after
one_and_more_of_whole p m ms before now after one more = record {
  scheme = more.scheme ∙ one.scheme;
  version = more.version ∙ ap (λ (v : ℕ). last_version v ms) one.version;
  rows = more.rows ∙ one.rows;
  cols = more.cols ∙ one.cols;
  matrix = more.matrix ∙ ap (moved_through p ms) one.matrix;
}

-- What is left of all moves, for whatever it means that they move a hint to another: they can be
-- made if and only if all can, and make of the hint now what all make of it at first.
pub record IsUnderWay (p : Plan) (Moves : List HintMove → Hint → Hint → Type 0) (all left : List HintMove) (first now : Hint) : Type 0 where
  pub on : (after : Hint) → Moves left now after → Moves all first after
  pub good : AreMovesOf p all → AreMovesOf p left
  pub back : AreMovesOf p left → AreMovesOf p all

-- the moves left begin with that of the next block
pub first_of_left : (link rest more : List ℕ) (version : ℕ) (next : WholeBlock) → IsNextBlock link version rest next → more ≡ drop next.len rest →
    moves_in link version rest ≡ move_of next.block ∷ moves_in next.link.bytes next.block.version more
first_of_left link rest more version next it e =
    let m : HintMove = move_of next.block in
    let place : drop (block_len m) rest ≡ more = ap (λ (n : ℕ). drop n rest) (sym it.len) ∙ sym e in
    moves_more link rest version m it.move
    ∙ ap (λ (x : List ℕ). m ∷ moves_in (next_block_link link m) m.version x) place
    ∙ ap (λ (x : List ℕ). m ∷ moves_in x m.version more) (sym it.link_is)

-- one more
pub goes_on : (p : Plan) (Moves : List HintMove → Hint → Hint → Type 0) (all left more : List HintMove) (m : HintMove) (first now next : Hint) →
    IsUnderWay p Moves all left first now → left ≡ m ∷ more → IsMoveOf p m →
    ((after : Hint) → Moves more next after → Moves (m ∷ more) now after) → IsUnderWay p Moves all more first next
goes_on p Moves all left more m first now next is e good one =
    let from : IsUnderWay p Moves all (m ∷ more) first now = subst (λ (ms : List HintMove). IsUnderWay p Moves all ms first now) e is in
    record {
      on = λ after more_moved. from.on after (one after more_moved);
      good = λ are. (from.good are).1;
      back = λ are. from.back (good, are);
    }

-- and no more
pub arrives : (p : Plan) (Moves : List HintMove → Hint → Hint → Type 0) (all left : List HintMove) (first now : Hint) →
    IsUnderWay p Moves all left first now → left ≡ [] → Moves [] now now → AreMovesOf p all × Moves all first now
arrives p Moves all left first now is e none =
    let from : IsUnderWay p Moves all [] first now = subst (λ (ms : List HintMove). IsUnderWay p Moves all ms first now) e is in
    (from.back tt, from.on now none)

-- a move that can't be made
pub fails : (p : Plan) (Moves : List HintMove → Hint → Hint → Type 0) (all left more : List HintMove) (m : HintMove) (first now : Hint) →
    IsUnderWay p Moves all left first now → left ≡ m ∷ more → ¬ IsMoveOf p m → ¬ AreMovesOf p all
fails p Moves all left more m first now is e bad =
    λ are. bad ((subst (λ (ms : List HintMove). IsUnderWay p Moves all ms first now) e is).good are).0

-- rows that are moved by one move
pub one_block : (p : Plan) (i : ℕ) (m : HintMove) (before after : Hint) → before.matrix.rows ≡ digit_rows (shape_at p (i + 1)) →
    i % p.groups < p.groups → after.scheme ≡ before.scheme → after.version ≡ m.version →
    after.matrix.rows ≡ before.matrix.rows → after.matrix.cols ≡ before.matrix.cols →
    record_rows p i after.matrix ≡ record_rows p i (hint_after_move p m before.matrix) → IsMovedOn p i (m ∷ []) before after
one_block p i m before after high inside scheme version rows cols moved = record {
  scheme = scheme;
  version = version;
  rows = rows;
  cols = cols;
  moved = λ whole tall wide same.
      moved
      ∙ moved_alike (shape_at p m.count) (first_public (shape_at p m.count) p.dimension p.seed) before.matrix whole
      (changes_in p.record_len m.entries) (i % p.groups) high (tall ∙ high) inside same;
}
