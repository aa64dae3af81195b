use Rattle.std.proofs.Common.{◌∙◌, List, refl, sym, subst}
use Rattle.client_core.specs.declared.state.Hint.{Hint}
use Rattle.change_file.specs.declared.blocks.WholeBlock.{WholeBlock}
use Rattle.change_file.specs.Files.{HintMove, move_of, moves_in}
use Rattle.kept_changes.specs.Moves.{IsMovedWhole}
use Rattle.kept_changes.proofs.Steps.{IsUnderWay, arrives, fails, first_of_left, goes_on, no_move_of_whole, one_and_more_of_whole}
use Rattle.change_file.proofs.Chains.{moves_none}
use Rattle.std.proofs.Common.{length, ℕ, drop}
use Rattle.kept_changes.proofs.whole_hint.whole_through.Goals as goal

pub whole-preserved : goal.whole-preserved
whole-preserved g c =
    let all : List HintMove = moves_in c.args.link.bytes c.args.hint.version c.args.bytes.now in
    let left : List HintMove = moves_in c.whole.link.bytes c.whole.hint.version c.whole.rest.now in
    let next : WholeBlock = c.in-Some.next in
    let new : Hint = c.move_whole.new.hint in
    let more : ℕ → List HintMove = λ v. moves_in next.link.bytes v c.split_at.result.1.now in
    let way : List HintMove → Hint → Hint → Type 0 = IsMovedWhole c.args.plan.now in
    let moved = c.if-not-move_whole.ensures.moved refl in
    record {
      seed = c.move_whole.ensures.public.0 ∙ c.whole.invariant.seed;
      dimension = c.move_whole.ensures.public.1 ∙ c.whole.invariant.dimension;
      rows = moved.rows ∙ c.whole.invariant.rows;
      cols = moved.cols ∙ c.whole.invariant.cols;
      way = subst (λ v. IsUnderWay c.args.plan.now way all (more v) c.args.hint new) (sym moved.version)
          (goes_on c.args.plan.now way all left (more next.block.version) (move_of next.block) c.args.hint c.whole.hint new
          c.whole.invariant.way
          (first_of_left c.whole.link.bytes c.whole.rest.now c.split_at.result.1.now c.whole.hint.version next c.in-Some.ensures.some c.split_at.ensures.back)
          (c.if-not-move_whole.ensures.good refl)
          (λ after more_moved. one_and_more_of_whole c.args.plan.now (move_of next.block) (more next.block.version) c.whole.hint new after moved more_moved));
    }

pub returns-then-not-move_whole : goal.returns-then-not-move_whole
returns-then-not-move_whole g c =
    let next : WholeBlock = c.in-Some.next in
    let after : List ℕ = drop next.len c.whole.rest.now in
    fails c.args.plan.now (IsMovedWhole c.args.plan.now) (moves_in c.args.link.bytes c.args.hint.version c.args.bytes.now)
    (moves_in c.whole.link.bytes c.whole.hint.version c.whole.rest.now) (moves_in next.link.bytes next.block.version after) (move_of next.block) c.args.hint
    c.whole.hint c.whole.invariant.way
    (first_of_left c.whole.link.bytes c.whole.rest.now after c.whole.hint.version next c.in-Some.ensures.some refl)
    (c.if-not-move_whole.ensures.bad refl)

pub returns : goal.returns
returns g c =
    let left : List HintMove = moves_in c.whole.link.bytes c.whole.hint.version c.whole.rest.now in
    arrives c.args.plan.now (IsMovedWhole c.args.plan.now) (moves_in c.args.link.bytes c.args.hint.version c.args.bytes.now) left c.args.hint c.whole.hint
    c.whole.invariant.way (moves_none (length c.whole.rest.now) c.whole.link.bytes c.whole.rest.now c.whole.hint.version c.in_default.ensures.none)
    (no_move_of_whole c.args.plan.now c.whole.hint)
