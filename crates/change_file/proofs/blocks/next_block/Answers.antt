use Rattle.std.proofs.Common.{◌≡◌, ◌++◌, true, false, not, Some, ℕ, List, length, sym, ap, subst, ◌∙◌, append_assoc, arith}
use Rattle.std.specs.Str.{bytes_eq}
use Rattle.std.proofs.lemmas.Bool.{not-false}
use Rattle.std.proofs.lemmas.List.{length-append}
use Rattle.std.proofs.lemmas.Slice.Eq.{bytes_eq-Decides}
use Rattle.sha2.specs.Sha256.{sha256}
use Rattle.change_file.specs.Files.{HintMove, block_bytes, block_body, first_move, move_of, next_block_link}
use Rattle.change_file.proofs.Bodies.{block_joined, first_back, first_none, length-body, length-sha256, one_block}
use Rattle.change_file.proofs.blocks.next_block.Goals.{then-ne-via-then-ne, then-ne-via-else-ne+then-cut-since}
use Rattle.change_file.proofs.blocks.next_block.Goals as goal

pub returns-in_err-cut-clause-none : goal.returns-in_err-cut-clause-none
returns-in_err-cut-clause-none c = rw c.from_residual.ensures (first_none c.args.link.now.bytes c.args.bytes.now c.args.since (λ m more is follows e.
    c.in_err-cut.ensures.none m (next_block_link c.args.link.now.bytes m) more is (length-sha256 (c.args.link.now.bytes ++ block_body m))
    (e ∙ append_assoc (block_body m) (next_block_link c.args.link.now.bytes m) more)))

pub returns-then-ne-clause-none : goal.returns-then-ne-clause-none
returns-then-ne-clause-none c = first_none c.args.link.now.bytes c.args.bytes.now c.args.since (λ m more is follows e.
    let cut = c.in_ok-cut.cut in
    let it = c.in_ok-cut.ensures.some in
    let link : List ℕ = next_block_link c.args.link.now.bytes m in
    let parts : block_body (move_of cut.block) ++ (cut.link.now ++ it.3.0) ≡ block_body m ++ (link ++ more) =
    ap (λ (x : List ℕ). x ++ (cut.link.now ++ it.3.0)) (sym it.2) ∙ sym it.3.1 ∙ e ∙ append_assoc (block_body m) link more in
    let same = one_block (move_of cut.block) m cut.link.now link it.3.0 more it.0 is
    (it.1 ∙ sym (length-sha256 (c.args.link.now.bytes ++ block_body m))) parts in
    let linked : c.as_slice.result.now ≡ cut.link.now =
    c.as_slice.ensures
    ∙ c.link_after-next.ensures
    ∙ ap (λ (x : List ℕ). sha256 (c.args.link.now.bytes ++ x)) (it.2 ∙ ap block_body same.0)
    ∙ sym same.1 in
    let equal : bytes_eq c.as_slice.result.now cut.link.now ≡ true = (bytes_eq-Decides c.as_slice.result.now cut.link.now).1 linked in
    elim c.then-ne.branch [
      | then-ne-via-then-ne w ↦ absurd (let apart : true ≡ false = sym w.if-ne.true ∙ c.ne.ensures ∙ ap not equal in cc)
      | then-ne-via-else-ne+then-cut-since w ↦ absurd (w.if-cut-since.true (ap (λ (x : HintMove). x.since) same.0 ∙ follows))
    ])

pub returns-clause-some : goal.returns-clause-some
returns-clause-some c =
    let cut = c.in_ok-cut.cut in
    let it = c.in_ok-cut.ensures.some in
    let m : HintMove = move_of cut.block in
    let equal : bytes_eq c.as_slice.result.now cut.link.now ≡ true = not-false _ (sym c.ne.ensures ∙ c.if-ne.false) in
    let linked : cut.link.now ≡ sha256 (c.args.link.now.bytes ++ cut.body.now) =
    sym ((bytes_eq-Decides c.as_slice.result.now cut.link.now).0 equal) ∙ c.as_slice.ensures ∙ c.link_after-next.ensures in
    let whole = block_joined c.args.link.now.bytes c.args.bytes.now cut.body.now cut.link.now it.3.0 m it.2 linked it.3.1 in
    let found : first_move c.args.link.now.bytes c.args.since c.args.bytes.now ≡ Some m =
    ap (first_move c.args.link.now.bytes c.args.since) whole
    ∙ subst (λ (v : ℕ). first_move c.args.link.now.bytes v (block_bytes c.args.link.now.bytes m ++ it.3.0) ≡ Some m) c.if-cut-since.false
    (first_back c.args.link.now.bytes it.3.0 m it.0) in
    record {
      move = found;
      link_is = c.link_after-next.ensures ∙ ap (λ (x : List ℕ). sha256 (c.args.link.now.bytes ++ x)) it.2;
      len = omega (arith, ap length it.2, length-body m);
      within = omega (arith, ap length it.3.1, length-append cut.body.now (cut.link.now ++ it.3.0), length-append cut.link.now it.3.0, it.1);
    }
