-- Where blocks end.
use Rattle.std.proofs.Common.{◌≡◌, ℕ, ◌+◌, None, List, [], ◌∷◌, ◌++◌, length, drop, refl, sym, ap, subst, ◌∙◌, arith}
use Rattle.std.proofs.lemmas.List.{length-append, length-drop, drop_at}
use Rattle.change_file.specs.declared.blocks.WholeBlock.{WholeBlock}
use Rattle.change_file.specs.declared.ends.ChangesEnd.{ChangesEnd}
use Rattle.change_file.specs.Files.{HintMove, IsChainEnd, IsEnd, IsEndOfBlocks, IsNextBlock, block_bytes, block_len, blocks_bytes, file_bytes, file_moves, first_block_link, first_move, changes_head, last_count, last_block_link, last_version, move_of, moves_in, next_block_link}
use Rattle.change_file.proofs.Bodies.{length-block}
use Rattle.change_file.proofs.Chains.{moves_more, moves_none, read_is_there}
use Rattle.change_file.proofs.Cuts.{file_parts, length-head, with_head}

-- the end of all blocks is that of the blocks that are left, from here on
pub record IsOnWay (first : List ℕ) (before count0 : ℕ) (bytes link : List ℕ) (version count len : ℕ) (rest : List ℕ) : Type 0 where
  pub len_is : length (blocks_bytes first (moves_in first before bytes)) ≡ len + length (blocks_bytes link (moves_in link version rest))
  pub link_is : last_block_link first (moves_in first before bytes) ≡ last_block_link link (moves_in link version rest)
  pub version_is : last_version before (moves_in first before bytes) ≡ last_version version (moves_in link version rest)
  pub count_is : last_count count0 (moves_in first before bytes) ≡ last_count count (moves_in link version rest)
  pub within : len + length rest ≡ length bytes

pub begins_way : (first : List ℕ) (before count0 : ℕ) (bytes : List ℕ) → IsOnWay first before count0 bytes first before count0 0 bytes
begins_way first before count0 bytes = record { len_is = omega arith; link_is = refl; version_is = refl; count_is = refl; within = omega arith }

-- one more block
pub goes_on : (first : List ℕ) (before count0 : ℕ) (bytes link : List ℕ) (version count len : ℕ) (rest more : List ℕ) (next : WholeBlock) →
    IsOnWay first before count0 bytes link version count len rest → IsNextBlock link version rest next → more ≡ drop next.len rest →
    IsOnWay first before count0 bytes next.link.bytes next.block.version next.block.count (len + next.len) more
goes_on first before count0 bytes link version count len rest more next is it e =
    let m : HintMove = move_of next.block in
    let place : drop (block_len m) rest ≡ more = ap (λ (n : ℕ). drop n rest) (sym it.len) ∙ sym e in
    let left : List HintMove = moves_in next.link.bytes m.version more in
    let all : moves_in link version rest ≡ m ∷ left =
    moves_more link rest version m it.move
    ∙ ap (λ (x : List ℕ). m ∷ moves_in (next_block_link link m) m.version x) place
    ∙ ap (λ (x : List ℕ). m ∷ moves_in x m.version more) (sym it.link_is) in
    let chain : length (blocks_bytes link (moves_in link version rest)) ≡ block_len m + length (blocks_bytes next.link.bytes left) =
    ap (λ (x : List HintMove). length (blocks_bytes link x)) all
    ∙ length-append (block_bytes link m) (blocks_bytes (next_block_link link m) left)
    ∙ ap (λ (n : ℕ). n + length (blocks_bytes (next_block_link link m) left)) (length-block link m)
    ∙ ap (λ (x : List ℕ). block_len m + length (blocks_bytes x left)) (sym it.link_is) in
    record {
      len_is = omega (arith, is.len_is, chain, it.len);
      link_is = is.link_is ∙ ap (last_block_link link) all ∙ ap (λ (x : List ℕ). last_block_link x left) (sym it.link_is);
      version_is = is.version_is ∙ ap (last_version version) all;
      count_is = is.count_is ∙ ap (last_count count) all;
      within = omega (arith, is.within, it.within, ap length e, length-drop next.len rest);
    }

-- and no more
pub ends_way : (first : List ℕ) (before count0 : ℕ) (bytes link : List ℕ) (version count len : ℕ) (rest : List ℕ) (end : ChangesEnd) →
    IsOnWay first before count0 bytes link version count len rest → first_move link version rest ≡ None →
    end.len ≡ len → end.link.bytes ≡ link → end.version ≡ version → end.count ≡ count →
    IsChainEnd first before count0 (moves_in first before bytes) end
ends_way first before count0 bytes link version count len rest end is none l k v c =
    let left : moves_in link version rest ≡ [] = moves_none (length rest) link rest version none in
    let chain : length (blocks_bytes link (moves_in link version rest)) ≡ 0 = ap (λ (x : List HintMove). length (blocks_bytes link x)) left in
    record {
      len = omega (arith, l, is.len_is, chain);
      link_is = k ∙ sym (is.link_is ∙ ap (last_block_link link) left);
      version_is = v ∙ sym (is.version_is ∙ ap (last_version version) left);
      count_is = c ∙ sym (is.count_is ∙ ap (last_count count) left);
    }

-- the end of the blocks after a head
pub is_end : (digest bytes rest first : List ℕ) (version count : ℕ) (chain end : ChangesEnd) → length digest ≡ 32 → bytes ≡ changes_head digest ++ rest →
    first ≡ first_block_link digest → IsChainEnd first version count (moves_in first version rest) chain →
    end.len ≡ 72 + chain.len → end.link ≡ chain.link → end.version ≡ chain.version → end.count ≡ chain.count → IsEnd digest version count bytes end
is_end digest bytes rest first version count chain end size e f ended l k v c =
    let link : List ℕ = first_block_link digest in
    let ms : List HintMove = moves_in link version rest in
    let file : ms ≡ file_moves digest version bytes = sym (with_head digest bytes rest version size e) in
    let is : IsChainEnd link version count ms chain = subst (λ (x : List ℕ). IsChainEnd x version count (moves_in x version rest) chain) f ended in
    let len : end.len ≡ length (file_bytes digest ms) =
    omega (arith, l, is.len, length-append (changes_head digest) (blocks_bytes link ms), length-head digest size) in
    let there = read_is_there link rest version in
    let after : List ℕ = drop (length (blocks_bytes link ms)) rest in
    let parts : bytes ≡ file_bytes digest ms ++ after =
    e ∙ ap (λ (x : List ℕ). changes_head digest ++ x) there.whole ∙ sym (file_parts digest after ms) in
    let tail : after ≡ drop end.len bytes = sym (ap (drop end.len) parts ∙ drop_at (file_bytes digest ms) after end.len (sym len)) in
    subst (λ (x : List HintMove). IsEndOfBlocks digest version count bytes x end) file (record {
      len = len;
      within = omega (arith, len, ap length parts, length-append (file_bytes digest ms) after);
      whole = parts ∙ ap (λ (x : List ℕ). file_bytes digest ms ++ x) tail;
      link_is = ap (λ (x : _). x.bytes) k ∙ is.link_is;
      version_is = v ∙ is.version_is;
      count_is = c ∙ is.count_is;
    })
