use Rattle.std.proofs.Common.{◌≡◌, ◌≤◌, ◌+◌, ◌*◌, length, ◌∙◌, arith}
use Rattle.hint_file.proofs.HeadBytes.{same_fault}
use Rattle.hint_file.proofs.WholeRead.{words_begin, words_more, count_more, words_short}
use Rattle.hint_file.proofs.reading.read_words.Goals as goal

pub loop-words-init : goal.loop-words-init
loop-words-init g c = record {
  room = c.in_ok-buffer.ensures;
  within = omega (arith, c.in_ok-words.ensures.len);
  read = words_begin _ c.in_ok-words.words.items c.in_ok-words.ensures.items;
}

pub loop-words-smaller : goal.loop-words-smaller
loop-words-smaller g c =
    let four : length c.in-Ok.ensures.read.0 ≡ 4 * c.min-wanted.result = c.in-Ok.ensures.read.1 ∙ c.split_at_mut-room.ensures.front_len in
    omega (arith, count_more c.loop-words.words.items c.read_part.new.words.items c.in-Ok.ensures.read.0 c.min-wanted.result c.in-Ok.ensures.read.3 four, c.min-wanted.ensures)

pub loop-words-preserved : goal.loop-words-preserved
loop-words-preserved g c =
    let four : length c.in-Ok.ensures.read.0 ≡ 4 * c.min-wanted.result = c.in-Ok.ensures.read.1 ∙ c.split_at_mut-room.ensures.front_len in
    record {
      room = c.loop-words.invariant.room;
      within = omega (
        arith,
        count_more c.loop-words.words.items c.read_part.new.words.items c.in-Ok.ensures.read.0 c.min-wanted.result c.in-Ok.ensures.read.3 four,
        c.min-wanted.ensures,
      );
      read = words_more _ _ _ c.loop-words.words.items c.read_part.new.words.items c.in-Ok.ensures.read.0 c.loop-words.invariant.read c.in-Ok.ensures.read.2
          c.in-Ok.ensures.read.3;
    }

pub returns-in-Err-clause-damaged : goal.returns-in-Err-clause-damaged
returns-in-Err-clause-damaged g c = λ h.
    let le : length c.loop-words.words.items + c.min-wanted.result ≤ c.args.count = omega (arith, c.min-wanted.ensures) in
    words_short _ _ c.loop-words.words.items c.min-wanted.result c.args.count c.loop-words.invariant.read
    (rw c.split_at_mut-room.ensures.front_len at (c.in-Err.ensures.damaged (same_fault c.in-Err.fault _ h))) le
