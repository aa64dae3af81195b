use Rattle.std.proofs.Common.{refl}
use Rattle.frame_codec.proofs.PayloadLengths.{load_lengths, hello_lengths, hint_ask_lengths, delta_ask_lengths, edit_lengths, publish_lengths, bye_lengths, welcome_lengths, stale_lengths, done_lengths, no_delta_lengths, changes_ask_lengths, changes_lengths, refused_lengths, query_lengths, hint_part_lengths, delta_lengths, answer_lengths, append_length}
use Rattle.frame_codec.proofs.payload.is_payload_len.Goals as goal

pub returns-in-1 : goal.returns-in-1
returns-in-1 c = rw c.in-1.is (load_lengths c.args.len)

pub returns-in-2 : goal.returns-in-2
returns-in-2 c = rw c.in-2.is (hello_lengths c.args.len)

pub returns-in-3 : goal.returns-in-3
returns-in-3 c = rw c.in-3.is (hint_ask_lengths c.args.len)

pub returns-in-4 : goal.returns-in-4
returns-in-4 c = rw c.in-4.is (delta_ask_lengths c.args.len)

pub returns-in-5 : goal.returns-in-5
returns-in-5 c = rw c.in-5.is (query_lengths c.args.len c.is_words_len.result c.is_words_len.ensures)

pub returns-in-6 : goal.returns-in-6
returns-in-6 c = rw c.in-6.is (edit_lengths c.args.len)

pub returns-in-7 : goal.returns-in-7
returns-in-7 c = rw c.in-7.is (publish_lengths c.args.len)

pub returns-in-8 : goal.returns-in-8
returns-in-8 c = rw c.in-8.is (bye_lengths c.args.len)

pub returns-in-9 : goal.returns-in-9
returns-in-9 c = rw c.in-9.is (λ h. append_length c.args.len, λ h. refl)

pub returns-in-10 : goal.returns-in-10
returns-in-10 c = rw c.in-10.is (changes_ask_lengths c.args.len)

pub returns-in-130 : goal.returns-in-130
returns-in-130 c = rw c.in-130.is (welcome_lengths c.args.len)

pub returns-in-131 : goal.returns-in-131
returns-in-131 c = rw c.in-131.is (hint_part_lengths c.args.len c.is_words_len-in-131.result c.is_words_len-in-131.ensures)

pub returns-in-132 : goal.returns-in-132
returns-in-132 c = rw c.in-132.is (delta_lengths c.args.len c.is_words_len-in-132.result c.is_words_len-in-132.ensures)

pub returns-in-133 : goal.returns-in-133
returns-in-133 c = rw c.in-133.is (answer_lengths c.args.len c.is_words_len-in-133.result c.is_words_len-in-133.ensures)

pub returns-in-134 : goal.returns-in-134
returns-in-134 c = rw c.in-134.is (stale_lengths c.args.len)

pub returns-in-135 : goal.returns-in-135
returns-in-135 c = rw c.in-135.is (done_lengths c.args.len)

pub returns-in-136 : goal.returns-in-136
returns-in-136 c = rw c.in-136.is (no_delta_lengths c.args.len)

pub returns-in-138 : goal.returns-in-138
returns-in-138 c = rw c.in-138.is (changes_lengths c.args.len)

pub returns-in-143 : goal.returns-in-143
returns-in-143 c = rw c.in-143.is (refused_lengths c.args.len)
