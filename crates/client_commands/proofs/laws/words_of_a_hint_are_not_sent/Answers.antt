use Rattle.client_commands.proofs.HintWords.{words_of_a_hint_are_not_sent}
use Rattle.client_commands.proofs.laws.words_of_a_hint_are_not_sent.Goals as goal

pub returns : goal.returns
returns c = words_of_a_hint_are_not_sent
