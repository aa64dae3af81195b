use Rattle.server_core.specs.Serving.{hint_words, setting_of}
use Rattle.server_core.proofs.Hints.{part_none, part_some, part_is, part_few}
use Rattle.server_core.proofs.replies.part_of_hint.Goals as goal

pub returns-clause-none : goal.returns-clause-none
unfolding hint_words
returns-clause-none g c = part_none (setting_of c.args.store.now) c.args.scheme c.args.store.now.edition.records c.args.part c.hint_words.result
    c.hint_words.ensures.none

pub returns-clause-some : goal.returns-clause-some
unfolding hint_words
returns-clause-some g c = part_some (setting_of c.args.store.now) c.args.scheme c.args.store.now.edition.records c.args.part c.hint_words.result
    c.hint_words.ensures.none

pub returns-clause-words : goal.returns-clause-words
unfolding hint_words
returns-clause-words g c =
    part_is (setting_of c.args.store.now) c.args.scheme c.args.store.now.edition.records c.args.part c.hint_words.result c.hint_words.ensures.words

pub returns-clause-few : goal.returns-clause-few
unfolding hint_words
returns-clause-few g c = part_few (hint_words (setting_of c.args.store.now) c.args.scheme c.args.store.now.edition.records) c.args.part c.hint_words.result
    c.hint_words.ensures.words
