use Rattle.std.proofs.Common.{◌≡◌, ◌<◌, ◌∙◌, [], length, sym, rules}
use Rattle.std.proofs.lemmas.List.{nil_from_length}
use Rattle.frame_codec.specs.Numbers.{word_bytes}
use Rattle.hint_file.proofs.WordParts.{digests_on_words, digests_of_none}
use Rattle.hint_file.proofs.digests.digests_of_words.Goals as goal

pub loop-rest-preserved : goal.loop-rest-preserved
loop-rest-preserved c =
    let some : 0 < length c.loop-rest.rest.now = search rules in
    let bytes : c.deref.result.now ≡ word_bytes c.split_at.result.0.now = search rules in
    digests_on_words c.loop-rest.rest.now c.split_at.result.0.now c.split_at.result.1.now c.deref.result.now c.loop-rest.digests.items c.digest_of.result _ _
    some c.min-in-loop-rest.ensures c.split_at.ensures.front c.split_at.ensures.back bytes c.digest_of.ensures c.in_ok-extend_from_slice.ensures.items
    ∙ c.loop-rest.invariant

pub returns : goal.returns
returns c =
    let none : c.loop-rest.rest.now ≡ [] = nil_from_length c.loop-rest.rest.now (search rules) in
    sym (digests_of_none c.loop-rest.digests.items c.loop-rest.rest.now none) ∙ c.loop-rest.invariant
