use Rattle.std.proofs.Common.{◌≡◌, ◌∙◌, ◌++◌, List, ℕ, [], sym, ap, subst, append_assoc, rules}
use Rattle.std.specs.Io.KnownBytes.{Appends}
use Rattle.std.proofs.KnownBytes.{Appends-trans}
use Rattle.std.proofs.lemmas.List.{nil_from_length}
use Rattle.frame_codec.specs.Numbers.{word_bytes}
use Rattle.frame_codec.proofs.NumberBytes.{words_none}
use Rattle.hint_file.proofs.WordParts.{words_cut}
use Rattle.hint_file.proofs.hints.write_words.Goals as goal

pub loop-rest-preserved : goal.loop-rest-preserved
loop-rest-preserved g c =
    let (done, whole, written) = c.loop-rest.invariant in
    let part : c.deref.result.now ≡ word_bytes c.split_at.result.0.now = search rules in
    let cut : word_bytes c.loop-rest.rest.now ≡ c.deref.result.now ++ word_bytes c.split_at.result.1.now =
    words_cut c.loop-rest.rest.now c.split_at.result.0.now c.split_at.result.1.now c.deref.result.now _ c.split_at.ensures.front c.split_at.ensures.back part in
    let one : Appends (g.W.Write.contents c.loop-rest.writer) (g.W.Write.contents c.write_all.new.self) c.deref.result.now = search rules in (
      done ++ c.deref.result.now,
      whole ∙ ap (λ (x : List ℕ). done ++ x) cut ∙ sym (append_assoc done c.deref.result.now (word_bytes c.split_at.result.1.now)),
      Appends-trans _ _ _ _ _ written one,
    )

pub returns : goal.returns
returns g c =
    let (done, whole, written) = c.loop-rest.invariant in
    let none : c.loop-rest.rest.now ≡ [] = nil_from_length c.loop-rest.rest.now (search rules) in
    let all : done ≡ word_bytes c.args.words.now = sym (words_none done) ∙ ap (λ (x : List ℕ). done ++ word_bytes x) (sym none) ∙ sym whole in
    subst (Appends _ _) all written
