-- The end of a log, found and moved on.
use Rattle.std.proofs.Common.{◌≡◌, ℕ, ◌+◌, ◌^◌, ◌<◌, List, [], ◌∷◌, ◌++◌, length, drop, refl, sym, ap, subst, ◌∙◌, arith}
use Rattle.std.proofs.lemmas.List.{length-append, length-drop}
use Rattle.publication_log.specs.Publications.{Published, IsPublished, body_bytes}
use Rattle.publication_log.specs.Entries.{log_entry, next_link}
use Rattle.publication_log.specs.Logs.{log_bytes, end_link, bodies_of}
use Rattle.publication_log.specs.Laws.{IsEndOf, FoundIsEnd, EndGoesOn}
use Rattle.publication_log.proofs.Chains.{last_push, length_push, next_push}
use Rattle.publication_log.proofs.Verdicts.{log_push}

pub found_is_end : FoundIsEnd
found_is_end h bytes ps found is = record {
  each = is.reads.begins.each;
  link_is = is.link;
  version_is = is.version;
  len_is = omega (arith, ap length is.reads.begins.whole, length-append (log_bytes h ps) (drop found.len bytes), length-drop found.len bytes, is.within);
}

pub end_goes_on : EndGoesOn
end_goes_on h ps p builder link version len ends made follows fits =
    let same : log_entry link builder.body.items ≡ log_entry (end_link h ps) (body_bytes p) =
    ap (λ (x : List ℕ). log_entry x builder.body.items) ends.link_is ∙ ap (log_entry (end_link h ps)) made.body in
    let version_of : p.version ≡ h.version + length ps + 1 = sym made.version ∙ follows ∙ ap (λ (n : ℕ). n + 1) ends.version_is in
    let small : length builder.body.items < 2 ^ 32 = subst (λ (n : ℕ). n < 2 ^ 32) builder.body.ok.0 builder.small in
    let is : IsPublished p = record {
      version = subst (λ (n : ℕ). n < 2 ^ 64) made.version fits;
      changes = made.each;
      len = subst (λ (x : List ℕ). length x < 2 ^ 32) made.body small;
    } in
    let all = next_push h.version ps p ends.each is version_of in (
      all,
      same,
      record {
        each = all;
        link_is = ap (λ (x : List ℕ). next_link x builder.body.items) ends.link_is ∙ ap (next_link (end_link h ps)) made.body ∙ sym (last_push _ ps p);
        version_is = made.version ∙ omega (arith, version_of, length_push ps p);
        len_is = omega (arith, ends.len_is, ap length same, ap length (log_push h ps p), length-append (log_bytes h ps) (log_entry (end_link h ps) (body_bytes p)));
      },
    )
