use Rattle.std.proofs.Common.{◌≡◌, ◌<◌, ◌++◌, ◌∙◌, ℕ, List, [], length, take, sym, ap, append_assoc, rules}
use Rattle.std.proofs.lemmas.List.{nil_from_length}
use Rattle.sha2.specs.Sha256.{sha256}
use Rattle.hint_file.specs.Files.{part_digests}
use Rattle.hint_file.proofs.PartDigests.{digests_more, digests_none}
use Rattle.hint_file.proofs.digests.digests_of.Goals as goal

pub loop-rest-preserved : goal.loop-rest-preserved
loop-rest-preserved c =
    let rest : List ℕ = c.loop-rest.rest.now in
    let some : 0 < length c.loop-rest.rest.now = search rules in
    let out : List ℕ = c.loop-rest.digests.items in
    let here : c.digest_of.result ≡ sha256 (take c.min.result c.loop-rest.rest.now) = c.digest_of.ensures ∙ ap sha256 c.split_at.ensures.front in
    ap (λ (x : List ℕ). x ++ part_digests c.split_at.result.1.now) c.in_ok-extend_from_slice.ensures.items
    ∙ append_assoc out c.digest_of.result (part_digests c.split_at.result.1.now)
    ∙ ap (λ (x : List ℕ). out ++ (x ++ part_digests c.split_at.result.1.now)) here
    ∙ ap (λ (x : List ℕ). out ++ (sha256 (take c.min.result c.loop-rest.rest.now) ++ part_digests x)) c.split_at.ensures.back
    ∙ ap (λ (x : List ℕ). out ++ x) (digests_more c.loop-rest.rest.now c.min.result some c.min.ensures)
    ∙ c.loop-rest.invariant

pub returns : goal.returns
returns c =
    let none : c.loop-rest.rest.now ≡ [] = nil_from_length c.loop-rest.rest.now (search rules) in
    sym (digests_none c.loop-rest.digests.items c.loop-rest.rest.now none) ∙ c.loop-rest.invariant
