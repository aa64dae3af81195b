-- A store after the last publications of a log, and after all of them.
use Rattle.std.proofs.Common.{◌≡◌, ◌∙◌, ℕ, zero, suc, ◌+◌, ◌-◌, ◌≤◌, List, [], ◌∷◌, length, take, drop, ap, arith}
use Rattle.std.proofs.lemmas.List.{length-drop, take-append-drop}
use Rattle.publication_log.specs.Publications.{Published}
use Rattle.publication_log.specs.Logs.{AreNext}
use Rattle.snapshot_file.specs.declared.snapshot.Header.{Header}
use Rattle.version_store.specs.Openings.{held_of}
use Rattle.log_replay.specs.Replays.{replayed_all}
use Rattle.log_replay.specs.Laws.{AreRecordsReplayedAll, LastSixteenSuffice}

-- publications after the first ones follow one another, too
pub next_drop : (n version : ℕ) (ps : List Published) → AreNext version ps → (v : ℕ) × AreNext v (drop n ps)
next_drop zero version ps each = (version, each)
next_drop (suc n) version [] each = (version, each)
next_drop (suc n) version (p ∷ ps) each = next_drop n (version + 1) ps each.2

-- all but the last 16 were made on the records
pub same_store : (h h' : Header) (bytes bytes' : List ℕ) (ps : List Published) (n : ℕ) → LastSixteenSuffice → n ≡ length ps - 16 →
    AreRecordsReplayedAll h bytes (take n ps) h' bytes' → replayed_all (drop n ps) (held_of h' bytes') ≡ replayed_all ps (held_of h bytes)
same_store h h' bytes bytes' ps zero law is made =
    ap (λ (k : Header). replayed_all ps (held_of k bytes')) made.0 ∙ ap (λ (b : List ℕ). replayed_all ps (held_of h b)) made.1
same_store h h' bytes bytes' ps (suc n) law is made =
    law h h' bytes bytes' (take (suc n) ps) (drop (suc n) ps) made (omega (arith, is, length-drop (suc n) ps))
    ∙ ap (λ (xs : List Published). replayed_all xs (held_of h bytes)) (take-append-drop (suc n) ps)
