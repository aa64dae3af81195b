-- What a store keeps after publications of a log.
use Rattle.std.proofs.Common.{◌≡◌, ℕ, ◌+◌, ap, ◌∙◌, sym, refl, subst, List, [], ◌∷◌, length, true, false}
use Rattle.std.specs.Prelude.{◌&&◌}
use Rattle.publication_log.specs.declared.changes.Publication.{Publication}
use Rattle.publication_log.specs.Publications.{Published, IsPublished, changes_bytes, body_bytes}
use Rattle.publication_log.specs.Entries.{chain_bytes, next_link}
use Rattle.publication_log.specs.Logs.{bodies_of, AreNext}
use Rattle.version_store.specs.Histories.{StoreState, History, StandsFor, held_after, held_published, history_after, published}
use Rattle.version_store.proofs.HistoryLemmas.{run_stands, publish_stands}
use Rattle.log_replay.specs.Replays.{IsPublicationOf, edits_and_appends, replayed, history_replayed, replayed_all, history_replayed_all, is_next_of, are_next_of, HasNoDraft}

-- a history goes on by a publication as the store does
pub replayed_stands : (old new : StoreState) (p : Published) → new ≡ replayed p old → (h : History) → StandsFor old h → StandsFor new (history_replayed p h)
replayed_stands old new p e h stands =
    let changes = edits_and_appends (length old.draft) p.changes in
    subst (λ (n : ℕ). StandsFor new (published (history_after (edits_and_appends n p.changes) h))) (sym (ap (λ (d : List (List ℕ)). length d) stands.draft))
    (publish_stands (held_after changes old) new e (history_after changes h) (run_stands changes old h stands))

pub all_stand : (ps : List Published) (old : StoreState) (h : History) → StandsFor old h → StandsFor (replayed_all ps old) (history_replayed_all ps h)
all_stand [] old h stands = stands
all_stand (p ∷ ps) old h stands = all_stand ps (replayed p old) (history_replayed p h) (replayed_stands old (replayed p old) p refl h stands)

-- ---- publications that are read one after another

-- bytes that are the entries of publications whose versions follow one another
pub record HasEntries (bytes : List ℕ) (ps : List Published) : Type 0 where
  pub link : List ℕ
  pub version : ℕ
  pub each : AreNext version ps
  pub bytes_are : bytes ≡ chain_bytes link (bodies_of ps)

-- the first of the publications whose entries bytes have, as it was read, and the others
pub record SplitsEntries (ps : List Published) (publication : Publication) (rest : List ℕ) : Type 0 where
  pub first : Published
  pub others : List Published
  pub all : ps ≡ first ∷ others
  pub first_is : IsPublicationOf publication first
  pub others_are : HasEntries rest others

pub splits_entries : (bytes : List ℕ) (ps : List Published) (publication : Publication) (rest : List ℕ) → HasEntries bytes ps →
    ((link : List ℕ) (p : Published) (others : List Published) → IsPublished p → bytes ≡ chain_bytes link (bodies_of (p ∷ others)) →
    (publication.version ≡ p.version) × (publication.changes.rest.now ≡ changes_bytes p.changes)
    × (rest ≡ chain_bytes (next_link link (body_bytes p)) (bodies_of others))) →
    (bytes ≡ [] → ⊥) → SplitsEntries ps publication rest
splits_entries bytes [] publication rest has some none = absurd (none has.bytes_are)
splits_entries bytes (p ∷ ps) publication rest has some none =
    let found = some has.link p ps has.each.0 has.bytes_are in
    record {
      first = p;
      others = ps;
      all = refl;
      first_is = record { each = has.each.0; version = found.0; changes = found.1 };
      others_are = record { link = next_link has.link (body_bytes p); version = has.version + 1; each = has.each.2; bytes_are = found.2 };
    }

pub no_entry_left : (bytes : List ℕ) (ps : List Published) → HasEntries bytes ps →
    ((link : List ℕ) (p : Published) (others : List Published) → IsPublished p → bytes ≡ chain_bytes link (bodies_of (p ∷ others)) → ⊥) → ps ≡ []
no_entry_left bytes [] has none = refl
no_entry_left bytes (p ∷ ps) has none = absurd (none has.link p ps has.each.0 has.bytes_are)

-- ---- the first publication, and the others

pub first_follows : (s : StoreState) (p : Published) (ps : List Published) → is_next_of s p ≡ true → are_next_of s (p ∷ ps) ≡ are_next_of (replayed p s) ps
first_follows s p ps next = ap (λ b. b && are_next_of (replayed p s) ps) next

pub first_refused : (s : StoreState) (p : Published) (ps : List Published) → is_next_of s p ≡ false → are_next_of s (p ∷ ps) ≡ false
first_refused s p ps other = ap (λ b. b && are_next_of (replayed p s) ps) other

pub no_draft_left : (s new : StoreState) → new ≡ held_published s → HasNoDraft new
no_draft_left s new e = record {
  unmarked = ap (λ (t : StoreState). t.marked) e;
  draft = ap (λ (t : StoreState). t.draft) e ∙ sym (ap (λ (t : StoreState). t.edition.records) e);
}
