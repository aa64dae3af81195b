-- Publications that are made on a snapshot's records, one after another.
use Rattle.std.proofs.Common.{◌≡◌, ◌∙◌, ℕ, ◌+◌, ◌≤◌, List, [], ◌∷◌, ◌++◌, length, take, refl, sym, ap, subst, arith, append_assoc, append-nil}
use Rattle.std.proofs.lemmas.List.{take_at, take_all}
use Rattle.publication_log.specs.declared.changes.Publication.{Publication}
use Rattle.publication_log.specs.Publications.{Published}
use Rattle.snapshot_file.specs.declared.snapshot.Header.{Header}
use Rattle.log_replay.specs.Records.{AreRecordsReplayed}
use Rattle.log_replay.specs.Laws.{AreRecordsReplayedAll}
use Rattle.log_replay.proofs.ReplayLemmas.{HasEntries, SplitsEntries}

-- one more
replayed_push : (h m h' : Header) (bytes between bytes' : List ℕ) (ps : List Published) (p : Published) → AreRecordsReplayedAll h bytes ps m between →
    AreRecordsReplayed m between p h' bytes' → AreRecordsReplayedAll h bytes (ps ++ p ∷ []) h' bytes'
replayed_push h m h' bytes between bytes' [] p before last =
    let first : AreRecordsReplayed h bytes p h' bytes' =
    subst (λ (b : List ℕ). AreRecordsReplayed h b p h' bytes') before.1 (subst (λ (k : Header). AreRecordsReplayed k between p h' bytes') before.0 last) in
    (h', bytes', first, (refl, refl))
replayed_push h m h' bytes between bytes' (q ∷ qs) p (k, b, first, rest) last =
    (k, b, first, replayed_push k m h' b between bytes' qs p rest last)

-- so many publications were made on the records, and the bytes that are left are the entries of the
-- others
pub record AreMade (h : Header) (bytes : List ℕ) (ps : List Published) (n : ℕ) (h' : Header) (bytes' rest : List ℕ) : Type 0 where
  pub done : List Published
  pub left : List Published
  pub all : ps ≡ done ++ left
  pub count : length done ≡ n
  pub entries : HasEntries rest left
  pub made : AreRecordsReplayedAll h bytes done h' bytes'

pub none_made : (h : Header) (bytes : List ℕ) (ps : List Published) (rest : List ℕ) → HasEntries rest ps → AreMade h bytes ps 0 h bytes rest
none_made h bytes ps rest has = record { done = []; left = ps; all = refl; count = refl; entries = has; made = (refl, refl) }

length_push : (ps : List Published) (p : Published) → length (ps ++ p ∷ []) ≡ length ps + 1
length_push [] p = refl
length_push (q ∷ qs) p = omega (arith, length_push qs p)

pub one_made : (h m h' : Header) (bytes between bytes' rest more : List ℕ) (ps : List Published) (n : ℕ) (publication : Publication)
    (before : AreMade h bytes ps n m between rest) (split : SplitsEntries before.left publication more) → AreRecordsReplayed m between split.first h' bytes' →
    AreMade h bytes ps (n + 1) h' bytes' more
one_made h m h' bytes between bytes' rest more ps n publication before split last = record {
  done = before.done ++ split.first ∷ [];
  left = split.others;
  all = before.all ∙ ap (λ (xs : List Published). before.done ++ xs) split.all ∙ sym (append_assoc before.done (split.first ∷ []) split.others);
  count = omega (arith, length_push before.done split.first, before.count);
  entries = split.others_are;
  made = replayed_push h m h' bytes between bytes' before.done split.first before.made last;
}

pub first_made : (h h' : Header) (bytes bytes' rest : List ℕ) (ps : List Published) (n : ℕ) → AreMade h bytes ps n h' bytes' rest →
    AreRecordsReplayedAll h bytes (take n ps) h' bytes'
first_made h h' bytes bytes' rest ps n made =
    subst (λ (xs : List Published). AreRecordsReplayedAll h bytes xs h' bytes') (sym (ap (take n) made.all ∙ take_at made.done made.left n made.count)) made.made

pub all_made : (h h' : Header) (bytes bytes' rest : List ℕ) (ps : List Published) (k n : ℕ) (made : AreMade h bytes ps k h' bytes' rest) → k ≤ n → made.left ≡ [] →
    AreRecordsReplayedAll h bytes (take n ps) h' bytes'
all_made h h' bytes bytes' rest ps k n made le none =
    let all : ps ≡ made.done = made.all ∙ ap (λ (xs : List Published). made.done ++ xs) none ∙ append-nil made.done in
    subst (λ (xs : List Published). AreRecordsReplayedAll h bytes xs h' bytes')
    (sym (take_all n ps (omega (arith, le, made.count, ap (λ (xs : List Published). length xs) all)) ∙ all)) made.made
