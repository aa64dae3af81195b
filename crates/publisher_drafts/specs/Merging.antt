-- The changes of a draft's entries, merged: for each place the last one.
use Rattle.std.specs.Prelude.{◌≡◌, ◌+◌, ◌==◌, ◌&&◌, ℕ, List, [], ◌∷◌, map, nat_lt, if◌then◌else◌, Bool, true}
use Rattle.std.specs.declared.vec.Vec.{Vec}
use Rattle.std.specs.declared.alloc.Global.{Global}
use Rattle.pir_schemes.specs.declared.plan.Plan.{Plan}
use Rattle.publication_log.specs.Publications.{Placed, Published}
use Rattle.log_replay.specs.Replays.{are_changes_of, count_after_all, records_replayed}

-- the changes in a map's entries
abbrev pub changes_of_map : List (ℕ × Vec ℕ Global) → List Placed
changes_of_map entries = map (λ e. record { place = e.0; bytes = e.1.items }) entries

-- changes by ascending place with one more, in place of the one at its place
abbrev pub merged_change : Placed → List Placed → List Placed
merged_change c [] = c ∷ []
merged_change c (d ∷ ds) = if nat_lt c.place d.place then c ∷ d ∷ ds else if c.place == d.place then c ∷ ds else d ∷ merged_change c ds

-- changes with those of an entry, one after another
abbrev pub merged : List Placed → List Placed → List Placed
merged cs [] = cs
merged cs (d ∷ ds) = merged (merged_change d cs) ds

-- changes with those of entries, one after another
abbrev pub merged_all : List Placed → List Published → List Placed
merged_all cs [] = cs
merged_all cs (p ∷ ps) = merged_all (merged cs p.changes) ps

-- how many records there are after entries, one after another
abbrev pub count_after_entries : ℕ → List Published → ℕ
count_after_entries count [] = count
count_after_entries count (p ∷ ps) = count_after_entries (count_after_all count p.changes) ps

-- whether entries can be made to so many records, one after another
abbrev pub are_entries_of : Plan → ℕ → List Published → Bool
are_entries_of plan count [] = true
are_entries_of plan count (p ∷ ps) = are_changes_of plan count p.changes && are_entries_of plan (count_after_all count p.changes) ps

-- the records after entries, one after another
abbrev pub records_after_entries : List (List ℕ) → List Published → List (List ℕ)
records_after_entries records [] = records
records_after_entries records (p ∷ ps) = records_after_entries (records_replayed records p.changes) ps
