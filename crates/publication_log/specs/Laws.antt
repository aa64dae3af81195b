-- Laws of logs.
use Rattle.std.specs.Prelude.{◌≡◌, ◌+◌, ◌<◌, ◌^◌, ℕ, List, [], ◌∷◌, ◌++◌, length, take, Result, Ok}
use Rattle.publication_log.specs.declared.builder.PublicationBuilder.{PublicationBuilder}
use Rattle.publication_log.specs.declared.changes.BodyFault.{BodyFault}
use Rattle.publication_log.specs.declared.header.LogHeader.{LogHeader}
use Rattle.publication_log.specs.declared.reading.BadLog.{BadLog}
use Rattle.publication_log.specs.declared.reading.Found.{Found}
use Rattle.publication_log.specs.Publications.{Published, IsPublished, HasBodyFault, body_bytes}
use Rattle.publication_log.specs.Builders.{IsMadeOf}
use Rattle.publication_log.specs.Entries.{log_entry, next_link, IsTorn}
use Rattle.publication_log.specs.Logs.{log_bytes, end_link, AreNext, IsLogVerdict, IsFound, HasCause}
use Rattle.publication_log.specs.Crashes.{MayFollow}

-- a prefix of torn bytes is torn
abbrev pub TornPrefix : Type 0
TornPrefix = (link rest : List ℕ) (n : ℕ) → IsTorn link rest → IsTorn link (take n rest)

-- no bytes have two verdicts, if one is that they are a good log
abbrev pub OneLogVerdict : Type 0
OneLogVerdict = (h : LogHeader) (bytes : List ℕ) (ps : List Published) (torn : List ℕ) (verdict : Result (List Published × List ℕ) BadLog) →
    IsLogVerdict h bytes (Ok (ps, torn)) → IsLogVerdict h bytes verdict → verdict ≡ Ok (ps, torn)

-- no two publications have the same bytes
abbrev pub OneEncoding : Type 0
OneEncoding = (p q : Published) → IsPublished p → IsPublished q → body_bytes p ≡ body_bytes q → p ≡ q

-- bytes with a fault are no publication's
abbrev pub RefusedIsNone : Type 0
RefusedIsNone = (fault : BodyFault) (body : List ℕ) (p : Published) → HasBodyFault fault body → IsPublished p → body ≡ body_bytes p → ⊥

-- what is known of the end of a log of publications: the last link, the last version, and how many
-- bytes there are
pub record IsEndOf (h : LogHeader) (ps : List Published) (link : List ℕ) (version len : ℕ) : Type 0 where
  pub each : AreNext h.version ps
  pub link_is : link ≡ end_link h ps
  pub version_is : version ≡ h.version + length ps
  pub len_is : len ≡ length (log_bytes h ps)

-- what was found of a log is its end
abbrev pub FoundIsEnd : Type 0
FoundIsEnd = (h : LogHeader) (bytes : List ℕ) (ps : List Published) (found : Found) → IsFound h bytes ps found → IsEndOf h ps found.link found.version found.len

-- An append of what a builder holds, to the end of a log, writes the entry of that publication,
-- which may follow; and what an append that was done leaves is the end of the log with it.
abbrev pub EndGoesOn : Type 0
EndGoesOn = (h : LogHeader) (ps : List Published) (p : Published) (builder : PublicationBuilder) (link : List ℕ) (version len : ℕ) →
    IsEndOf h ps link version len → IsMadeOf builder p → builder.version ≡ version + 1 → builder.version < 2 ^ 64 →
    MayFollow h ps p × (log_entry link builder.body.items ≡ log_entry (end_link h ps) (body_bytes p))
    × IsEndOf h (ps ++ p ∷ []) (next_link link builder.body.items) builder.version (len + length (log_entry link builder.body.items))

-- the bytes of a log of publications that follow its snapshot are read as these and no others, to
-- their end, and nothing is wrong with them
abbrev pub WholeLogIsRead : Type 0
WholeLogIsRead = (h : LogHeader) (ps : List Published) → AreNext h.version ps →
    ((qs : List Published) (found : Found) → IsFound h (log_bytes h ps) qs found → (qs ≡ ps) × (found.len ≡ length (log_bytes h ps)))
    × ((cause : BadLog) → HasCause h cause (log_bytes h ps) → ⊥)
