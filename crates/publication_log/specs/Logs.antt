-- The bytes of a log, and what a reader makes of bytes.
use Rattle.std.specs.Prelude.{◌≡◌, ◌≢◌, ◌≤◌, ◌+◌, ℕ, List, [], ◌∷◌, ◌++◌, length, map, take, drop, slice_range, codes, Result, Ok, Err}
use Rattle.hex.specs.Hex.{encode_lower}
use Rattle.sha2.specs.Sha256.{sha256}
use Rattle.publication_log.specs.declared.header.LogHeader.{LogHeader}
use Rattle.publication_log.specs.declared.reading.BadLog.{BadLog}
use Rattle.publication_log.specs.declared.reading.BadLog.TheVariants.{OtherSnapshot, BadBody, BadVersion, Damaged}
use Rattle.publication_log.specs.declared.reading.ChainEnd.{ChainEnd}
use Rattle.publication_log.specs.declared.reading.Found.{Found}
use Rattle.publication_log.specs.declared.reading.Next.{Next}
use Rattle.publication_log.specs.Publications.{Published, IsPublished, log_number_bytes, body_bytes}
use Rattle.publication_log.specs.Entries.{log_entry, chain_bytes, last_link, next_link, IsBody, IsTorn, HasNoEntry, HasLater}

-- the name of the log of a file's snapshot: the first eight bytes of its digest in hex after the
-- file's name
abbrev pub log_name : List ℕ → List ℕ → List ℕ
log_name file digest = file ++ (codes ".log-" ++ encode_lower (take 8 digest))

-- the magic in ASCII, the form, the snapshot's digest, its version, its public seed
unfoldable pub log_header_bytes : LogHeader → List ℕ
log_header_bytes h = codes "PIRLOG01" ++ (h.form ∷ []) ++ h.digest ++ log_number_bytes 8 h.version ++ h.seed

-- the link before the first entry
abbrev pub first_link : LogHeader → List ℕ
first_link h = sha256 (log_header_bytes h)

-- the bodies of publications
abbrev pub bodies_of : List Published → List (List ℕ)
bodies_of = map body_bytes

-- the link after the last of these publications
abbrev pub end_link : LogHeader → List Published → List ℕ
end_link h ps = last_link (first_link h) (bodies_of ps)

-- a log of these publications
abbrev pub log_bytes : LogHeader → List Published → List ℕ
log_bytes h ps = log_header_bytes h ++ chain_bytes (first_link h) (bodies_of ps)

-- publications whose versions follow one another, the first this version
abbrev pub AreNext : ℕ → List Published → Type 0
AreNext version [] = Unit {0}
AreNext version (p ∷ ps) = IsPublished p × (p.version ≡ version + 1) × AreNext (version + 1) ps

-- a log of these publications, and bytes after it
pub record BeginsWithLog (h : LogHeader) (bytes : List ℕ) (ps : List Published) (rest : List ℕ) : Type 0 where
  pub whole : bytes ≡ log_bytes h ps ++ rest
  pub each : AreNext h.version ps

-- a log of these publications, and a torn end
pub record ReadsLog (h : LogHeader) (bytes : List ℕ) (ps : List Published) (rest : List ℕ) : Type 0 where
  pub begins : BeginsWithLog h bytes ps rest
  pub torn : IsTorn (end_link h ps) rest

-- what is wrong with bytes after a log, by the link and the version of its end
abbrev pub StopsBy : List ℕ → ℕ → BadLog → List ℕ → Type 0
StopsBy link version OtherSnapshot rest = ⊥
StopsBy link version BadBody rest = (body : List ℕ) × (more : List ℕ) × IsBody body × (rest ≡ log_entry link body ++ more) × ((p : Published) → IsPublished p → body ≡ body_bytes p → ⊥)
StopsBy link version BadVersion rest = (p : Published) × (more : List ℕ) × IsPublished p × (rest ≡ log_entry link (body_bytes p) ++ more) × (p.version ≢ version + 1)
StopsBy link version Damaged rest = HasNoEntry link rest × HasLater link rest

-- a log of some publications, and after it what is wrong
abbrev pub IsLogWithFault : LogHeader → BadLog → List ℕ → Type 0
IsLogWithFault h cause bytes = (ps : List Published) × (rest : List ℕ) × BeginsWithLog h bytes ps rest × StopsBy (end_link h ps) (h.version + length ps) cause rest

-- what is wrong with a log
abbrev pub HasCause : LogHeader → BadLog → List ℕ → Type 0
HasCause h OtherSnapshot bytes = (rest : List ℕ) → bytes ≡ log_header_bytes h ++ rest → ⊥
HasCause h BadBody bytes = IsLogWithFault h BadBody bytes
HasCause h BadVersion bytes = IsLogWithFault h BadVersion bytes
HasCause h Damaged bytes = IsLogWithFault h Damaged bytes

-- what bytes are: a log with its publications and its torn end, or no good log
abbrev pub IsLogVerdict : LogHeader → List ℕ → Result (List Published × List ℕ) BadLog → Type 0
IsLogVerdict h bytes (Ok found) = ReadsLog h bytes found.0 found.1
IsLogVerdict h bytes (Err cause) = HasCause h cause bytes

-- a log was read as these publications, whose entries are from the start to the end that were found
pub record IsFound (h : LogHeader) (bytes : List ℕ) (ps : List Published) (found : Found) : Type 0 where
  pub reads : ReadsLog h bytes ps (drop found.len bytes)
  pub entries : slice_range bytes found.start found.len ≡ chain_bytes (first_link h) (bodies_of ps)
  pub order : found.start ≤ found.len
  pub within : found.len ≤ length bytes
  pub version : found.version ≡ h.version + length ps
  pub link : found.link ≡ end_link h ps

-- the entries after a link and a version were read as these publications
pub record AreRead (first : List ℕ) (before : ℕ) (bytes : List ℕ) (ps : List Published) (ends : ChainEnd) : Type 0 where
  pub whole : bytes ≡ chain_bytes first (bodies_of ps) ++ drop ends.len bytes
  pub each : AreNext before ps
  pub torn : IsTorn (last_link first (bodies_of ps)) (drop ends.len bytes)
  pub within : ends.len ≤ length bytes
  pub version : ends.version ≡ before + length ps
  pub link : ends.link ≡ last_link first (bodies_of ps)

-- the entry of a publication is at the start, after a link and a version, and this was found of it
pub record IsNextEntry (last : List ℕ) (before : ℕ) (bytes : List ℕ) (p : Published) (next : Next) : Type 0 where
  pub each : IsPublished p
  pub follows : p.version ≡ before + 1
  pub version : next.version ≡ before + 1
  pub link : next.link.now ≡ next_link last (body_bytes p)
  pub count : length next.link.now ≡ 32
  pub whole : bytes ≡ log_entry last (body_bytes p) ++ next.rest.now
