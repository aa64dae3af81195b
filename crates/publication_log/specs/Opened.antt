-- What was opened of a log.
use Rattle.std.specs.Prelude.{◌≡◌, ℕ, List, slice_range, false}
use Rattle.publication_log.specs.declared.header.LogHeader.{LogHeader}
use Rattle.publication_log.specs.declared.opened.OpenedLog.{OpenedLog}
use Rattle.publication_log.specs.declared.opened.ReadLog.{ReadLog}
use Rattle.publication_log.specs.declared.log.Log.{Log}
use Rattle.publication_log.specs.declared.log.LogEnd.{LogEnd}
use Rattle.publication_log.specs.declared.reading.Found.{Found}
use Rattle.publication_log.specs.Publications.{Published}
use Rattle.publication_log.specs.Entries.{chain_bytes}
use Rattle.publication_log.specs.Laws.{IsEndOf}
use Rattle.publication_log.specs.Logs.{first_link, bodies_of, AreNext}

-- the entries of a log's bytes, by what was found of it
abbrev pub entries_in : List ℕ → Found → List ℕ
entries_in bytes found = slice_range bytes found.start found.len

-- the entries that are handed out of a log that was read
abbrev pub entries_of : ReadLog → List ℕ
entries_of read = entries_in read.bytes.items read.found

-- the end of a log
abbrev pub end_of : {D : Type 0} → Log D → LogEnd
end_of log = record { link = log.link; version = log.version; len = log.len }

-- Whatever the file holds: what is handed out are the entries of publications that follow the
-- snapshot's version one after another.
pub record IsReadLog (h : LogHeader) (ps : List Published) (read : ReadLog) : Type 0 where
  pub each : AreNext h.version ps
  pub entries : entries_of read ≡ chain_bytes (first_link h) (bodies_of ps)

-- a log that was read as these publications, after which the next one is appended, and at whose end
-- a failed append is cut off
pub record IsOpenedLog {F : Type 0} (h : LogHeader) (ps : List Published) (opened : OpenedLog F) : Type 0 where
  pub read : IsReadLog h ps opened.read
  pub ends : IsEndOf h ps opened.log.link opened.log.version opened.log.len
  pub untorn : opened.log.is_torn ≡ false
