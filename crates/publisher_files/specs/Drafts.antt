-- The file of a draft.
use Rattle.std.specs.Prelude.{ℕ, replicate}
use Rattle.publication_log.specs.declared.header.LogHeader.{LogHeader}
use Rattle.snapshot_file.specs.declared.snapshot.Snapshot.{Snapshot}

-- what the file of a draft of a version begins with: the form and the public seed of the store, and
-- the version, with zeros for the digest of a snapshot
abbrev pub draft_header : Snapshot → ℕ → LogHeader
draft_header s version = record { form = s.form; digest = replicate 32 0; version = version; seed = s.seed }
