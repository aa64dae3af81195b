-- Snapshots that are made of records.
use Rattle.std.specs.Prelude.{ℕ, ◌+◌, ◌%◌, if◌then◌else◌}
use Rattle.sha2.specs.Sha256.{sha256}
use Rattle.snapshot_file.specs.declared.snapshot.Header.{Header}
use Rattle.server_words.specs.declared.make_line.Making.{Making}
use Rattle.server_commands.specs.declared.making.Keys.{Keys}

-- the fields of version 1 of so many records: the form, or the wide one of it; secrets of 1024
-- words; and the digest of the publisher's key
abbrev pub header_made : Making → Keys → ℕ → Header
header_made making keys count = record {
  form = if making.wide then (making.form + 128) % 256 else making.form;
  width = making.width;
  record_len = making.record_len;
  groups = making.groups;
  count = count;
  dimension = 1024;
  version = 1;
  seed = keys.seed;
  publisher = sha256 keys.publisher;
}
