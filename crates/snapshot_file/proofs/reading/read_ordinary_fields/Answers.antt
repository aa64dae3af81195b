use Rattle.snapshot_file.proofs.Readings.{ordinary_header}
use Rattle.snapshot_file.proofs.reading.read_ordinary_fields.Goals as goal

pub returns-clause-ok : goal.returns-clause-ok
returns-clause-ok g c = (
  c.in_ok-fields.fields,
  c.header_in.ensures.header,
  ordinary_header c.args.form c.in_ok-fields.fields _ c.requires c.header_in.ensures.bytes,
  c.in_ok-fields.ensures.ok.1,
)
