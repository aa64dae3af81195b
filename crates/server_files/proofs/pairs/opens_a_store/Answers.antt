use Rattle.server_files.proofs.pairs.opens_a_store.Goals as goal

pub returns : goal.returns
returns c = record {
  sizes = record {
    form = c.requires.file.accepted.form;
    layout = c.requires.file.accepted.layout;
    low = c.requires.file.accepted.dimension.0;
    high = c.requires.file.accepted.dimension.1;
  };
  version = c.requires.file.accepted.version;
  len = c.requires.file.len;
  slots = c.requires.slots;
}
