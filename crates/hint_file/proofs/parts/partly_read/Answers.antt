use Rattle.std.proofs.Common.{◌-◌, ◌*◌, min, arith}
use Rattle.hint_file.specs.Reading.{words_of}
use Rattle.hint_file.proofs.parts.partly_read.Goals as goal

pub words_among_zeros-requires : goal.words_among_zeros-requires
words_among_zeros-requires c =
    let p = c.requires.parts in (
      min (65536 * c.args.span.end) (words_of c.args.head.now.fields) - 65536 * c.args.span.first,
      omega (arith, p.count, p.parts.start),
      omega (arith, p.parts.start),
    )
