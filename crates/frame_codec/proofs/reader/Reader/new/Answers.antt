use Rattle.std.proofs.Common.{true, sym, subst}
use Rattle.frame_codec.specs.Streams.{IsPartial}
use Rattle.frame_codec.proofs.Prefixes.{nothing_partial}
use Rattle.frame_codec.proofs.reader.Reader.new.Goals as goal

pub invariant_of-result : goal.invariant_of-result
invariant_of-result c = (λ e. subst (IsPartial true) (sym c.new.ensures.items) (nothing_partial true), λ e. c.new.ensures.capacity)
