use Rattle.std.proofs.Common.{refl}
use Rattle.service_watch.proofs.Zeros.{nothing}
use Rattle.service_watch.proofs.histograms.Histogram.new.Goals as goal

pub returns : goal.returns
returns c = record { bins_are = refl; each = λ k within. nothing 13 k; total_is = refl }
