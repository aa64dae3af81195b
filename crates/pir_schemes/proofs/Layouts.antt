-- What the test of a layout says, passed on: the proof of `Plan::has_layout` finds these lemmas
-- here.
pub use Rattle.digit_pack.proofs.Layouts.{layout_accepted, layout_means, layout_refused}
