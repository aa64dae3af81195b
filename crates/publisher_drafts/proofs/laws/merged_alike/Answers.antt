use Rattle.std.proofs.Common.{refl, []}
use Rattle.publisher_drafts.proofs.Merges.{makes_entries}
use Rattle.publisher_drafts.proofs.laws.merged_alike.Goals as goal

pub returns : goal.returns
returns c = λ plan records ps all.
    let so = makes_entries plan records [] records ps (record { each = tt; made = refl; are = refl }) all in
    (so.made, so.are)
