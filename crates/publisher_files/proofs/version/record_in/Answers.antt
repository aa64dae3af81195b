use Rattle.std.proofs.Common.{◌≡◌, ◌∙◌, ap, List, ℕ}
use Rattle.digit_pack.specs.Layout.{Shape}
use Rattle.pir_schemes.specs.Plans.{shape_at, content, is_slot_of}
use Rattle.snapshot_file.specs.Snapshots.{header_of}
use Rattle.publisher_files.proofs.Reading.{is_slot_there, content_is}
use Rattle.publisher_files.proofs.version.record_in.Goals as goal

pub content-requires : goal.content-requires
content-requires c =
    let sizes = (rw c.unwrap-layout.ensures at c.layout.ensures.accepted).0 in
    ap (is_slot_of c.plan_in-plan.result) c.nth_record.ensures.value
    ∙ is_slot_there (header_of c.args.snapshot.now) c.args.snapshot.now.records.items c.deref.result.now c.plan_in-plan.result c.unwrap-layout.result c.args.i
    c.plan_in-plan.ensures sizes c.deref.ensures.value c.requires.index c.requires.sound.slots

pub returns : goal.returns
returns c =
    let sizes = (rw c.unwrap-layout.ensures at c.layout.ensures.accepted).0 in
    c.content.ensures
    ∙ ap (content c.plan_in-plan.result) c.nth_record.ensures.value
    ∙ content_is (header_of c.args.snapshot.now) c.args.snapshot.now.records.items c.deref.result.now c.plan_in-plan.result c.unwrap-layout.result c.args.i
    c.plan_in-plan.ensures sizes c.deref.ensures.value c.requires.index
