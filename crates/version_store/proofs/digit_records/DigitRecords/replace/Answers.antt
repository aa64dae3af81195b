use Rattle.std.proofs.Common.{◌≡◌, ◌∙◌, ◌*◌, ◌<◌, ◌^◌, ap, sym, subst, All, length}
use Rattle.std.specs.Prelude.{slice_set}
use Rattle.std.proofs.lemmas.List.Elements.{All-from_get_or}
use Rattle.digit_pack.specs.Layout.{records_in}
use Rattle.version_store.specs.KeptRecords.{KeptRecords, bytes_in_digits}
use Rattle.version_store.proofs.KeptDigits.{kept_with, len_with, put_with}
use Rattle.version_store.proofs.digit_records.DigitRecords.replace.Goals as goal

module _ (c : goal.After-write_place) where
  below : c.args.i < c.self.inside.layout.count
  below = subst (λ (v : KeptRecords). c.args.i < v.shape.count) (sym c.self.view_is) c.requires.index

  size : length c.args.bytes.now ≡ c.self.inside.layout.record_len
  size = c.requires.len ∙ ap (λ (v : KeptRecords). v.shape.record_len) (sym c.self.view_is)

  whole : length (bytes_in_digits c.self.inside.layout c.self.inside.taken c.self.inside.digits)
      ≡ c.self.inside.layout.count * c.self.inside.layout.record_len
  whole = subst (λ (v : KeptRecords). length v.bytes ≡ v.shape.count * v.shape.record_len) (sym c.self.view_is) c.requires.whole

  small : All (λ x. x < 2 ^ 8) c.args.bytes.now
  small = All-from_get_or (λ x. x < 2 ^ 8) c.args.bytes.now 0 (λ i _. (c.type_inv.bytes i).fits)

pub invariant_of-self : goal.invariant_of-self
invariant_of-self c =
    kept_with c.self.inside.layout c.self.inside.taken c.self.inside.digits c.self.invariant c.args.bytes.now c.write_place.new.digits c.args.i (below c)
    (size c) (small c) (whole c) c.write_place.ensures

pub returns-clause-same_len : goal.returns-clause-same_len
returns-clause-same_len c =
    len_with c.self.inside.layout c.self.inside.taken c.self.inside.digits c.self.invariant c.args.bytes.now c.write_place.new.digits c.args.i (below c)
    (size c) (small c) (whole c) c.write_place.ensures
    ∙ ap (λ (v : KeptRecords). length v.bytes) c.self.view_is

pub returns-clause-records : goal.returns-clause-records
returns-clause-records c =
    put_with c.self.inside.layout c.self.inside.taken c.self.inside.digits c.self.invariant c.args.bytes.now c.write_place.new.digits c.args.i (below c)
    (size c) (small c) (whole c) c.write_place.ensures
    ∙ ap (λ (v : KeptRecords). slice_set (records_in v.shape v.bytes) c.args.i c.args.bytes.now) c.self.view_is
