use Rattle.std.proofs.Common.{ap, sym, ◌∙◌, ◌≡◌, ◌<◌, ◌^◌, ℕ, length, List, subst}
use Rattle.std.specs.Prelude.{All}
use Rattle.digit_pack.specs.Layout.{digits_per_record}
use Rattle.simple_scheme.proofs.Lists.{kept}
use Rattle.double_scheme.specs.Double.{double_reading}
use Rattle.double_scheme.proofs.Reading.{small_reading, length-reading}
use Rattle.double_scheme.proofs.records.read_all.Goals as goal

pub returns : goal.returns
returns g c =
    let l = c.args.layout.now in
    let hint = c.args.client_hint.now in
    let answer : List ℕ = c.args.answer.now in
    let count : length (double_reading l hint c.args.asked.now.seed.now c.args.asked.now.number answer) ≡ digits_per_record l =
    length-reading l hint c.args.asked.now.seed.now c.args.asked.now.number answer in
    let all = kept c.in_ok-digits.digits c.read_parts.new.out (digits_per_record l) (ap length c.in_ok-read_parts.ensures ∙ count)
    (c.in_ok-digits.ensures.len ∙ c.digits_per_record.ensures.value) ∙ c.in_ok-read_parts.ensures in (
      all,
      subst (All (λ d. d < 2 ^ l.width)) (sym all) (small_reading l hint c.args.asked.now.seed.now c.args.asked.now.number answer c.width-width.ensures.layout),
      ap length all ∙ count,
    )
