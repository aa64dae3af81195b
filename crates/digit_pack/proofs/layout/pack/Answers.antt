use Rattle.std.proofs.Common.{◌<◌, ◌≡◌, ◌∙◌, ap, subst, sym, List, ℕ}
use Rattle.std.specs.Prelude.{All}
use Rattle.digit_pack.specs.Digits.{digits_of, number_of}
use Rattle.digit_pack.specs.Layout.{digits_per_record, record_digits}
use Rattle.digit_pack.proofs.RecordLemmas.{small_digits}
use Rattle.digit_pack.proofs.layout.pack.Goals as goal

pub returns-clause-small : goal.returns-clause-small
returns-clause-small c =
    let small : List ℕ → Type 0 = All (λ d. d < 1024) in
    let is : c.pack_bytes.new.out ≡ record_digits c.args.layout.now c.args.bytes.now =
    c.pack_bytes.ensures
    ∙ ap (λ n. digits_of c.width.result n (number_of 8 c.args.bytes.now)) c.requires.room
    ∙ ap (λ w. digits_of w (digits_per_record c.args.layout.now) (number_of 8 c.args.bytes.now)) c.width.ensures.value in
    subst small (sym is) (small_digits c.args.layout.now c.args.bytes.now c.width.ensures.layout)
