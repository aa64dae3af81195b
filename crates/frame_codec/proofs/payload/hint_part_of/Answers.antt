use Rattle.std.proofs.Common.{◌≡◌, length, ◌-◌, ◌/◌, arith, rules, ◌∙◌, drop}
use Rattle.std.proofs.lemmas.List.{take_rest, length-drop}
use Rattle.frame_codec.specs.Numbers.{number_in, word_bytes}
use Rattle.frame_codec.proofs.Payloads.{no_stands, has_hint_part, is_hint_part}
use Rattle.frame_codec.proofs.payload.hint_part_of.Goals.{then-payload-lt13-via-then-payload-lt13, then-payload-lt13-via-else-payload-lt13+then-payload-ne0}
use Rattle.frame_codec.specs.Frames.{IsPayload}
use Rattle.frame_codec.proofs.payload.hint_part_of.Goals as goal

pub returns-then-payload-lt13-clause-reads : goal.returns-then-payload-lt13-clause-reads
returns-then-payload-lt13-clause-reads c =
    no_stands 131 c.args.payload.now (λ h. let e =
    h.1 in elim c.then-payload-lt13.branch [
      | then-payload-lt13-via-then-payload-lt13 w ↦ omega arith
      | then-payload-lt13-via-else-payload-lt13+then-payload-ne0
          w ↦ omega arith
    ])

pub words_of-requires : goal.words_of-requires
words_of-requires c = rw take_rest ((length c.args.payload.now - 13) / 4, omega (arith, length-drop 13 c.args.payload.now))

pub returns-clause-reads : goal.returns-clause-reads
returns-clause-reads c =
    let version : c.u64_at.result ≡ number_in 8 (drop 1 c.args.payload.now) = rw take_rest at c.u64_at.ensures in
    let part : c.u32_at.result ≡ number_in 4 (drop 9 c.args.payload.now) = rw take_rest at c.u32_at.ensures in
    let w : word_bytes c.in_ok-words.words ≡ drop 13 c.args.payload.now = c.in_ok-words.ensures.bytes ∙ take_rest c.args.payload.now 13 in
    is_hint_part c.args.payload.now (λ i. omega (arith, c.type_inv.payload i)) (omega arith) c.u64_at.result c.u32_at.result c.in_ok-words.words
    (omega (arith, c.u64_at.type_inv)) (omega (arith, c.u32_at.type_inv)) version part w c.in_ok-words.ensures.fields

pub returns-in_err-words-clause-memory : goal.returns-in_err-words-clause-memory
returns-in_err-words-clause-memory c =
    let is : IsPayload 131 c.args.payload.now =
    has_hint_part c.args.payload.now (λ i. omega (arith, c.type_inv.payload i)) ((length c.args.payload.now - 13) / 4) (omega arith) in
    search (rules, is)
