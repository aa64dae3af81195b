use Rattle.std.proofs.Common.{◌≡◌, ℕ, length, ◌+◌, ◌-◌, ◌*◌, ◌/◌, arith, rules, ◌∙◌, drop}
use Rattle.std.proofs.lemmas.List.{take_rest, length-drop}
use Rattle.frame_codec.specs.Numbers.{number_in, word_bytes}
use Rattle.frame_codec.proofs.Payloads.{is_scheme_words}
use Rattle.frame_codec.proofs.payload.scheme_words.Goals as goal

pub words_of-requires : goal.words_of-requires
words_of-requires c = rw take_rest ((length c.args.payload.now - 9) / 4, omega (arith, length-drop 9 c.args.payload.now))

pub returns-clause-some : goal.returns-clause-some
returns-clause-some c =
    let e : c.u64_at.result ≡ number_in 8 (drop 1 c.args.payload.now) = rw take_rest at c.u64_at.ensures in
    let w : word_bytes c.in_ok-words.words ≡ drop 9 c.args.payload.now = c.in_ok-words.ensures.bytes ∙ take_rest c.args.payload.now 9 in
    is_scheme_words c.args.payload.now (λ i. omega (arith, c.type_inv.payload i)) (omega arith) c.u64_at.result c.in_ok-words.words e w

pub returns-in_err-words-clause-memory : goal.returns-in_err-words-clause-memory
returns-in_err-words-clause-memory c =
    let is : (n : ℕ) × (length c.args.payload.now ≡ 9 + 4 * n) = ((length c.args.payload.now - 9) / 4, omega arith) in
    search (rules, is)
