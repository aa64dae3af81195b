-- What retrievals cost, in words that are moved.
use Rattle.std.specs.Prelude.{ℕ, ◌+◌, ◌*◌, Bool, cond}
use Rattle.digit_pack.specs.Layout.{Shape}
use Rattle.pir_schemes.specs.declared.scheme.Scheme.{Scheme}
use Rattle.pir_schemes.specs.Retrievals.{hint_len, query_count, answer_count}

-- how many words some retrievals move, under public matrices of n columns: those of the hint,
-- unless it is held, and for each retrieval those of its query and of its answer
abbrev pub words_moved : Scheme → Shape → ℕ → ℕ → Bool → ℕ
words_moved s l n times held = cond held 0 (hint_len s l n) + times * (query_count s l + answer_count s l n)
