-- The record that a quiet answer gives.
use Rattle.std.proofs.Common.{◌≡◌, ℕ, ◌∙◌, List, length, ⊎_elim, Ok, Err}
use Rattle.std.specs.Prelude.{Result, MatchResult}
use Rattle.std.specs.declared.vec.Vec.{Vec}
use Rattle.std.specs.declared.alloc.Global.{Global}
use Rattle.digit_pack.specs.Layout.{Shape, FitsRecord, record_bytes}
use Rattle.simple_scheme.specs.declared.records.RecoverError.{RecoverError}
use Rattle.simple_scheme.specs.declared.records.RecoverError.TheVariants.{Memory}
use Rattle.simple_scheme.specs.Recovery.{RecordFrom}

pub record_or_memory : (l : Shape) (count : ℕ) (answer digits bytes : List ℕ) (outcome : Result (Vec ℕ Global) RecoverError) →
    length answer ≡ count → FitsRecord l digits → record_bytes l digits ≡ bytes → RecordFrom l count answer digits outcome →
    MatchResult outcome (λ v. v.items ≡ bytes) (λ e. e ≡ Memory)
record_or_memory l count answer digits bytes (Ok v) n f e h = h.2 ∙ e
record_or_memory l count answer digits bytes (Err x) n f e h = ⊎_elim (λ a. absurd (a.1 n)) (⊎_elim (λ b. absurd (b.2 f)) (λ m. m.0)) h
