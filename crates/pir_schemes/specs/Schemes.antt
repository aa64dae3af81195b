-- The two schemes and the bytes that name them in frames.
use Rattle.std.specs.Prelude.{ℕ, Option, Some, None, ◌==◌, if◌then◌else◌}
use Rattle.pir_schemes.specs.declared.scheme.Scheme.{Scheme}
use Rattle.pir_schemes.specs.declared.scheme.Scheme.TheVariants.{Simple, Double}

-- the byte that names a scheme
abbrev pub scheme_byte : Scheme → ℕ
scheme_byte Simple = 0
scheme_byte Double = 1

-- the scheme that a byte names, if it names one
abbrev pub scheme_of_byte : ℕ → Option Scheme
scheme_of_byte byte = if byte == 0 then Some Simple else (if byte == 1 then Some Double else None)
