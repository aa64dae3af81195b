-- What a new file shows once bytes were written to it.
use Rattle.std.proofs.Common.{ℕ, List, Option, Some, None, refl}
use Rattle.std.specs.Io.KnownBytes.{Appends, append_known}

pub shows_more : (fresh : Option (List ℕ)) (bytes : List ℕ) → Appends fresh (append_known fresh bytes) bytes
shows_more None bytes = _
shows_more (Some shown) bytes = refl
