-- What a builder holds, and what it takes up.
use Rattle.std.specs.Prelude.{◌≡◌, ◌<◌, ◌≤◌, ◌+◌, ◌^◌, [], ◌∷◌, ◌++◌, length, vec_len}
use Rattle.publication_log.specs.declared.builder.ChangeFault.{ChangeFault}
use Rattle.publication_log.specs.declared.builder.ChangeFault.TheVariants.{NotAscending, TooLong, Full, Memory}
use Rattle.publication_log.specs.declared.builder.PublicationBuilder.{PublicationBuilder}
use Rattle.publication_log.specs.Publications.{Placed, Published, body_bytes, next_place, AreChanges}

-- a builder holds the bytes of this publication, and knows which place may come next
pub record IsMadeOf (builder : PublicationBuilder) (p : Published) : Type 0 where
  pub version : builder.version ≡ p.version
  pub body : builder.body.items ≡ body_bytes p
  pub low : builder.low ≡ next_place 0 p.changes
  pub each : AreChanges 0 p.changes

-- the publication with one more change after the others
abbrev pub with_change : Published → Placed → Published
with_change p c = record p { changes = p.changes ++ c ∷ [] }

-- a publication of any builder's bytes has this change after its own, once it was added
abbrev pub AddsChange : PublicationBuilder → PublicationBuilder → Placed → Type 0
AddsChange old new c = (p : Published) → IsMadeOf old p → IsMadeOf new (with_change p c)

-- builders that hold one publication
pub record IsUnchanged (old new : PublicationBuilder) : Type 0 where
  pub version : new.version ≡ old.version
  pub body : new.body.items ≡ old.body.items
  pub low : new.low ≡ old.low

-- a change that no publication can have after those of the builder, by its first fault
abbrev pub HasChangeFault : PublicationBuilder → Placed → ChangeFault → Type 0
HasChangeFault old c NotAscending = c.place < old.low
HasChangeFault old c TooLong = (old.low ≤ c.place) × (2 ^ 16 ≤ length c.bytes)
HasChangeFault old c Full = (old.low ≤ c.place) × (length c.bytes < 2 ^ 16) × (2 ^ 32 ≤ vec_len old.body + 6 + length c.bytes)
HasChangeFault old c Memory = (old.low ≤ c.place) × (length c.bytes < 2 ^ 16) × (vec_len old.body + 6 + length c.bytes < 2 ^ 32)
