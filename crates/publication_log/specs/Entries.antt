-- The bytes of a chain: one entry after another, each with the digest of all before it.
use Rattle.std.specs.Prelude.{◌≡◌, ◌⊎◌, ◌<◌, ◌^◌, ◌+◌, ◌-◌, ◌==◌, nat_lt, if◌then◌else◌, ℕ, List, [], ◌∷◌, ◌++◌, length, drop, Option, Some, None}
use Rattle.byteorder.specs.Endian.{little_number}
use Rattle.sha2.specs.Sha256.{sha256}
use Rattle.publication_log.specs.Publications.{log_number_bytes}

-- a length in four bytes, and its complement in four, by which a damaged length is noticed
unfoldable pub entry_head : ℕ → List ℕ
entry_head len = log_number_bytes 4 len ++ log_number_bytes 4 (4294967295 - len)

-- a head and the body
abbrev pub framed : List ℕ → List ℕ
framed body = entry_head (length body) ++ body

-- the link after a body, by the link before it
abbrev pub next_link : List ℕ → List ℕ → List ℕ
next_link link body = sha256 (link ++ framed body)

-- the head, the body, and the link after it
abbrev pub log_entry : List ℕ → List ℕ → List ℕ
log_entry link body = framed body ++ next_link link body

-- the link after some bodies
abbrev pub last_link : List ℕ → List (List ℕ) → List ℕ
last_link link [] = link
last_link link (body ∷ bodies) = last_link (next_link link body) bodies

-- the entries of some bodies, by the link before the first
abbrev pub chain_bytes : List ℕ → List (List ℕ) → List ℕ
chain_bytes link [] = []
chain_bytes link (body ∷ bodies) = log_entry link body ++ chain_bytes (next_link link body) bodies

-- a body whose length a head has
abbrev pub IsBody : List ℕ → Type 0
IsBody body = length body < 2 ^ 32

-- bytes at whose start no whole entry is
abbrev pub HasNoEntry : List ℕ → List ℕ → Type 0
HasNoEntry link rest = (body more : List ℕ) → IsBody body → rest ≡ log_entry link body ++ more → ⊥

-- the length that the head at the start has, if there is a head
unfoldable pub body_len_in : List ℕ → Option ℕ
body_len_in bytes = if nat_lt (length bytes) 8 then None else if little_number 4 (drop 4 bytes) == (4294967295 - little_number 4 bytes) then Some (little_number 4 bytes) else None

-- the bytes after a body of that length
abbrev pub after_head : Option ℕ → List ℕ → List ℕ
after_head None bytes = bytes
after_head (Some len) bytes = drop len (drop 8 bytes)

-- the bytes after the head and the body at the start, or all if no head is there
abbrev pub after_body : List ℕ → List ℕ
after_body bytes = after_head (body_len_in bytes) bytes

-- a whole entry is somewhere in the bytes, right after the link that it goes on from
abbrev pub HasEntry : List ℕ → Type 0
HasEntry bytes = (before : List ℕ) × (link : List ℕ) × (body : List ℕ) × (more : List ℕ) × (length link ≡ 32) × IsBody body × (bytes ≡ before ++ (link ++ (log_entry link body ++ more)))

-- a body with another digest than its own, and right after it an entry that goes on from its own
abbrev pub IsFollowed : List ℕ → List ℕ → Type 0
IsFollowed link rest = (body : List ℕ) × (digest : List ℕ) × (next : List ℕ) × (more : List ℕ) × IsBody body × (length digest ≡ 32) × IsBody next
    × (rest ≡ framed body ++ (digest ++ (log_entry (next_link link body) next ++ more)))

-- a whole entry is after what is at the start, so that this is no torn end
abbrev pub HasLater : List ℕ → List ℕ → Type 0
HasLater link rest = HasEntry (after_body rest) ⊎ IsFollowed link rest

-- bytes that a torn append may leave: no whole entry at their start, and none later
pub record IsTorn (link rest : List ℕ) : Type 0 where
  pub first : HasNoEntry link rest
  pub later : ¬ HasLater link rest
