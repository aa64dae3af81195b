-- How large things are.
use Rattle.std.specs.Prelude.{ℕ}

-- the most bytes that one read brings
abbrev pub piece_size : ℕ
piece_size = 65536

-- If so many bytes are owed, no further frame is served, and nothing more is read.
abbrev pub owed_limit : ℕ
owed_limit = 65536

-- the most bytes that a reply has: those before a payload, and the longest payload
abbrev pub longest_reply : ℕ
longest_reply = 16777221

-- the most bytes that are ever owed: fewer than the limit, and one reply
abbrev pub most_owed : ℕ
most_owed = 16842756
