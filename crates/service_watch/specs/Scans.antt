-- The frames of a stream, by their kinds alone.
use Rattle.std.specs.Prelude.{ℕ, ◌+◌, ◌-◌, ◌*◌, ◌/◌, ◌^◌, Bool, List, [], ◌∷◌, ◌++◌, Option, None, Some, cond, min, nat_lt, ◌==◌}
use Rattle.service_watch.specs.Counts.{Amount, frame_slot}
use Rattle.service_watch.specs.declared.scans.FrameScan.{FrameScan}

-- a stream before the next frame
abbrev pub at_start : FrameScan
at_start = record { came = 0; len = 0; kind = 0 }

-- the first four bytes of a frame are the length of its payload, the lowest first, and the fifth is
-- its kind
abbrev pub with_byte : FrameScan → ℕ → FrameScan
with_byte s b = record {
  came = min (s.came + 1) (2 ^ 64 - 1);
  len = cond (nat_lt s.came 4) (s.len / 256 + b * 16777216) s.len;
  kind = cond (s.came == 4) b s.kind;
}

-- a byte is not the last of its frame
abbrev pub goes_on : FrameScan → Bool
goes_on s = nat_lt s.came (min (s.len + 5) (2 ^ 64 - 1))

-- where a stream is after a byte
unfoldable pub after_byte : FrameScan → ℕ → FrameScan
after_byte s b = cond (goes_on (with_byte s b)) (with_byte s b) at_start

-- the kind of the frame that ends with a byte
unfoldable pub ended_kind : FrameScan → ℕ → Option ℕ
ended_kind s b = cond (goes_on (with_byte s b)) None (Some (with_byte s b).kind)

-- a frame of this kind came
abbrev pub frame_of : Option ℕ → List Amount
frame_of None = []
frame_of (Some kind) = record { slot = frame_slot kind; much = 1 } ∷ []

-- the frames that end in some bytes
abbrev pub frames_in : FrameScan → List ℕ → List Amount
frames_in s [] = []
frames_in s (b ∷ rest) = frame_of (ended_kind s b) ++ frames_in (after_byte s b) rest

-- where a stream is after some bytes
abbrev pub scan_after : FrameScan → List ℕ → FrameScan
scan_after s [] = s
scan_after s (b ∷ rest) = scan_after (after_byte s b) rest
