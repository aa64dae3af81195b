-- Counts of what happened.
use Rattle.std.specs.Prelude.{◌≡◌, ◌<◌, ◌+◌, ◌-◌, ◌^◌, ℕ, List, length, min, cond, nat_le, ◌==◌, slice_index}
use Rattle.std.specs.List.{sum_by}
use Rattle.service_watch.specs.declared.counters.Cause.{Cause}
use Rattle.service_watch.specs.declared.counters.Cause.TheVariants as cause
use Rattle.service_watch.specs.declared.counters.Counted.{Counted}
use Rattle.service_watch.specs.declared.counters.Counted.TheVariants.{Accepted, Closed, Frame, Reply, BytesIn, BytesOut}

-- where connections that are over for a cause are counted
abbrev pub cause_slot : Cause → ℕ
cause_slot cause.End = 1
cause_slot cause.Connect = 2
cause_slot cause.Read = 3
cause_slot cause.Write = 4
cause_slot cause.Idle = 5
cause_slot cause.Memory = 6
cause_slot cause.TooMany = 7

-- where frames of a kind are counted: of the kinds 1 to 10 each apart, and all others together
abbrev pub frame_slot : ℕ → ℕ
frame_slot kind = cond (nat_le kind 9) (8 + kind) (cond (kind == 10) 45 8)

-- 1 for DoublePIR
abbrev pub scheme_offset : ℕ → ℕ
scheme_offset scheme = cond (scheme == 1) 1 0

-- where refusals of a code are counted: of the codes 1 to 14 each apart
abbrev pub refusal_slot : ℕ → ℕ
refusal_slot code = cond (nat_le code 14) (29 + code) 44

-- where replies of a kind are counted, by the first byte of their payload: Welcome, a hint's parts
-- and answers by scheme, Delta, Stale, Done, NoDelta, Changes, refusals by code
abbrev pub reply_slot : ℕ → ℕ → ℕ
reply_slot kind first =
    cond (kind == 0x82) 21 (cond (kind == 0x83) (22 + scheme_offset first) (cond (kind == 0x84) 24
    (cond (kind == 0x85) (25 + scheme_offset first) (cond (kind == 0x86) 27 (cond (kind == 0x87) 28
    (cond (kind == 0x88) 29 (cond (kind == 0x8a) 46 (cond (kind == 0x8f) (refusal_slot first) 44))))))))

-- where a thing is counted
abbrev pub counter_slot : Counted → ℕ
counter_slot Accepted = 0
counter_slot (Closed why) = cause_slot why
counter_slot (Frame kind) = frame_slot kind
counter_slot (Reply kind first) = reply_slot kind first
counter_slot BytesIn = 18
counter_slot BytesOut = 19

-- what a word says of a number: itself, or the most that it can
abbrev pub saturating : ℕ → ℕ
saturating n = min n (2 ^ 64 - 1)

-- so much happened of what is counted in a slot
pub record Amount : Type 0 where
  pub slot : ℕ
  pub much : ℕ

-- how much of what happened belongs to a slot
abbrev pub share : ℕ → Amount → ℕ
share k e = cond (e.slot == k) e.much 0

-- Each count is how much happened of its thing, in all that happened so far.
pub record IsTally (counts : List ℕ) (events : List Amount) : Type 0 where
  pub slots : length counts ≡ 48
  pub each : (k : ℕ) → k < 48 → slice_index counts k ≡ saturating (sum_by (share k) events)
