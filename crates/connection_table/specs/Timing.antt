-- How long turns took.
use Rattle.std.specs.Prelude.{◌+◌, ◌-◌, ◌^◌, ℕ, min}
use Rattle.connection_table.specs.declared.tallies.TurnTimes.{TurnTimes}

-- how many microseconds a turn took, with those before it that put its frame off, as a word says it
abbrev pub time_of : TurnTimes → ℕ
time_of t = min (t.ended - t.began + t.spent) (2 ^ 64 - 1)
