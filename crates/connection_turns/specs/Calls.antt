-- What a server does to what lies outside of it, in order: the socket of a connection, and the
-- disk.
use Rattle.std.specs.Prelude.{ℕ, List, length, take, Result, Ok, Err}
use Rattle.connection_turns.specs.declared.outside.AppendFailed.{AppendFailed}
use Rattle.connection_turns.specs.declared.outside.AppendFailed.TheVariants.{Undone, Lost}
use Rattle.connection_turns.specs.declared.outside.SocketStop.{SocketStop}
use Rattle.connection_turns.specs.declared.outside.SocketStop.TheVariants.{Later, Failed}

-- one call, and what came of it
pub data DeviceCall : Type 0 where
  -- a read with room for so many bytes gave these; none are the end
  Read : (room : ℕ) (bytes : List ℕ) → DeviceCall
  -- a read would have waited
  ReadLater : DeviceCall
  ReadFails : DeviceCall
  -- a write took these bytes
  Write : (bytes : List ℕ) → DeviceCall
  -- a write would have waited
  WriteLater : DeviceCall
  WriteFails : DeviceCall
  -- the publication that makes this version was appended to the log
  Append : (version : ℕ) → DeviceCall
  -- it could not be appended, and nothing of it is left
  AppendUndone : (version : ℕ) → DeviceCall
  -- it could not be appended, and a part of it may be left
  AppendLost : (version : ℕ) → DeviceCall
  -- the publication that would have made this version was appended and not made: nothing of it is
  -- left now
  TakeBack : (version : ℕ) → DeviceCall
  -- it could not be taken back
  TakeBackFails : (version : ℕ) → DeviceCall

-- what a read did, into a buffer that holds these bytes after it
abbrev pub device_read : Result ℕ SocketStop → List ℕ → DeviceCall
device_read (Ok n) buffer = Read (length buffer) (take n buffer)
device_read (Err Later) buffer = ReadLater
device_read (Err Failed) buffer = ReadFails

-- what a write of these bytes did
abbrev pub device_write : Result ℕ SocketStop → List ℕ → DeviceCall
device_write (Ok n) bytes = Write (take n bytes)
device_write (Err Later) bytes = WriteLater
device_write (Err Failed) bytes = WriteFails

-- what an append of this version's publication did
abbrev pub append_call : Result (Unit {0}) AppendFailed → ℕ → DeviceCall
append_call (Ok done) version = Append version
append_call (Err Undone) version = AppendUndone version
append_call (Err Lost) version = AppendLost version

-- what taking this version's publication back did
abbrev pub take_back_call : {E : Type 0} → Result (Unit {0}) E → ℕ → DeviceCall
take_back_call (Ok done) version = TakeBack version
take_back_call (Err e) version = TakeBackFails version
