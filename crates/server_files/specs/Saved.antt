-- What is there of publications after a crash.
use Rattle.std.specs.Prelude.{ℕ}
use Rattle.server_files.specs.declared.saving.LogSaver.{LogSaver}

-- the version that a file and its log have, by what appends to the log
abbrev pub saved_version : {D : Type 0} → LogSaver D → ℕ
saved_version saver = saver.has.version
