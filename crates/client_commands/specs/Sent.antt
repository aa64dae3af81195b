-- What a command has sent.
use Rattle.std.specs.Prelude.{ℕ, List, ◌++◌, Option}
use Rattle.std.specs.Io.KnownBytes.{Appends}
use Rattle.frame_codec.specs.declared.frame.Frame.{Frame}
use Rattle.frame_codec.specs.Frames.{encoding}

-- what was written begins with one frame, and has another after what the client said in between
abbrev pub SendsCommand : Option (List ℕ) → Option (List ℕ) → Frame → Frame → Type 0
SendsCommand old new first second =
    (between : List ℕ) × (beyond : List ℕ) × Appends old new (encoding first ++ (between ++ (encoding second ++ beyond)))
