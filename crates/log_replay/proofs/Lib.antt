pub mod ChangeLemmas
pub mod DraftedChanges
pub mod ReplayLemmas
pub mod RecordLemmas
pub mod OldsMeet
pub mod LawLemmas
pub mod EarlierOnes
