pub mod Exact
pub mod PrepareLaws
pub mod SearchLaws
pub mod TraceLaws
pub mod WantLaws
pub mod WitnessLaws
pub mod WriteLaws
pub mod EntryLaws
