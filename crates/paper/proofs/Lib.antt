pub mod FirstLaws
pub mod ToldLaws
pub mod TellsLaws
pub mod VerdictLaws
pub mod RowEq
pub mod FaultLaws
