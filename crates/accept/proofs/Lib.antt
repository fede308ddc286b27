pub mod SetLaws
pub mod GatherLaws
pub mod EpsilonLaws
pub mod NodeLaws
pub mod GoingLaws
pub mod JudgeLaws
