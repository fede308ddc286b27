pub mod NodeLaws
pub mod AnswerLaws
pub mod Exact
