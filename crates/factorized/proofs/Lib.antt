pub mod RangeLaws
pub mod SideLaws
pub mod EpsilonLaws
pub mod OneLaws
pub mod StateLaws
pub mod CheckLaws
pub mod Exact
