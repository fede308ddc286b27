pub mod Evaluate
pub mod Exact
pub mod Rows
pub mod RoomLaws
pub mod LinksLaws
pub mod Range
