pub mod Marks
pub mod Meetings
pub mod Rows
