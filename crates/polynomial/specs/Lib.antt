pub mod AsRecord
pub mod Checked
