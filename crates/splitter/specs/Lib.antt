pub mod Outcomes
pub mod CallLaws
pub mod CopyLaws
pub mod TypedLaws
