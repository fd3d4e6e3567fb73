pub mod Accepted
pub mod Checks
pub mod DivisionResult
pub mod RecordLaws
pub mod Results
pub mod ArithmeticLaws
