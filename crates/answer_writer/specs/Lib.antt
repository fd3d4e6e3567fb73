pub mod FactorsWritten
pub mod AnswerArrays
pub mod Counting
pub mod SheetAnswers
