pub mod AnswerFits
pub mod CandidateFound
pub mod Finding
pub mod Growing
pub mod Multiplying
pub mod ReadingCoefficients
pub mod ReadingFactors
