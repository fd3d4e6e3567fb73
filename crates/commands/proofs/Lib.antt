pub mod OperandCounts
