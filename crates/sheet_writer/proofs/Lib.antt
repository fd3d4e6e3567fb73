pub mod CoefficientsWritten
pub mod SheetWritten
