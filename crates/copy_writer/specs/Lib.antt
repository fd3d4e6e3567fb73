pub mod HeldPairs
pub mod SheetFigures
