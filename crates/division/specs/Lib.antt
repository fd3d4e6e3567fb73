pub mod DivisionLoop
