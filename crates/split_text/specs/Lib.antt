pub mod Decimal
pub mod TextArrays
pub mod TextSize
pub mod Printed
