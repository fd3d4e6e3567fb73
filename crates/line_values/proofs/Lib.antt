pub mod Judging
mod Pieces
mod Sums
mod Products
mod Powers
mod Raising
