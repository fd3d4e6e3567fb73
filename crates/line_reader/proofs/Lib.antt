mod Bytes
mod Behind
mod Pieces
mod Judging
mod Lines
