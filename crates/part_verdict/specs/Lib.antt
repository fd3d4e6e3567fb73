pub mod AsPart
pub mod PartHeld
pub mod PartFound
