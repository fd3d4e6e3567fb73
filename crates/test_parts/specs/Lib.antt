pub mod HasParts
