pub mod PrimePlaces
