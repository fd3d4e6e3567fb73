pub mod PairOrder
pub mod SortedPairs
pub mod CopyLayout
pub mod CopyReadBack
pub mod CopySize
pub mod CopiesHold
