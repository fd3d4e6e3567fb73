pub mod ReadCall
pub mod TypedCalls
