pub mod GivenOut
