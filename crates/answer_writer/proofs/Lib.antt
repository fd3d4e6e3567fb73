pub mod PartsWriting
