pub mod CopySize
