-- What is known of instances, how they are listed, and what is told of them.
pub mod Known
pub mod Table
pub mod Told
