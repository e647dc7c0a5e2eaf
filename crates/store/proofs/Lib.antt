pub mod Meanings
pub mod Rows
pub mod Sizes
pub mod Makes
pub mod Shares
pub mod Sequences
