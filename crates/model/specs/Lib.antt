pub mod Model
pub mod Calls
pub mod Makes
pub mod Finish
pub mod Refusals
pub mod Exact
