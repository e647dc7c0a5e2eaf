pub mod Judging
pub mod Opens
pub mod Directs
pub mod Sketches
pub mod Openings
