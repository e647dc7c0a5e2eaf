pub mod Page
pub mod Around
pub mod Printing
