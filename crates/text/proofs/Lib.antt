pub mod Laying
pub mod Printed
pub mod Nearest
