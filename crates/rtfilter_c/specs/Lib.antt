pub mod Abouts
pub mod Calls
pub mod Faults
pub mod Numbers
