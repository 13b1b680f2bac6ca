pub mod Choices
pub mod Invocations
