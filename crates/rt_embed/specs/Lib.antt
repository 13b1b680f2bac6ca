pub mod Columns
pub mod Costs
pub mod Findings
pub mod GivenBoxes
pub mod PlainQueries
pub mod Puts
pub mod Questions
pub mod Sessions
