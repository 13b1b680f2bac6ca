mod DigitLemmas
mod LayerLemmas
mod LeadingLemmas
mod NumberLemmas
mod PointLemmas
mod QueryRows
mod Records
pub mod Rows
mod TableLemmas
mod TableReads
mod WordLemmas
mod WordReads
