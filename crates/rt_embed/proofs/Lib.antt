mod ArrayLemmas
mod BoxLemmas
mod CostLemmas
pub mod Headline
mod Hulls
mod LimitLemmas
mod ListLemmas
