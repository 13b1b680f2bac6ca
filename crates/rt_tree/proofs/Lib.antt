mod Children
mod ChunkLemmas
mod EntryLemmas
mod IdLemmas
mod LeafLemmas
mod LevelLemmas
mod LevelOrder
mod LevelSizes
mod LoopLemmas
mod NodeLemmas
mod OrderLemmas
mod PackCounts
mod PackLemmas
mod PairLemmas
mod Rows
mod SortKeyLemmas
mod SquareLemmas
mod Soundness
mod TieLemmas
mod TieOrders
mod TileLemmas
mod TileLoops
pub mod Permutations
pub mod PackSound
pub mod Repacked
pub mod RepeatLemmas
pub mod SortingLemmas
