mod BatchLemmas
mod BufferLemmas
pub mod FindLemmas
mod GeometryLemmas
mod LayerLemmas
mod LevelLemmas
mod LineLemmas
mod ProgressLemmas
mod PushLemmas
mod RunLemmas
mod RunRows
mod ServingLemmas
mod TreeLemmas
pub mod WorkLemmas
