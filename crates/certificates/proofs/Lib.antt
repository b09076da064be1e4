pub mod CellLists
pub mod Counts
pub mod RegionCells
pub mod Sets
