mod HeapRow
mod Pointers
