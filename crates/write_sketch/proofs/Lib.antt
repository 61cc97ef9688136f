mod Batches
mod Filling
mod Parts
mod Prefixes
