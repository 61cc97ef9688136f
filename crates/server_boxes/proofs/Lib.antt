mod Both
mod Masks
