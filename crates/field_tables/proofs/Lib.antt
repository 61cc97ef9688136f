mod Covered
mod Logarithms
mod Base
