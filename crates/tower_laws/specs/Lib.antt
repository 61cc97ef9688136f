pub mod Laws
pub mod Bits
pub mod Quads
pub mod Elements
pub mod Gf
pub mod Polynomials
pub mod Through
