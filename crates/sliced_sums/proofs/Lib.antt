mod Words
mod Joined
mod Parity
mod Fields
mod Filled
