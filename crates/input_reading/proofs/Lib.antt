pub mod Seeding
