pub mod Condensing
