pub mod Obsolete
