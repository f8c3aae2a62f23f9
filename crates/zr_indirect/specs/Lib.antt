pub mod Mapped
pub mod Changes
pub mod Stages
