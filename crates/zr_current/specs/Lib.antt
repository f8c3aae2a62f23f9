pub mod Current
pub mod Next
