pub mod Numbers
pub mod Passed
pub mod Table
