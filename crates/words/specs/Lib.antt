pub mod Changes
pub mod Placing
pub mod Fitting
pub mod Served
