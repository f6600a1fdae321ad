pub mod Words
pub mod Placing
pub mod Fitting
