pub mod Sizes
pub mod Storing
pub mod Back
pub mod Again
pub mod RoundTrip
pub mod Formed
pub mod Worked
