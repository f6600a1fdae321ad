pub mod Answers
pub mod Printed
