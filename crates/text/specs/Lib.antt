pub mod Characters
pub mod Decimal
pub mod Spelled
pub mod Pieces
pub mod Puts
pub mod Making
