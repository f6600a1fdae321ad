pub mod Decimal
pub mod Pieces
pub mod Spelling
pub mod Puts
pub mod Making
pub mod Worked
