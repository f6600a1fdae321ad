pub mod Bytes
pub mod Reading
pub mod Pointing
pub mod Faults
pub mod RoundTrip
pub mod Worked
pub mod PointingTable
