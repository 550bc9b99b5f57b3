pub mod Line
pub mod Report
pub mod Grammar
pub mod RoundTrip
pub mod Ranges
pub mod Lines
