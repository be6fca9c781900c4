pub mod Tests
pub mod Lists
pub mod First
pub mod Distinct
pub mod Elements
pub mod Guids
pub mod Order
pub mod Rising
