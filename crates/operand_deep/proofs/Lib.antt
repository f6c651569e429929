mod Cases
pub mod Lists
pub mod Every
pub mod Guesses
pub mod Sound
pub mod Complete
pub mod Fields
pub mod SameRows
pub mod Found
pub mod Walks
pub mod Told
