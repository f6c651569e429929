pub mod Items
pub mod Passing
pub mod Rests
pub mod Tokens
pub mod Chained
pub mod Heads
pub mod Counted
pub mod BareTokens
