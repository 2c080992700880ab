pub mod State
pub mod Judgement
pub mod Coverage
pub mod Calls
pub mod Itself
pub mod Guarantee
pub mod Points
