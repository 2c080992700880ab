pub mod Emitted
pub mod NeverTaken
pub mod Standing
pub mod Spelling
pub mod Walking
pub mod Judged
