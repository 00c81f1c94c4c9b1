pub mod Answers
pub mod Listing
pub mod Seeking
pub mod CallLaws
