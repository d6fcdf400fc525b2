pub mod Headline
pub mod Answer
pub mod Run
pub mod Whole
pub mod Within
