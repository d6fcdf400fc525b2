pub mod WriteLemmas
pub mod Reports
pub mod HeadlineLemmas
pub mod AnswerLaws
