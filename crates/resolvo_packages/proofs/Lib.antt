pub mod OfferLemmas
pub mod ForbiddenLemmas
