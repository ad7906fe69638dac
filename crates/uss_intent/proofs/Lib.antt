pub mod TextLemmas
pub mod BaseClosure
pub mod TagLemmas
pub mod IdentifierLemmas
