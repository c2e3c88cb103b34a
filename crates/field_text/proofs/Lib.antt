pub mod OneReadingLemmas
pub mod RunLemmas
pub mod TokenLemmas
pub mod BlankLemmas
pub mod QuotedLemmas
pub mod UnquotedLemmas
pub mod DeltaLemmas
