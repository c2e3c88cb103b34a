-- The library's lemma on two tests that both hold, under a name of its own.
pub use Rattle.std.proofs.lemmas.Bool.{and_parts as both}
