pub mod HexGrammar
