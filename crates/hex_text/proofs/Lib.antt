pub mod HexReading
