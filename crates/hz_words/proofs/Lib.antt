-- What one more argument makes of a command
pub mod Building
-- What a parse of the command says of the arguments that `clap` reads
pub mod Parsing
