-- Words of the command line: what the parser makes of them (Words, Hyphens), and that it is as described (CommandLine).
pub mod CommandLine
pub mod Hyphens
pub mod Words
