pub mod Moves
pub mod Trie
pub mod Ways
pub mod own
