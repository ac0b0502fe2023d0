use Rattle.std.specs.Prelude.{ℕ, ◌+◌, ◌*◌, Bool, if◌then◌else◌}
pub use Rattle.containers.specs.Codes.{opposite, holds as literal_value}

-- the literal that is true where variable v has this value: 2v for true, 2v + 1 for false
abbrev pub literal_of : ℕ → Bool → ℕ
literal_of v value = if value then 2 * v else 2 * v + 1
