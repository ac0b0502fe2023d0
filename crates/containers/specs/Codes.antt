use Rattle.std.specs.Prelude.{ℕ, ◌+◌, ◌-◌, ◌/◌, ◌%◌, ◌==◌, Bool, not, if◌then◌else◌}

-- Literal 2k says that number k is true, 2k + 1 that it is false.

-- the literal that says the contrary
abbrev pub opposite : ℕ → ℕ
opposite l = if l % 2 == 0 then l + 1 else l - 1

-- a literal holds where the numbers have these truth values
abbrev pub holds : (ℕ → Bool) → ℕ → Bool
holds values l = if l % 2 == 0 then values (l / 2) else not (values (l / 2))
