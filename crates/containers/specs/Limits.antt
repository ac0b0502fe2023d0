-- How long a file may be.
use Rattle.std.specs.Prelude.{ℕ}

-- how many bytes a domain, a problem or a plan may have
abbrev pub most_bytes : ℕ
most_bytes = 1048576

-- how many bytes a certificate may have
abbrev pub certificate_bytes : ℕ
certificate_bytes = 16777216
