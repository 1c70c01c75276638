-- Short texts. This project's profile.
use Rattle.std.specs.Prelude.{ℕ, List, take}
use Rattle.sci_trace.specs.declared.short.Short.{Short}

-- the front of its bytes
abbrev pub short_bytes : Short → List ℕ
short_bytes short = take short.length short.bytes.now
