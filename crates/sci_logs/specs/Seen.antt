-- What stands at a place of a line, as a reason tells it. This project's profile.
use Rattle.std.specs.Prelude.{ℕ, Bool, ◌||◌, nat_le, nat_lt, List, ◌++◌, length, take, drop, replicate, min, max, ◌==◌}
use Rattle.std.specs.List.{position_or_len}
use Rattle.sci_logs.specs.declared.seen.Seen.{Seen}

-- a space, a bracket, and what isn't printed end a word
abbrev pub ends_word : ℕ → Bool
ends_word b = nat_le b 32 || (nat_lt 126 b || (b == 40 || b == 41))

-- how many bytes stand there: the first word, and the first byte at least
abbrev pub seen_count : List ℕ → ℕ
seen_count text = min (max (position_or_len ends_word text) 1) (length text)

-- of them 20 at most are told
abbrev pub told_count : List ℕ → ℕ
told_count text = min (seen_count text) 20

abbrev pub seen_at : List ℕ → Seen
seen_at text = record { bytes = take (told_count text) text ++ drop (told_count text) (replicate 20 0); count = seen_count text }
