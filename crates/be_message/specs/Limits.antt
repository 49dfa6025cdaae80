-- How much a message can hold (the numbers are this project's own).
use Rattle.std.specs.Prelude.{ℕ}

abbrev pub most_fields : ℕ
most_fields = 255

-- values of a field
abbrev pub most_values : ℕ
most_values = 255

abbrev pub most_name_bytes : ℕ
most_name_bytes = 32

abbrev pub most_text_bytes : ℕ
most_text_bytes = 1024

-- messages within one another, the outermost counted
abbrev pub most_depth : ℕ
most_depth = 16
