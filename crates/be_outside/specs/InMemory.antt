-- What a source and a sink in memory are seen as.
use Rattle.std.specs.Prelude.{ℕ, ◌/◌, List, [], min, slice_index_or, length, Option, Some, None}
use Rattle.std.specs.Global.{Vec}

-- A source in memory. Its calls are numbered from 0 on, and those whose numbers are in `failing`
-- fail. The call k gives at most `sizes` at k bytes, and those behind the end of that list give as
-- many as fit.
pub record Supply : Type 0 where
  -- the bytes that it has left
  pub left : List ℕ
  pub failing : List ℕ
  pub sizes : List ℕ
  -- how many calls there were: the number of the next
  pub calls : ℕ
  -- how many of them failed
  pub faults : ℕ

-- A sink in memory. Its calls are numbered and fail as those of a source in memory.
pub record Store : Type 0 where
  -- the bytes that it was given
  pub held : List ℕ
  -- how many more it can take
  pub room : ℕ
  pub failing : List ℕ
  pub calls : ℕ
  pub faults : ℕ

-- the numbers, of which there are none where there is no list
abbrev pub listed : Option (Vec ℕ) → List ℕ
listed None = []
listed (Some sizes) = sizes.items

-- how many of so many bytes the call gives
abbrev pub cut_to : List ℕ → ℕ → ℕ → ℕ
cut_to sizes call many = min many (slice_index_or sizes call many)

-- how many bytes of a piece a call that is to fail puts: the first half of them, or what there is
-- room for
abbrev pub half_within : ℕ → List ℕ → ℕ
half_within room piece = min (length piece / 2) room
