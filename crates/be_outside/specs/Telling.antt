-- Bytes that a source has left or a sink holds: `Some` of them where the object tells them, and
-- else `None`.
use Rattle.std.specs.Prelude.{◌≡◌, ℕ, List, [], ◌++◌, Option, Some, None, IfSome}

-- these bytes, and behind them those that are told
abbrev pub with_front : List ℕ → Option (List ℕ) → Option (List ℕ)
with_front bytes None = None
with_front bytes (Some rest) = Some (bytes ++ rest)

-- the bytes that are told, and behind them these
abbrev pub with_end : Option (List ℕ) → List ℕ → Option (List ℕ)
with_end None bytes = None
with_end (Some front) bytes = Some (front ++ bytes)

-- where bytes are told, there are none
abbrev pub IsDrained : Option (List ℕ) → Type 0
IsDrained told = IfSome told (λ bytes. bytes ≡ [])

-- Behind the bytes that are told a front part of the piece was put: none of it, some or all.
pub record TakesPrefix (old new : Option (List ℕ)) (piece : List ℕ) : Type 0 where
  pub taken : List ℕ
  pub rest : List ℕ
  pub parts : piece ≡ taken ++ rest
  pub put : new ≡ with_end old taken
