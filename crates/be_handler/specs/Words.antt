-- Sets of words.
use Rattle.std.specs.Prelude.{◌≡◌, ℕ, ◌==◌, Bool, ◌&&◌, ◌||◌, List, [], length, slice_index_or}
use Rattle.std.specs.List.{list_any}
use Rattle.std.specs.Ordering.{nat_cmp}
use Rattle.std.specs.BTreeMap.{is_at}

-- the word is one of them
abbrev pub has_word : List ℕ → ℕ → Bool
has_word words word = list_any (is_at (nat_cmp word)) words

-- of several sets one has this word beside what it had, and the others are as they were
pub record AddsWord (old new : List (List ℕ)) (number what : ℕ) : Type 0 where
  pub same_length : length new ≡ length old
  pub words : (k word : ℕ) → has_word (slice_index_or new k []) word
      ≡ ((number == k && what == word) || has_word (slice_index_or old k []) word)
