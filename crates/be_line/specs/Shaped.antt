-- The words of FIELDS that the code's stand for (this project's own).
use Rattle.std.specs.Prelude.{ℕ, ◌&&◌, if◌then◌else◌, List, Option, Some, None}
use Rattle.be_actor.specs.Drafts as drafts
use Rattle.be_lex.specs.Numbers.{is_number, number_of}
use Rattle.be_message.specs.Messages.{Datum, bool, int, text, point, rect}
use Rattle.be_line.specs.declared.shaped.Shaped.{Shaped}
use Rattle.be_line.specs.declared.shaped.Shaped.TheVariants as shaped
use Rattle.be_line.specs.declared.shaped.ShapedWord.{ShapedWord}
use Rattle.be_line.specs.declared.shaped.ShapedWord.TheVariants as word

-- a value, with numbers of any size
abbrev pub seen_shaped : Shaped → Datum
seen_shaped (shaped.Bool b) = bool b
seen_shaped (shaped.Int z) = int z
seen_shaped (shaped.Text t) = text t.now
seen_shaped (shaped.Point x y) = point (record { x = x; y = y })
seen_shaped (shaped.Rect l t r b) = rect (record { left = l; top = t; right = r; bottom = b })

-- a word
abbrev pub seen_word : ShapedWord → drafts.Word
seen_word (word.Value name v) = drafts.value name.now (seen_shaped v)
seen_word (word.Current name) = drafts.current name.now
seen_word (word.Copied name) = drafts.copied name.now

-- two words as a point, where both are numbers, and four as a rectangle
abbrev pub pointed : List ℕ → List ℕ → Option Datum
pointed x y =
    if is_number x && is_number y then Some (point (record { x = number_of x; y = number_of y }))
    else None

abbrev pub bounded : List ℕ → List ℕ → List ℕ → List ℕ → Option Datum
bounded l t r b =
    if is_number l && (is_number t && (is_number r && is_number b))
    then Some (rect (record {
      left = number_of l;
      top = number_of t;
      right = number_of r;
      bottom = number_of b;
    })) else None
