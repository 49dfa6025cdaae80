-- The words that lines begin with.
use Rattle.std.proofs.Common.{◌≡◌, ℕ, Bool, true, false, cond, refl, List, [], ◌∷◌, Option, Some, None, ap, ◌∙◌, sym, codes}
use Rattle.std.specs.Option.{option_and_then}
use Rattle.std.specs.Str.{bytes_eq}
use Rattle.std.specs.Map.{lookup}
use Rattle.std.proofs.lemmas.Slice.Eq.{bytes_eq-Decides}
use Rattle.be_command.specs.declared.first_word.FirstWord.{FirstWord}
use Rattle.be_command.specs.declared.first_word.FirstWord.TheVariants as first
use Rattle.be_command.specs.Forms.{first_words, first_word_of}

-- the word itself
abbrev pub word_text : FirstWord → List ℕ
word_text first.Fill = codes "fill"
word_text first.Frame = codes "frame"
word_text first.Line = codes "line"
word_text first.Text = codes "text"
word_text first.Bitmap = codes "bitmap"
word_text first.High = codes "high"
word_text first.Low = codes "low"
word_text first.ViewColor = codes "viewcolor"
word_text first.Mode = codes "mode"
word_text first.PenSize = codes "pensize"
word_text first.Pen = codes "pen"
word_text first.Origin = codes "origin"
word_text first.Clip = codes "clip"
word_text first.Push = codes "push"
word_text first.Pop = codes "pop"
word_text first.CopyBits = codes "copybits"
word_text first.Invalidate = codes "invalidate"
word_text first.Show = codes "show"
word_text first.Hide = codes "hide"
word_text first.MoveTo = codes "moveto"
word_text first.MoveBy = codes "moveby"
word_text first.ResizeTo = codes "resizeto"
word_text first.Activate = codes "activate"
word_text first.Behind = codes "behind"
word_text first.Focus = codes "focus"
word_text first.Close = codes "close"

pub first_word_back : (word : FirstWord) → first_word_of (word_text word) ≡ Some word
unfolding first_word_of
first_word_back first.Fill = refl
first_word_back first.Frame = refl
first_word_back first.Line = refl
first_word_back first.Text = refl
first_word_back first.Bitmap = refl
first_word_back first.High = refl
first_word_back first.Low = refl
first_word_back first.ViewColor = refl
first_word_back first.Mode = refl
first_word_back first.PenSize = refl
first_word_back first.Pen = refl
first_word_back first.Origin = refl
first_word_back first.Clip = refl
first_word_back first.Push = refl
first_word_back first.Pop = refl
first_word_back first.CopyBits = refl
first_word_back first.Invalidate = refl
first_word_back first.Show = refl
first_word_back first.Hide = refl
first_word_back first.MoveTo = refl
first_word_back first.MoveBy = refl
first_word_back first.ResizeTo = refl
first_word_back first.Activate = refl
first_word_back first.Behind = refl
first_word_back first.Focus = refl
first_word_back first.Close = refl

-- ---- no other word is read as a first word

abbrev AreTheirs : List (List ℕ × FirstWord) → Type 0
AreTheirs [] = Unit {0}
AreTheirs (e ∷ es) = (word_text e.1 ≡ e.0) × AreTheirs es

looked_up : (found : Bool) (e : List ℕ × FirstWord) (es : List (List ℕ × FirstWord)) (text : List ℕ) (word : FirstWord) → word_text e.1 ≡ e.0 → bytes_eq text e.0 ≡ found →
    (lookup (bytes_eq text) es ≡ Some word → text ≡ word_text word) → cond found (Some e.1) (lookup (bytes_eq text) es) ≡ Some word → text ≡ word_text word
looked_up true e es text word theirs same below h =
    let is : e.1 ≡ word = (cc) in
    (bytes_eq-Decides text e.0).0 same ∙ sym theirs ∙ ap word_text is
looked_up false e es text word theirs same below h = below h

found_word : (table : List (List ℕ × FirstWord)) (text : List ℕ) (word : FirstWord) → AreTheirs table → lookup (bytes_eq text) table ≡ Some word → text ≡ word_text word
found_word [] text word theirs h = (cc)
found_word (e ∷ es) text word theirs h = looked_up (bytes_eq text e.0) e es text word theirs.0 refl (found_word es text word theirs.1) h

their_words : AreTheirs first_words
their_words = (refl, (refl, (refl, (refl, (refl, (refl, (refl, (refl, (refl, (refl, (refl, (refl, (refl, (refl, (refl, (refl, (refl, (refl, (refl, (refl, (refl, (refl, (refl, (refl, (refl, (refl, tt))))))))))))))))))))))))))

pub text_of_first : (text : Option (List ℕ)) (word : FirstWord) → option_and_then first_word_of text ≡ Some word → text ≡ Some (word_text word)
unfolding first_word_of
text_of_first None word h = (cc)
text_of_first (Some text) word h = ap Some (found_word first_words text word their_words h)
