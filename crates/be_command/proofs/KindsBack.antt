-- What is written of each kind is read back, and then what is written of several.
use Rattle.std.proofs.Common.{◌≡◌, ℕ, ◌≤◌, pos, negsuc, unsigned_abs, Bool, true, cond, refl, arith, List, [], ◌∷◌, ◌++◌, Option, Some, None, Ok, Err, ap, ◌∙◌, sym}
use Rattle.std.proofs.lemmas.Int.{ints}
use Rattle.be_geom.specs.Points.{between}
use Rattle.be_color.specs.declared.colors.Color.{Color}
use Rattle.be_color.specs.declared.modes.Mode as modes
use Rattle.be_color.specs.declared.patterns.Pattern.{Pattern}
use Rattle.be_lex.specs.Words.{ends_word}
use Rattle.be_lex.specs.Colors.{color_of, color_text, is_color}
use Rattle.be_lex.specs.Patterns.{pattern_of, pattern_text, is_pattern}
use Rattle.be_lex.specs.Modes.{mode_of, mode_text}
use Rattle.be_lex.proofs.ValueSpelling.{color_of-color_text, is_word-color_text, pattern_of-pattern_text, is_word-pattern_text, mode_of-mode_text, is_word-mode_text}
use Rattle.be_command.specs.declared.fault.Reason.TheVariants.{Shape}
use Rattle.be_command.specs.Faults.{said_as}
use Rattle.be_command.specs.Names.{Known}
use Rattle.be_command.specs.Limits.{is_written_text}
use Rattle.be_command.specs.Places.{At, said_at, next_said, after_word}
use Rattle.be_command.specs.Kinds.{Kind, a_view, a_window, a_bitmap, a_focus, a_point, a_rect, a_distance, a_size, a_pen_size, a_pattern, a_color, a_mode, a_text, a_clip, Said, said, after, SaidAll, said_all, after_all, formed, numbered, rest_said}
use Rattle.be_command.specs.Spelling.{spaced, name_word, number_word, pair_words, point_words, rect_words, clip_words, focus_word}
use Rattle.be_command.specs.Laws.{AreKnown, IsWithin, AreWithin}
use Rattle.be_command.proofs.BackLemmas.{Reads, next_back, number_back, pair_back, point_back, rect_back, both_back, as_back}
use Rattle.be_command.proofs.NamesBack.{apart-names, apart-views, name_back, focus_back}
use Rattle.be_command.proofs.ClipBack.{clip_back}

-- what is written of each kind
abbrev pub words_of_kind : Known → (kind : Kind) → Said kind → List ℕ
words_of_kind known a_view v = name_word known.views v
words_of_kind known a_window w = name_word known.windows w
words_of_kind known a_bitmap b = name_word known.bitmaps b
words_of_kind known a_focus v = focus_word known.views v
words_of_kind known a_point p = point_words p
words_of_kind known a_rect r = rect_words r
words_of_kind known a_distance d = pair_words d.0 d.1
words_of_kind known a_size s = pair_words s.0 s.1
words_of_kind known a_pen_size n = number_word (pos n)
words_of_kind known a_pattern p = spaced (pattern_text p)
words_of_kind known a_color c = spaced (color_text c)
words_of_kind known a_mode m = spaced (mode_text m)
words_of_kind known a_text text = spaced text
words_of_kind known a_clip clip = clip_words clip

abbrev pub words_of_all : Known → (kinds : List Kind) → SaidAll kinds → List ℕ
words_of_all known [] x = []
words_of_all known (kind ∷ kinds) x = words_of_kind known kind x.0 ++ words_of_all known kinds x.1

-- what may stand behind each kind: nothing behind a text and a clip, which take the rest of the line
abbrev pub MayFollow : Kind → List Kind → Type 0
MayFollow a_view kinds = Unit {0}
MayFollow a_window kinds = Unit {0}
MayFollow a_bitmap kinds = Unit {0}
MayFollow a_focus kinds = Unit {0}
MayFollow a_point kinds = Unit {0}
MayFollow a_rect kinds = Unit {0}
MayFollow a_distance kinds = Unit {0}
MayFollow a_size kinds = Unit {0}
MayFollow a_pen_size kinds = Unit {0}
MayFollow a_pattern kinds = Unit {0}
MayFollow a_color kinds = Unit {0}
MayFollow a_mode kinds = Unit {0}
MayFollow a_text kinds = kinds ≡ []
MayFollow a_clip kinds = kinds ≡ []

abbrev pub IsRow : List Kind → Type 0
IsRow [] = Unit {0}
IsRow (kind ∷ kinds) = MayFollow kind kinds × IsRow kinds

-- and of its text
abbrev pub Follows : Kind → List ℕ → Type 0
Follows a_view rest = Unit {0}
Follows a_window rest = Unit {0}
Follows a_bitmap rest = Unit {0}
Follows a_focus rest = Unit {0}
Follows a_point rest = Unit {0}
Follows a_rect rest = Unit {0}
Follows a_distance rest = Unit {0}
Follows a_size rest = Unit {0}
Follows a_pen_size rest = Unit {0}
Follows a_pattern rest = Unit {0}
Follows a_color rest = Unit {0}
Follows a_mode rest = Unit {0}
Follows a_text rest = rest ≡ []
Follows a_clip rest = rest ≡ []

-- ---- each kind

formed_back : {A : Type 0} (o : Option A) (x : A) → o ≡ Some x → formed o ≡ Ok x
formed_back {A} o x e = ap (λ (o : Option A). formed o) e

pattern_back : (p : Pattern) (rest : List ℕ) (at : At) → is_pattern p ≡ true → ends_word rest ≡ true → at.text ≡ spaced (pattern_text p) ++ rest →
    Reads (next_said (λ word. formed (pattern_of word)) at) (after_word at) p rest
pattern_back p rest at fits ends e = next_back (λ word. formed (pattern_of word)) (pattern_text p) rest at p (is_word-pattern_text p fits) ends (formed_back (pattern_of (pattern_text p)) p (pattern_of-pattern_text p fits)) e

color_back : (c : Color) (rest : List ℕ) (at : At) → is_color c ≡ true → ends_word rest ≡ true → at.text ≡ spaced (color_text c) ++ rest →
    Reads (next_said (λ word. formed (color_of word)) at) (after_word at) c rest
color_back c rest at fits ends e = next_back (λ word. formed (color_of word)) (color_text c) rest at c (is_word-color_text c fits) ends (formed_back (color_of (color_text c)) c (color_of-color_text c fits)) e

mode_back : (m : modes.Mode) (rest : List ℕ) (at : At) → ends_word rest ≡ true → at.text ≡ spaced (mode_text m) ++ rest →
    Reads (next_said (λ word. formed (mode_of word)) at) (after_word at) m rest
mode_back m rest at ends e = next_back (λ word. formed (mode_of word)) (mode_text m) rest at m (is_word-mode_text m) ends (formed_back (mode_of (mode_text m)) m (mode_of-mode_text m)) e

nothing_behind : (text : List ℕ) → text ++ [] ≡ text
nothing_behind [] = refl
nothing_behind (b ∷ text) = ap (λ (bytes : List ℕ). b ∷ bytes) (nothing_behind text)

text_back : (text : List ℕ) (at : At) → is_written_text text ≡ true → at.text ≡ spaced text ++ [] →
    Reads (said_at at.place (rest_said at.text)) (record at { text = [] }) text []
text_back text at fits e = record {
  said_is =
      ap (λ (t : List ℕ). said_at at.place (rest_said t)) (e ∙ ap (λ (t : List ℕ). 32 ∷ t) (nothing_behind text))
      ∙ ap (λ (b : Bool). said_at at.place (cond b (Ok text) (Err Shape))) fits;
  text_is = refl;
}

in_pen_range : (n : ℕ) → 1 ≤ n → n ≤ 32 → between (pos 1) (pos n) (pos 32) ≡ true
unfolding between
in_pen_range n low high = grind (arith, ints)

pen_size_back : (n : ℕ) (rest : List ℕ) (at : At) → 1 ≤ n → n ≤ 32 → ends_word rest ≡ true → at.text ≡ number_word (pos n) ++ rest → Reads (said_as unsigned_abs (next_said (numbered (pos 1) (pos 32)) at)) (after_word at) n rest
pen_size_back n rest at low high ends e =
    as_back unsigned_abs (next_said (numbered (pos 1) (pos 32)) at) (after_word at) (pos n) rest (number_back (pos 1) (pos 32) (pos n) rest at (in_pen_range n low high) (omega arith) (omega arith) ends e)

pub kind_back : (known : Known) → AreKnown known → (kind : Kind) (v : Said kind) (rest : List ℕ) (at : At) → IsWithin known kind v → Follows kind rest → ends_word rest ≡ true → at.text ≡ words_of_kind known kind v ++ rest →
    Reads (said known kind at) (after kind at) v rest
kind_back known k a_view v rest at fits f ends e = name_back known.views v rest at (apart-views known k) fits ends e
kind_back known k a_window v rest at fits f ends e = name_back known.windows v rest at (apart-names known.windows k.windows) fits ends e
kind_back known k a_bitmap v rest at fits f ends e = name_back known.bitmaps v rest at (apart-names known.bitmaps k.bitmaps) fits ends e
kind_back known k a_focus v rest at fits f ends e = focus_back known.views v rest at (apart-views known k) fits ends e
kind_back known k a_point v rest at fits f ends e = point_back v rest at fits ends e
kind_back known k a_rect v rest at fits f ends e = rect_back v rest at fits ends e
kind_back known k a_distance v rest at fits f ends e = pair_back (negsuc 65534) (pos 65535) v.0 v.1 rest at fits.0 fits.1 (omega arith) (omega arith) ends e
kind_back known k a_size v rest at fits f ends e = pair_back (pos 0) (pos 32767) v.0 v.1 rest at fits.0 fits.1 (omega arith) (omega arith) ends e
kind_back known k a_pen_size v rest at fits f ends e = pen_size_back v rest at fits.0 fits.1 ends e
kind_back known k a_pattern v rest at fits f ends e = pattern_back v rest at fits ends e
kind_back known k a_color v rest at fits f ends e = color_back v rest at fits ends e
kind_back known k a_mode v rest at fits f ends e = mode_back v rest at ends e
kind_back known k a_text v rest at fits f ends e =
    let whole : at.text ≡ spaced v ++ [] = e ∙ ap (λ (r : List ℕ). spaced v ++ r) f in
    let read = text_back v at fits whole in
    record { said_is = read.said_is; text_is = sym f }
kind_back known k a_clip v rest at fits f ends e =
    let read = clip_back v at fits (e ∙ ap (λ (r : List ℕ). clip_words v ++ r) f) in
    record { said_is = read.said_is; text_is = read.text_is ∙ sym f }

-- ---- several

-- what is written of a kind begins with a space
begins : (known : Known) (kind : Kind) (v : Said kind) (rest : List ℕ) → IsWithin known kind v → ends_word (words_of_kind known kind v ++ rest) ≡ true
begins known a_view v rest fits = refl
begins known a_window v rest fits = refl
begins known a_bitmap v rest fits = refl
begins known a_focus None rest fits = refl
begins known a_focus (Some v) rest fits = refl
begins known a_point v rest fits = refl
begins known a_rect v rest fits = refl
begins known a_distance v rest fits = refl
begins known a_size v rest fits = refl
begins known a_pen_size v rest fits = refl
begins known a_pattern v rest fits = refl
begins known a_color v rest fits = refl
begins known a_mode v rest fits = refl
begins known a_text v rest fits = refl
begins known a_clip None rest fits = refl
begins known a_clip (Some []) rest fits = absurd (omega (arith, fits.0))
begins known a_clip (Some (r ∷ rects)) rest fits = refl

pub begins_all : (known : Known) (kinds : List Kind) (x : SaidAll kinds) → AreWithin known kinds x → ends_word (words_of_all known kinds x) ≡ true
begins_all known [] x fits = refl
begins_all known (kind ∷ kinds) x fits = begins known kind x.0 (words_of_all known kinds x.1) fits.0

nothing_of_none : (known : Known) (kinds : List Kind) (x : SaidAll kinds) → kinds ≡ [] → words_of_all known kinds x ≡ []
nothing_of_none known [] x e = refl
nothing_of_none known (kind ∷ kinds) x e = (cc)

follows : (known : Known) (kind : Kind) (kinds : List Kind) (x : SaidAll kinds) → MayFollow kind kinds → Follows kind (words_of_all known kinds x)
follows known a_view kinds x f = tt
follows known a_window kinds x f = tt
follows known a_bitmap kinds x f = tt
follows known a_focus kinds x f = tt
follows known a_point kinds x f = tt
follows known a_rect kinds x f = tt
follows known a_distance kinds x f = tt
follows known a_size kinds x f = tt
follows known a_pen_size kinds x f = tt
follows known a_pattern kinds x f = tt
follows known a_color kinds x f = tt
follows known a_mode kinds x f = tt
follows known a_text kinds x f = nothing_of_none known kinds x f
follows known a_clip kinds x f = nothing_of_none known kinds x f

pub all_back : (known : Known) → AreKnown known → (kinds : List Kind) (x : SaidAll kinds) (at : At) → IsRow kinds → AreWithin known kinds x → at.text ≡ words_of_all known kinds x →
    Reads (said_all known kinds at) (after_all kinds at) x []
all_back known k [] x at row fits e = record { said_is = refl; text_is = e }
all_back known k (kind ∷ kinds) x at row fits e =
    let rest = words_of_all known kinds x.1 in
    let first = kind_back known k kind x.0 rest at fits.0 (follows known kind kinds x.1 row.0) (begins_all known kinds x.1 fits.1) e in
    let second = all_back known k kinds x.1 (after kind at) row.1 fits.1 first.text_is in
    both_back (said known kind at) (said_all known kinds (after kind at)) (after kind at) (after_all kinds (after kind at)) x.0 x.1 rest [] first second
