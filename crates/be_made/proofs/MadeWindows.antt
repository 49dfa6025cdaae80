-- The lines of a made script's windows are read.
use Rattle.std.proofs.Common.{◌≡◌, ℕ, ◌+◌, ◌/◌, ◌%◌, ◌^◌, ◌<◌, ◌≤◌, pos, true, false}
use Rattle.std.proofs.Common.{nat_le, List, [], ◌∷◌, ◌++◌, length, map, take, codes}
use Rattle.std.proofs.Common.{Some, None, Ok, refl, sym, ap, ◌∙◌, subst, arith, length-append}
use Rattle.std.specs.Fmt.{decimal}
use Rattle.std.specs.Prelude.{◌-ℤ◌}
use Rattle.std.proofs.lemmas.Bool.Decides.{nat_tests}
use Rattle.std.proofs.lemmas.Int.{ints}
use Rattle.std.proofs.lemmas.List.{map-append}
use Rattle.be_facts.proofs.Bytes.{small_byte}
use Rattle.be_color.specs.declared.colors.Color.{Color}
use Rattle.be_color.specs.declared.colors.Color.TheVariants.{Solid}
use Rattle.be_color.specs.declared.colors.Rgb.{Rgb}
use Rattle.be_command.specs.Kinds.{coordinate}
use Rattle.be_geom.specs.Points.{between}
use Rattle.be_lex.specs.Colors.{color_of, color_text, rgb_text}
use Rattle.be_lex.specs.Hex.{are_bytes}
use Rattle.be_lex.proofs.HexSpelling.{are_bytes_each}
use Rattle.be_lex.proofs.ValueSpelling.{color_of-color_text}
use Rattle.be_line.specs.declared.options.Options.{Options}
use Rattle.be_line.specs.declared.statement.Statement.TheVariants as statement
use Rattle.be_line.specs.FirstWords.{statement_of}
use Rattle.be_line.specs.Options.{option_of, options_said}
use Rattle.be_machine.specs.Schedule.{next_random, chosen_place}
use Rattle.be_reader.specs.Forms.{form_of}
use Rattle.be_reader.specs.LineDeeds.{deed_said}
use Rattle.be_said.specs.Deeds.{adds_window, sizes_screen}
use Rattle.be_said.specs.Judging.{done}
use Rattle.be_said.specs.Names.{new_name}
use Rattle.be_said.specs.SoFar.{SoFar, nothing, nothing_said}
use Rattle.be_script.specs.declared.WindowLine.{WindowLine}
use Rattle.be_script.specs.Limits.{is_frame}
use Rattle.be_written.specs.Lines.{line_of}
use Rattle.be_lex.specs.Numbers.{is_number, number_of}
use Rattle.be_made.specs.Made.{name, color_word, window_text}
use Rattle.be_made.proofs.PlainWords.{is_plain, are_plain, is_plain_byte}
use Rattle.be_made.proofs.PlainWords.{plain-decimal, plain-hex, joined}
use Rattle.be_made.proofs.MadeReading.{Reads, reads_line}
use Rattle.be_made.proofs.MadeStates.{state, known_read, coordinate_read, name_is, w_names, w_new}
use Rattle.be_made.proofs.MadeStates.{w_more}

-- ---- words that are plain

abbrev pub AllPlain : List (List ℕ) → Type 0
AllPlain [] = Unit {0}
AllPlain (word ∷ words) = (is_plain word ≡ true) × AllPlain words

both_plain : (word : List ℕ) (words : List (List ℕ)) → is_plain word ≡ true →
    are_plain words ≡ true → are_plain (word ∷ words) ≡ true
both_plain word words h hs = rw (h, hs) refl

pub plain_all : (words : List (List ℕ)) → AllPlain words → are_plain words ≡ true
plain_all [] all = refl
plain_all (word ∷ words) all = both_plain word words all.0 (plain_all words all.1)

is_plain_digit : (d : ℕ) → d < 10 → is_plain_byte (48 + d) ≡ true
is_plain_digit d h = grind (arith, nat_tests)

two_plain : (letter d : ℕ) → is_plain_byte letter ≡ true → is_plain_byte d ≡ true →
    is_plain (letter ∷ d ∷ []) ≡ true
two_plain letter d h k = rw (h, k) refl

pub plain-name : (letter i : ℕ) → is_plain_byte letter ≡ true → i < 10 →
    is_plain (name (letter ∷ []) i) ≡ true
plain-name letter i h lt = subst (λ (word : List ℕ). is_plain word ≡ true)
    (sym (name_is letter i lt)) (two_plain letter (48 + i) h (is_plain_digit i lt))

-- ---- what is drawn is below its bound

pub drawn_below : (x k : ℕ) → 0 < k → chosen_place x k < k
drawn_below x k some = below (x / 2 ^ 33) k some
  where
    below : (n k : ℕ) → 0 < k → n % k < k
    below n k some = omega arith

-- ---- the screen

a_screen : statement_of (codes "screen") ≡ Some statement.Screen
unfolding statement_of
a_screen = refl

screen_deed : deed_said nothing_said statement.Screen
    (record {
      words = codes "640" ∷ codes "480" ∷ [];
      window = None;
      text = joined
          (codes "screen" ∷ codes "640" ∷ codes "480" ∷ []);
    }) ≡ Ok (sizes_screen 640 480)
unfolding deed_said form_of is_number number_of between
screen_deed = refl

screen_done : done nothing_said (sizes_screen 640 480) ≡ Ok (state [] [] [] [] nothing)
unfolding done
screen_done = refl

pub screen_reads : Reads 200 (line_of (codes "screen" ∷ codes "640" ∷ codes "480" ∷ []))
    nothing_said (state [] [] [] [] nothing)
screen_reads =
    reads_line (codes "screen") (codes "640" ∷ codes "480" ∷ []) nothing_said
    (state [] [] [] [] nothing) refl refl (omega arith) refl
    (known_read nothing_said (state [] [] [] [] nothing) (codes "screen") statement.Screen
    (record {
      words = codes "640" ∷ codes "480" ∷ [];
      window = None;
      text = joined
          (codes "screen" ∷ codes "640" ∷ codes "480" ∷ []);
    })
    (sizes_screen 640 480) a_screen refl screen_deed screen_done)

-- ---- colours

abbrev pub rgb_made : ℕ → Rgb
rgb_made c = record { red = c / 65536; green = c / 256 % 256; blue = c % 256 }

three_bytes : (r g b : ℕ) → r < 256 → g < 256 → b < 256 → are_bytes (r ∷ g ∷ b ∷ []) ≡ true
three_bytes r g b hr hg hb = rw (small_byte r hr, small_byte g hg, small_byte b hb) refl

pub bytes_made : (c : ℕ) → c < 16777216 →
    are_bytes (c / 65536 ∷ c / 256 % 256 ∷ c % 256 ∷ []) ≡ true
bytes_made c h = three_bytes (c / 65536) (c / 256 % 256) (c % 256) (omega arith) (omega arith)
    (omega arith)

pub color_is : (c : ℕ) → color_text (Solid (rgb_made c)) ≡ color_word c
unfolding color_text rgb_text
color_is c = refl

pub color_read : (c : ℕ) → c < 16777216 → color_of (color_word c) ≡ Some (Solid (rgb_made c))
color_read c h =
    subst (λ (word : List ℕ). color_of word ≡ Some (Solid (rgb_made c))) (color_is c)
    (color_of-color_text (Solid (rgb_made c)) (bytes_made c h))

abbrev options_made : Color → Options
options_made color = record { first_click = false; avoid_focus = false; port = 100; color = color }

option_read : (word : List ℕ) (color : Color) → color_of word ≡ Some color →
    options_said ((codes "color=" ++ word) ∷ []) ≡ Ok (options_made color)
unfolding options_said option_of
option_read word color read = rw read refl

-- ---- a window

abbrev pub window_made : List ℕ → ℕ → ℕ → ℕ → ℕ → Color → WindowLine
window_made word l t r b color = record {
  name = word;
  frame = record { left = pos l; top = pos t; right = pos r; bottom = pos b };
  first_click = false;
  avoid_focus = false;
  port = 100;
  color = color;
}

edges_apart : (low high : ℕ) → low ≤ high → high ≤ 32767 →
    between (pos 0) (pos high -ℤ pos low) (pos 32767) ≡ true
unfolding between
edges_apart low high h few = grind (arith, ints)

frame_made : (l t r b : ℕ) → l ≤ r → r ≤ 32767 → t ≤ b → b ≤ 32767 →
    is_frame (record { left = pos l; top = pos t; right = pos r; bottom = pos b }) ≡ true
frame_made l t r b wide right high bottom = rw
    (edges_apart l r wide right, edges_apart t b high bottom) refl

a_window : statement_of (codes "window") ≡ Some statement.Window
unfolding statement_of
a_window = refl

window_deed : (windows : List WindowLine) (word lw tw rw' bw ow text : List ℕ) (l t r b : ℕ)
    (color : Color) → new_name (map (λ line. line.name) windows) word ≡ Ok word →
    coordinate lw ≡ Ok (pos l) → coordinate tw ≡ Ok (pos t) → coordinate rw' ≡ Ok (pos r) →
    coordinate bw ≡ Ok (pos b) →
    is_frame (record { left = pos l; top = pos t; right = pos r; bottom = pos b }) ≡ true →
    options_said (ow ∷ []) ≡ Ok (options_made color) →
    deed_said (state windows [] [] [] nothing) statement.Window
    (record { words = word ∷ lw ∷ tw ∷ rw' ∷ bw ∷ ow ∷ []; window = None; text = text }) ≡
    Ok (adds_window (window_made word l t r b color))
unfolding deed_said form_of
window_deed windows word lw tw rw' bw ow text l t r b color new left top right bottom frame options
    = rw (new, left, top, right, bottom, frame, options) refl

few_windows : (n : ℕ) → n < 32 → nat_le 32 n ≡ false
few_windows n h = grind (arith, nat_tests)

window_done : (windows : List WindowLine) (line : WindowLine) → length windows < 32 →
    done (state windows [] [] [] nothing) (adds_window line) ≡
    Ok (state (windows ++ line ∷ []) [] [] [] nothing)
unfolding done
window_done windows line few = rw (few_windows (length windows) few) refl

window_reads : (windows : List WindowLine) (i l t r b c : ℕ) → i < 8 → l ≤ r → r ≤ 32767 → t ≤ b →
    b ≤ 32767 → c < 16777216 → map (λ line. line.name) windows ≡ take i w_names →
    length windows ≡ i →
    Reads 200 (line_of (codes "window" ∷ name (codes "w") i ∷ decimal l ∷ decimal t ∷ decimal r ∷
    decimal b ∷ (codes "color=" ++ color_word c) ∷ [])) (state windows [] [] [] nothing)
    (state (windows ++ window_made (name (codes "w") i) l t r b (Solid (rgb_made c)) ∷ []) [] [] []
    nothing)
window_reads windows i l t r b c lt wide right high bottom color names count =
    let word : List ℕ = name (codes "w") i in
    let option : List ℕ = codes "color=" ++ color_word c in
    let words : List (List ℕ) = word ∷ decimal l ∷ decimal t ∷ decimal r ∷ decimal b ∷ option ∷ []
    in
    let old : SoFar = state windows [] [] [] nothing in
    let line : WindowLine = window_made word l t r b (Solid (rgb_made c)) in
    let new : SoFar = state (windows ++ line ∷ []) [] [] [] nothing in
    let is_new : new_name (map (λ line. line.name) windows) word ≡ Ok word = subst
    (λ (there : List (List ℕ)). new_name there word ≡ Ok word) (sym names) (w_new i lt) in
    let plain : are_plain words ≡ true =
    plain_all words (
      plain-name 119 i refl (omega arith),
      (
        plain-decimal l (omega arith),
        (
          plain-decimal t (omega arith),
          (
            plain-decimal r (omega arith),
            (
              plain-decimal b (omega arith),
              (
                plain-hex (codes "color=") (c / 65536 ∷ c / 256 % 256 ∷ c % 256 ∷ [])
                    refl (omega arith) refl
                    (are_bytes_each (c / 65536 ∷ c / 256 % 256 ∷ c % 256 ∷ [])
                    (bytes_made c color)),
                tt,
              ),
            ),
          ),
        ),
      ),
    ) in
    let text : List ℕ = joined (codes "window" ∷ words) in
    reads_line (codes "window") words old new refl plain (omega arith) refl
    (known_read old new (codes "window") statement.Window
    (record { words = words; window = None; text = text }) (adds_window line) a_window refl
    (window_deed windows word (decimal l) (decimal t) (decimal r) (decimal b) option text l t r b
    (Solid (rgb_made c)) is_new (coordinate_read l (omega arith)) (coordinate_read t (omega arith))
    (coordinate_read r right) (coordinate_read b bottom) (frame_made l t r b wide right high bottom)
    (option_read (color_word c) (Solid (rgb_made c)) (color_read c color)))
    (window_done windows line (omega arith)))

-- ---- all windows

pub record AreWindows (i : ℕ) (windows : List WindowLine) : Type 0 where
  pub names : map (λ line. line.name) windows ≡ take i w_names
  pub count : length windows ≡ i

one_more : (i : ℕ) (windows : List WindowLine) (line : WindowLine) → i < 8 →
    line.name ≡ name (codes "w") i → AreWindows i windows →
    AreWindows (i + 1) (windows ++ line ∷ [])
one_more i windows line lt is all = record {
  names =
      map-append (λ (l : WindowLine). l.name) windows (line ∷ [])
      ∙ ap (λ (names : List (List ℕ)). names ++ line.name ∷ []) all.names
      ∙ ap (λ (word : List ℕ). take i w_names ++ word ∷ []) is
      ∙ w_more i lt;
  count = let many = length-append windows (line ∷ []) in let now = all.count in omega arith;
}

-- with its numbers
some_window : (windows : List WindowLine) (i l t w h c : ℕ) → i < 8 → l < 400 → t < 300 → w < 200 →
    h < 150 → c < 16777216 → AreWindows i windows →
    (next : List WindowLine) × AreWindows (i + 1) next
    × Reads 200 (line_of (codes "window" ∷ name (codes "w") i ∷ decimal l ∷ decimal t ∷ decimal
    (l + (w + 20)) ∷ decimal (t + (h + 20)) ∷ (codes "color=" ++ color_word c) ∷ []))
    (state windows [] [] [] nothing)
    (state next [] [] [] nothing)
some_window windows i l t w h c lt hl ht hw hh hc all =
    let line : WindowLine = window_made (name (codes "w") i) l t (l + (w + 20)) (t + (h + 20))
    (Solid (rgb_made c)) in (
      windows ++ line ∷ [],
      one_more i windows line lt refl all,
      window_reads windows i l t (l + (w + 20)) (t + (h + 20)) c lt (omega arith) (omega arith)
          (omega arith) (omega arith) hc all.names all.count,
    )

pub each_window : (i x : ℕ) (windows : List WindowLine) → i < 8 → AreWindows i windows →
    (next : List WindowLine) × AreWindows (i + 1) next
    × Reads 200 (window_text i x).0 (state windows [] [] [] nothing) (state next [] [] [] nothing)
each_window i x windows lt all =
    let a : ℕ = next_random x in
    let b : ℕ = next_random a in
    let c : ℕ = next_random b in
    let d : ℕ = next_random c in
    let e : ℕ = next_random d in
    some_window windows i (chosen_place a 400) (chosen_place b 300) (chosen_place c 200)
    (chosen_place d 150) (chosen_place e 16777216) lt
    (drawn_below a 400 (omega arith)) (drawn_below b 300 (omega arith))
    (drawn_below c 200 (omega arith)) (drawn_below d 150 (omega arith))
    (drawn_below e 16777216 (omega arith)) all
