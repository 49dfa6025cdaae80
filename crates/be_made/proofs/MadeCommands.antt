-- The commands of a made script are read.
use Rattle.std.proofs.Common.{◌≡◌, ℕ, ◌<◌, ◌≤◌, ℤ, pos, negsuc, unsigned_abs, true, List}
use Rattle.std.proofs.Common.{[], ◌∷◌, ◌++◌, codes, Ok, refl, subst, arith}
use Rattle.std.proofs.Common.{append_assoc}
use Rattle.std.specs.Fmt.{decimal}
use Rattle.std.specs.Prelude.{◌-ℤ◌}
use Rattle.std.proofs.lemmas.Int.{ints}
use Rattle.be_color.specs.declared.colors.Color.{Color}
use Rattle.be_color.specs.declared.colors.Color.TheVariants.{Solid}
use Rattle.be_color.specs.declared.patterns.Pattern.{Pattern}
use Rattle.be_command.specs.declared.Command.{Command}
use Rattle.be_command.specs.declared.Command.TheVariants as command
use Rattle.be_command.specs.declared.first_word.FirstWord.TheVariants as first
use Rattle.be_command.specs.Forms.{form_of}
use Rattle.be_command.specs.Laws.{AreKnown, IsSpoken}
use Rattle.be_command.specs.Names.{Known}
use Rattle.be_command.specs.Reading.{command_of, command_or_reason}
use Rattle.be_command.specs.Spelling.{spelling}
use Rattle.be_command.proofs.LawLemmas.{command_of-spelling}
use Rattle.be_geom.specs.declared.change.Change.TheVariants as change
use Rattle.be_geom.specs.declared.rect.Rect.{Rect}
use Rattle.be_geom.specs.Points.{between}
use Rattle.be_lex.specs.Colors.{color_text, is_color}
use Rattle.be_lex.specs.Names.{is_name_within, is_reserved_name}
use Rattle.be_lex.specs.Patterns.{high_rows, mixed_rows, with_rows, pattern_text, is_pattern}
use Rattle.be_made.specs.Made.{color_word, step_word}
use Rattle.be_made.proofs.PlainWords.{joined}
use Rattle.be_made.proofs.MadeStates.{w_names, coordinate_in}
use Rattle.be_made.proofs.MadeWindows.{rgb_made, bytes_made, color_is}

-- the names of a script without bitmaps and views but the root
abbrev pub known_root : List (List ℕ) → Known
known_root names = record { windows = names; views = codes "root" ∷ []; bitmaps = [] }

are_known : AreKnown (known_root w_names)
unfolding is_name_within is_reserved_name
are_known = record {
  windows = record { each = refl; differ = refl };
  beside_root = [];
  root_first = refl;
  views = record { each = refl; differ = refl };
  bitmaps = record { each = refl; differ = refl };
}

-- a line that spells a command is read as that
pub command_read : (c : Command) (text : List ℕ) → IsSpoken (known_root w_names) c →
    spelling (known_root w_names) c ≡ text → command_or_reason (known_root w_names) text ≡ Ok c
unfolding command_or_reason
command_read c text spoken spelled =
    let read : command_of (known_root w_names) text ≡ Ok c =
    subst (λ (line : List ℕ). command_of (known_root w_names) line ≡ Ok c) spelled
    (command_of-spelling (known_root w_names) c are_known spoken) in
    rw read refl

-- ---- filling

abbrev pub rect_made : ℕ → ℕ → ℕ → ℕ → Rect
rect_made l t r b = record { left = pos l; top = pos t; right = pos r; bottom = pos b }

six : (a b c d e f : List ℕ) → (a ++ ((b ++ c) ++ (d ++ e))) ++ f ≡ a ++
    (b ++ (c ++ (d ++ (e ++ f))))
six a b c d e f = simp append_assoc

fill_text : (l t r b p : List ℕ) →
    ((codes "fill" ++ (32 ∷ codes "root")) ++ (((32 ∷ l) ++ (32 ∷ t)) ++ ((32 ∷ r) ++ (32 ∷ b)))) ++
    (32 ∷ p) ≡ joined (codes "fill" ∷ codes "root" ∷ l ∷ t ∷ r ∷ b ∷ p ∷ [])
fill_text l t r b p = six (codes "fill root") (32 ∷ l) (32 ∷ t) (32 ∷ r) (32 ∷ b) (32 ∷ p)

fill_spelled : (l t r b : ℕ) (p : Pattern) (word : List ℕ) → pattern_text p ≡ word →
    spelling (known_root w_names) (command.Fill 0 (rect_made l t r b) p) ≡ joined
    (codes "fill" ∷ codes "root" ∷ decimal l ∷ decimal t ∷ decimal r ∷ decimal b ∷ word ∷ [])
unfolding spelling
fill_spelled l t r b p word is = rw is (fill_text (decimal l) (decimal t) (decimal r) (decimal b)
    word)

fill_spoken : (l t r b : ℕ) (p : Pattern) → l ≤ 32767 → t ≤ 32767 → r ≤ 32767 → b ≤ 32767 →
    is_pattern p ≡ true → IsSpoken (known_root w_names) (command.Fill 0 (rect_made l t r b) p)
unfolding form_of
fill_spoken l t r b p hl ht hr hb is = record {
  word = first.Fill;
  said = (0, (rect_made l t r b, (p, tt)));
  within = (
    omega arith,
    (
      (
        (coordinate_in l hl, coordinate_in t ht),
        (coordinate_in r hr, coordinate_in b hb),
      ),
      (is, tt),
    ),
  );
  made = refl;
}

abbrev pub mixed_pattern : Pattern
mixed_pattern = with_rows mixed_rows

abbrev pub high_pattern : Pattern
high_pattern = with_rows high_rows

mixed_text : pattern_text mixed_pattern ≡ codes "mixed"
unfolding pattern_text
mixed_text = refl

high_text : pattern_text high_pattern ≡ codes "high"
unfolding pattern_text
high_text = refl

pub mixed_read : (l t r b : ℕ) → l ≤ 32767 → t ≤ 32767 → r ≤ 32767 → b ≤ 32767 →
    command_or_reason (known_root w_names)
    (joined (codes "fill" ∷ codes "root" ∷ decimal l ∷ decimal t ∷ decimal r ∷ decimal b ∷
    codes "mixed" ∷ [])) ≡ Ok (command.Fill 0 (rect_made l t r b) mixed_pattern)
mixed_read l t r b hl ht hr hb =
    command_read (command.Fill 0 (rect_made l t r b) mixed_pattern)
    (joined (codes "fill" ∷ codes "root" ∷ decimal l ∷ decimal t ∷ decimal r ∷ decimal b ∷
    codes "mixed" ∷ []))
    (fill_spoken l t r b mixed_pattern hl ht hr hb refl)
    (fill_spelled l t r b mixed_pattern (codes "mixed") mixed_text)

pub high_fill_read : (l t r b : ℕ) → l ≤ 32767 → t ≤ 32767 → r ≤ 32767 → b ≤ 32767 →
    command_or_reason (known_root w_names)
    (joined (codes "fill" ∷ codes "root" ∷ decimal l ∷ decimal t ∷ decimal r ∷ decimal b ∷
    codes "high" ∷ [])) ≡ Ok (command.Fill 0 (rect_made l t r b) high_pattern)
high_fill_read l t r b hl ht hr hb =
    command_read (command.Fill 0 (rect_made l t r b) high_pattern)
    (joined (codes "fill" ∷ codes "root" ∷ decimal l ∷ decimal t ∷ decimal r ∷ decimal b ∷
    codes "high" ∷ []))
    (fill_spoken l t r b high_pattern hl ht hr hb refl)
    (fill_spelled l t r b high_pattern (codes "high") high_text)

-- ---- changes

show_spoken : IsSpoken (known_root w_names) (command.Change change.Show)
unfolding form_of
show_spoken = record { word = first.Show; said = tt; within = tt; made = refl }

show_spelled : spelling (known_root w_names) (command.Change change.Show) ≡ joined
    (codes "show" ∷ [])
unfolding spelling
show_spelled = refl

pub show_read : command_or_reason (known_root w_names) (joined (codes "show" ∷ [])) ≡
    Ok (command.Change change.Show)
show_read = command_read (command.Change change.Show) (joined (codes "show" ∷ [])) show_spoken
    show_spelled

activate_spoken : IsSpoken (known_root w_names) (command.Change change.Activate)
unfolding form_of
activate_spoken = record { word = first.Activate; said = tt; within = tt; made = refl }

activate_spelled : spelling (known_root w_names) (command.Change change.Activate) ≡ joined
    (codes "activate" ∷ [])
unfolding spelling
activate_spelled = refl

pub activate_read : command_or_reason (known_root w_names) (joined (codes "activate" ∷ [])) ≡
    Ok (command.Change change.Activate)
activate_read = command_read (command.Change change.Activate) (joined (codes "activate" ∷ []))
    activate_spoken activate_spelled

abbrev pub distance_made : ℕ → ℤ
distance_made n = pos n -ℤ pos 20

distance_in : (n : ℕ) → n < 41 → between (negsuc 65534) (distance_made n) (pos 65535) ≡ true
unfolding between
distance_in n h = grind (arith, ints)

pub distance_small : (n : ℕ) → n < 41 → unsigned_abs (distance_made n) < 100000
distance_small n h = grind (arith, ints)

move_spoken : (m n : ℕ) → m < 41 → n < 41 →
    IsSpoken (known_root w_names) (command.Change
    (change.MoveBy (distance_made m) (distance_made n)))
unfolding form_of
move_spoken m n hm hn = record {
  word = first.MoveBy;
  said = ((distance_made m, distance_made n), tt);
  within = ((distance_in m hm, distance_in n hn), tt);
  made = refl;
}

move_spelled : (m n : ℕ) → spelling (known_root w_names)
    (command.Change (change.MoveBy (distance_made m) (distance_made n))) ≡ joined
    (codes "moveby" ∷ step_word m ∷ step_word n ∷ [])
unfolding spelling
move_spelled m n = refl

pub move_read : (m n : ℕ) → m < 41 → n < 41 →
    command_or_reason (known_root w_names)
    (joined (codes "moveby" ∷ step_word m ∷ step_word n ∷ [])) ≡
    Ok (command.Change (change.MoveBy (distance_made m) (distance_made n)))
move_read m n hm hn =
    command_read (command.Change (change.MoveBy (distance_made m) (distance_made n)))
    (joined (codes "moveby" ∷ step_word m ∷ step_word n ∷ [])) (move_spoken m n hm hn)
    (move_spelled m n)

-- ---- a colour

color_spoken : (color : Color) → is_color color ≡ true →
    IsSpoken (known_root w_names) (command.High 0 color)
unfolding form_of
color_spoken color is = record {
  word = first.High;
  said = (0, (color, tt));
  within
      = (omega arith, (is, tt));
  made = refl;
}

color_spelled : (color : Color) (word : List ℕ) → color_text color ≡ word →
    spelling (known_root w_names) (command.High 0 color) ≡ joined
    (codes "high" ∷ codes "root" ∷ word ∷ [])
unfolding spelling
color_spelled color word is = rw is refl

pub color_command_read : (c : ℕ) → c < 16777216 →
    command_or_reason (known_root w_names)
    (joined (codes "high" ∷ codes "root" ∷ color_word c ∷ [])) ≡
    Ok (command.High 0 (Solid (rgb_made c)))
color_command_read c h =
    command_read (command.High 0 (Solid (rgb_made c)))
    (joined (codes "high" ∷ codes "root" ∷ color_word c ∷ []))
    (color_spoken (Solid (rgb_made c)) (bytes_made c h))
    (color_spelled (Solid (rgb_made c)) (color_word c) (color_is c))
