-- What is read of each kind is within its limits.
use Rattle.std.proofs.Common.{◌≡◌, ℕ, zero, suc, ◌+◌, ◌<◌, ◌≤◌, ℤ, pos, negsuc, unsigned_abs, Bool, true, false, cond, length, refl, arith, List, [], ◌∷◌, Option, Some, None, is_some, Result, Ok, Err, ap, ◌∙◌, subst, codes}
use Rattle.std.proofs.lemmas.Int.{ints}
use Rattle.std.specs.List.{position_from}
use Rattle.std.specs.Option.{ok_or}
use Rattle.std.specs.Str.{bytes_eq}
use Rattle.be_geom.specs.declared.point.Point.{Point}
use Rattle.be_geom.specs.declared.rect.Rect.{Rect}
use Rattle.be_geom.specs.Points.{between}
use Rattle.be_color.specs.declared.colors.Color.{Color}
use Rattle.be_color.specs.declared.patterns.Pattern.{Pattern}
use Rattle.be_lex.specs.Names.{is_name}
use Rattle.be_lex.specs.Colors.{color_of, is_color}
use Rattle.be_lex.specs.Patterns.{pattern_of, is_pattern}
use Rattle.be_lex.proofs.ValuesRead.{is_color-color_of, is_pattern-pattern_of}
use Rattle.be_command.specs.declared.fault.Reason.{Reason}
use Rattle.be_command.specs.declared.fault.Reason.TheVariants.{Shape, UnknownName}
use Rattle.be_command.specs.Faults.{both, said_as}
use Rattle.be_command.specs.Names.{Known, number_in}
use Rattle.be_command.specs.Limits.{is_written_text}
use Rattle.be_command.specs.Places.{At, word_at, after_word, said_at, judged, next_said}
use Rattle.be_command.specs.Kinds.{Kind, a_view, a_window, a_bitmap, a_focus, a_point, a_rect, a_distance, a_size, a_pen_size, a_pattern, a_color, a_mode, a_text, a_clip, Said, said, after, SaidAll, said_all, named, focus_named, as_focus, numbered, coordinate, formed, pair_at, after_pair, point_at, rect_at, after_rect, rest_said, rects_at, is_none_word, clip_at}
use Rattle.be_command.specs.Laws.{IsPoint, IsRect, AreRects, IsClip, IsFocus, IsWithin, AreWithin}
use Rattle.be_command.proofs.FaultLemmas.{ok-both, ok-said_as}
use Rattle.be_command.proofs.JudgingLemmas.{numbered_within}

-- ---- one word

said_ok : {A : Type 0} (place : ℕ) (r : Result A Reason) (x : A) → said_at place r ≡ Ok x → r ≡ Ok x
said_ok place (Ok y) x e = (cc)
said_ok place (Err reason) x e = (cc)

pub judged_ok : {A : Type 0} (read : List ℕ → Result A Reason) (word : Option (List ℕ)) (x : A) → judged read word ≡ Ok x → (w : List ℕ) × (read w ≡ Ok x)
judged_ok read None x e = (cc)
judged_ok read (Some w) x e = (w, e)

next_ok : {A : Type 0} (read : List ℕ → Result A Reason) (at : At) (x : A) → next_said read at ≡ Ok x → (w : List ℕ) × (read w ≡ Ok x)
next_ok read at x e = judged_ok read (word_at at) x (said_ok at.place (judged read (word_at at)) x e)

-- ---- names

place_below : (here : Bool) (first n count : ℕ) (behind : Option ℕ) → cond here (Some first) behind ≡ Some n → (behind ≡ Some n → n < (first + 1) + count) → n < first + (count + 1)
place_below true first n count behind e below = let same : first ≡ n = (cc) in omega arith
place_below false first n count behind e below = let less = below e in omega arith

position_below : (test : List ℕ → Bool) (names : List (List ℕ)) (first n : ℕ) → position_from test first names ≡ Some n → n < first + length names
position_below test [] first n e = (cc)
position_below test (name ∷ names) first n e =
    let less = place_below (test name) first n (length names) (position_from test (first + 1) names) e (position_below test names (first + 1) n) in
    omega arith

found_ok : (o : Option ℕ) (n : ℕ) → ok_or o UnknownName ≡ Ok n → o ≡ Some n
found_ok None n e = (cc)
found_ok (Some m) n e = (cc)

named_below : (is : Bool) (names : List (List ℕ)) (word : List ℕ) (n : ℕ) → cond is (ok_or (number_in names word) UnknownName) (Err Shape) ≡ Ok n → n < length names
named_below true names word n e = let below = position_below (λ other. bytes_eq other word) names 0 n (found_ok (number_in names word) n e) in omega arith
named_below false names word n e = (cc)

named_within : (names : List (List ℕ)) (word : List ℕ) (n : ℕ) → named names word ≡ Ok n → n < length names
named_within names word n e = named_below (is_name word) names word n e

name_within : (names : List (List ℕ)) (at : At) (n : ℕ) → next_said (named names) at ≡ Ok n → n < length names
name_within names at n e = let w = next_ok (named names) at n e in named_within names w.0 n w.1

focus_some : (names : List (List ℕ)) (r : Result ℕ Reason) (f : Option ℕ) → ((n : ℕ) → r ≡ Ok n → n < length names) → as_focus r ≡ Ok f → IsFocus names f
focus_some names (Ok v) None below e = tt
focus_some names (Ok v) (Some n) below e = let same : v ≡ n = (cc) in below n (ap Ok same)
focus_some names (Err reason) f below e = (cc)

abbrev reading : Option ℕ → Result (Option ℕ) Reason
reading f = Ok f

focus_none : (names : List (List ℕ)) (f : Option ℕ) → reading None ≡ Ok f → IsFocus names f
focus_none names None e = tt
focus_none names (Some n) e = (cc)

focus_or : (none : Bool) (names : List (List ℕ)) (word : List ℕ) (f : Option ℕ) → cond none (Ok None) (as_focus (named names word)) ≡ Ok f → IsFocus names f
focus_or true names word f e = focus_none names f e
focus_or false names word f e = focus_some names (named names word) f (named_within names word) e

focus_within : (names : List (List ℕ)) (at : At) (f : Option ℕ) → next_said (focus_named names) at ≡ Ok f → IsFocus names f
focus_within names at f e = let w = next_ok (focus_named names) at f e in focus_or (bytes_eq w.0 (codes "none")) names w.0 f w.1

-- ---- numbers

number_within : (low high : ℤ) (at : At) (z : ℤ) → next_said (numbered low high) at ≡ Ok z → between low z high ≡ true
number_within low high at z e = numbered_within low high (word_at at) z (said_ok at.place (judged (numbered low high) (word_at at)) z e)

pair_within : (low high : ℤ) (at : At) (p : ℤ × ℤ) → pair_at (numbered low high) at ≡ Ok p → (between low p.0 high ≡ true) × (between low p.1 high ≡ true)
pair_within low high at p e =
    let parts = ok-both (next_said (numbered low high) at) (next_said (numbered low high) (after_word at)) p e in
    (number_within low high at p.0 parts.0, number_within low high (after_word at) p.1 parts.1)

point_within : (at : At) (p : Point) → point_at at ≡ Ok p → IsPoint p
point_within at p e =
    let x = ok-said_as (λ (q : ℤ × ℤ). record { x = q.0; y = q.1 }) (pair_at coordinate at) p e in
    subst (λ (q : Point). IsPoint q) x.1.1 (pair_within (negsuc 32767) (pos 32767) at x.0 x.1.0)

rect_within : (at : At) (r : Rect) → rect_at at ≡ Ok r → IsRect r
rect_within at r e =
    let x = ok-said_as (λ (q : (ℤ × ℤ) × (ℤ × ℤ)). record { left = q.0.0; top = q.0.1; right = q.1.0; bottom = q.1.1 }) (both (pair_at coordinate at) (pair_at coordinate (after_pair at))) r e in
    let parts = ok-both (pair_at coordinate at) (pair_at coordinate (after_pair at)) x.0 x.1.0 in
    subst (λ (q : Rect). IsRect q) x.1.1 (pair_within (negsuc 32767) (pos 32767) at x.0.0 parts.0, pair_within (negsuc 32767) (pos 32767) (after_pair at) x.0.1 parts.1)

pen_range : (z : ℤ) (n : ℕ) → between (pos 1) z (pos 32) ≡ true → unsigned_abs z ≡ n → (1 ≤ n) × (n ≤ 32)
unfolding between
pen_range z n within e = (grind (arith, ints), grind (arith, ints))

pen_size_within : (at : At) (n : ℕ) → said_as unsigned_abs (next_said (numbered (pos 1) (pos 32)) at) ≡ Ok n → (1 ≤ n) × (n ≤ 32)
pen_size_within at n e =
    let x = ok-said_as unsigned_abs (next_said (numbered (pos 1) (pos 32)) at) n e in
    pen_range x.0 n (number_within (pos 1) (pos 32) at x.0 x.1.0) x.1.1

-- ---- colours and patterns

pub formed_ok : {A : Type 0} (o : Option A) (x : A) → formed o ≡ Ok x → o ≡ Some x
formed_ok None x e = (cc)
formed_ok (Some y) x e = (cc)

color_within : (at : At) (c : Color) → next_said (λ word. formed (color_of word)) at ≡ Ok c → is_color c ≡ true
color_within at c e = let w = next_ok (λ word. formed (color_of word)) at c e in is_color-color_of w.0 c (formed_ok (color_of w.0) c w.1)

pattern_within : (at : At) (p : Pattern) → next_said (λ word. formed (pattern_of word)) at ≡ Ok p → is_pattern p ≡ true
pattern_within at p e = let w = next_ok (λ word. formed (pattern_of word)) at p e in is_pattern-pattern_of w.0 p (formed_ok (pattern_of w.0) p w.1)

-- ---- texts and clips

rest_within : (rest text : List ℕ) → rest_said rest ≡ Ok text → is_written_text text ≡ true
rest_within [] text e = (cc)
rest_within (space ∷ rest) text e = by (is_written_text rest) refl e
  where
    by : (b : Bool) → is_written_text rest ≡ b → cond b (Ok rest) (Err Shape) ≡ Ok text → is_written_text text ≡ true
    by true h e = let same : rest ≡ text = (cc) in subst (λ (t : List ℕ). is_written_text t ≡ true) same h
    by false h e = (cc)

record AreFew (most : ℕ) (rects : List Rect) : Type 0 where
  few : length rects ≤ most
  fits : AreRects rects

abbrev more : Rect × List Rect → List Rect
more x = x.0 ∷ x.1

few_behind : (some : Bool) (most : ℕ) (at : At) (rects : List Rect) → ((xs : List Rect) → rects_at most at ≡ Ok xs → AreFew most xs) → cond some (rects_at most at) (Ok []) ≡ Ok rects → AreFew most rects
few_behind true most at rects rest e = rest rects e
few_behind false most at [] rest e = record { few = omega arith; fits = tt }
few_behind false most at (r ∷ rects) rest e = (cc)

rects_few : (most : ℕ) (at : At) (rects : List Rect) → rects_at most at ≡ Ok rects → AreFew most rects
rects_few zero at [] e = record { few = omega arith; fits = tt }
rects_few zero at (r ∷ rects) e = (cc)
rects_few (suc most) at rects e =
    let behind = cond (is_some (word_at (after_rect at))) (rects_at most (after_rect at)) (Ok []) in
    let x = ok-said_as more (both (rect_at at) behind) rects e in
    let parts = ok-both (rect_at at) behind x.0 x.1.0 in
    let rest = few_behind (is_some (word_at (after_rect at))) most (after_rect at) x.0.1 (rects_few most (after_rect at)) parts.1 in
    let all : AreFew (suc most) (x.0.0 ∷ x.0.1) = record { few = omega (arith, rest.few); fits = (rect_within at x.0.0 parts.0, rest.fits) } in
    subst (λ (xs : List Rect). AreFew (suc most) xs) x.1.1 all

rects_some : (at : At) (rects : List Rect) → rects_at 16 at ≡ Ok rects → 1 ≤ length rects
rects_some at [] e =
    let behind = cond (is_some (word_at (after_rect at))) (rects_at 15 (after_rect at)) (Ok []) in
    let x = ok-said_as more (both (rect_at at) behind) [] e in
    let same = x.1.1 in
    (cc)
rects_some at (r ∷ rects) e = omega arith

clip_or : (none : Bool) (at : At) (clip : Option (List Rect)) → cond none (Ok None) (said_as Some (rects_at 16 at)) ≡ Ok clip → IsClip clip
clip_or none at None e = tt
clip_or true at (Some rects) e = (cc)
clip_or false at (Some rects) e =
    let x = ok-said_as Some (rects_at 16 at) (Some rects) e in
    let same : x.0 ≡ rects = let s = x.1.1 in (cc) in
    let read : rects_at 16 at ≡ Ok rects = x.1.0 ∙ ap Ok same in
    let few = rects_few 16 at rects read in
    (rects_some at rects read, (few.few, few.fits))

clip_within : (at : At) (clip : Option (List Rect)) → clip_at at ≡ Ok clip → IsClip clip
clip_within at clip e = clip_or (is_none_word (word_at at)) at clip e

-- ---- by kind

kind_within : (known : Known) (kind : Kind) (at : At) (v : Said kind) → said known kind at ≡ Ok v → IsWithin known kind v
kind_within known a_view at v e = name_within known.views at v e
kind_within known a_window at v e = name_within known.windows at v e
kind_within known a_bitmap at v e = name_within known.bitmaps at v e
kind_within known a_focus at v e = focus_within known.views at v e
kind_within known a_point at v e = point_within at v e
kind_within known a_rect at v e = rect_within at v e
kind_within known a_distance at v e = pair_within (negsuc 65534) (pos 65535) at v e
kind_within known a_size at v e = pair_within (pos 0) (pos 32767) at v e
kind_within known a_pen_size at v e = pen_size_within at v e
kind_within known a_pattern at v e = pattern_within at v e
kind_within known a_color at v e = color_within at v e
kind_within known a_mode at v e = tt
kind_within known a_text at v e = rest_within at.text v (said_ok at.place (rest_said at.text) v e)
kind_within known a_clip at v e = clip_within at v e

pub all_within : (known : Known) (kinds : List Kind) (at : At) (x : SaidAll kinds) → said_all known kinds at ≡ Ok x → AreWithin known kinds x
all_within known [] at x e = tt
all_within known (kind ∷ kinds) at x e =
    let parts = ok-both (said known kind at) (said_all known kinds (after kind at)) x e in
    (kind_within known kind at x.0 parts.0, all_within known kinds (after kind at) x.1 parts.1)
