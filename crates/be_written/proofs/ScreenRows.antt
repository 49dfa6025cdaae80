-- A screen's rows, run by run.
use Rattle.std.proofs.Common.{◌≡◌, ℕ, zero, suc, ◌+◌, ◌-◌, ◌*◌, ◌<◌, ◌≤◌, Bool, true, false, List, [], ◌∷◌, ◌++◌, length, get_or, take, drop, map, Option, Some, None, Result, OnOk, codes, refl, sym, ap, subst, ◌∙◌, arith, append_assoc, append-nil, eq-eqb, inl, inr}
use Rattle.std.specs.Prelude.{if◌then◌else◌, ◌&&◌, ◌==◌, not}
use Rattle.std.proofs.lemmas.Bool.{cases_lt, eqb-true}
use Rattle.std.specs.List.{slice_get}
use Rattle.std.specs.Fmt.{decimal}
use Rattle.std.proofs.lemmas.List.{drop-drop, drop_all, length-drop, length-take, length-take-le}
use Rattle.be_facts.proofs.Lists.{on_ok_map}
use Rattle.be_facts.proofs.Truths.{and_first, and_second}
use Rattle.be_facts.proofs.Numbers.{eq_tells}
use Rattle.be_color.specs.declared.colors.Rgb.{Rgb}
use Rattle.be_span.specs.declared.Cell.{Cell}
use Rattle.be_written.specs.Lines.{behind, line_of}
use Rattle.be_written.specs.ScreenText.{Colored, same_rgb, before_runs, runs_of, run_word, row_text, rows_from, screen_text}
use Rattle.be_written.specs.Screens.{rgb_at, AreCellsOf, AreColored, row_at, IsLongest}
use Rattle.be_written.proofs.WriteLemmas.{appended, line_behind, line_written}

-- ---- where cells are

get_drop : (n : ℕ) (xs : List Cell) (k m : ℕ) → m ≡ n + k → slice_get (drop n xs) k ≡ slice_get xs m
get_drop zero xs k m e = ap (slice_get xs) (omega arith)
get_drop (suc n) [] k m e = refl
get_drop (suc n) (x ∷ xs) k zero e = absurd (omega arith)
get_drop (suc n) (x ∷ xs) k (suc m) e = get_drop n xs k m (omega arith)

get_take : (n : ℕ) (xs : List Cell) (k : ℕ) → k < n → slice_get (take n xs) k ≡ slice_get xs k
get_take zero xs k lt = absurd (omega arith)
get_take (suc n) [] k lt = refl
get_take (suc n) (x ∷ xs) zero lt = refl
get_take (suc n) (x ∷ xs) (suc k) lt = get_take n xs k (omega arith)

rgb_drop : (n : ℕ) (xs : List Cell) (k m : ℕ) → m ≡ n + k → rgb_at (drop n xs) k ≡ rgb_at xs m
rgb_drop n xs k m e = ap (λ (c : Option Cell). elim c [ Some x ↦ Some x.rgb | None ↦ None ]) (get_drop n xs k m e)

-- a run of the screen's is one of its row's
pub in_row : (width row : ℕ) (cells : List Cell) (column end : ℕ) (rgb : Rgb) → end ≤ width → AreColored cells (row * width + column) (row * width + end) rgb → AreColored (row_at width row cells) column end rgb
in_row width row cells column end rgb within all k from below =
    let at = get_take width (drop (row * width) cells) k (omega arith) ∙ get_drop (row * width) cells k (row * width + k) refl in
    ap (λ (c : Option Cell). elim c [ Some x ↦ Some x.rgb | None ↦ None ]) at ∙ all (row * width + k) (omega arith) (omega arith)

-- the colour of a cell that is there
pub rgb_there : (xs : List Cell) (k : ℕ) (d : Cell) → k < length xs → rgb_at xs k ≡ Some (get_or xs k d).rgb
rgb_there [] k d lt = absurd (omega arith)
rgb_there (x ∷ xs) zero d lt = refl
rgb_there (x ∷ xs) (suc k) d lt = rgb_there xs k d (omega arith)

-- a run of the cells that are held is one of the screen's
pub strip_colored : (cells some : List Cell) (first from column place end : ℕ) (rgb : Rgb) → AreCellsOf cells (first + from) some → AreColored some place end rgb → column ≡ from + place → end ≤ length some
    → AreColored cells (first + column) (first + (from + end)) rgb
strip_colored cells some first from column place end rgb told colored at within k low high =
    let j = k - (first + from) in
    let is : k ≡ first + from + j = omega arith in
    ap (rgb_at cells) is
    ∙ ap (λ (c : Option Cell). elim c [ Some x ↦ Some x.rgb | None ↦ None ]) (told j (omega arith))
    ∙ colored j (omega arith) (omega arith)

-- a block of cells of one colour is such a run
pub block_colored : (cells : List Cell) (from end : ℕ) (rgb : Rgb) → from ≤ end → end ≤ length cells
    → AreColored (take (end - from) (drop from cells)) 0
    (length (take (end - from) (drop from cells))) rgb
    → AreColored cells from end rgb
block_colored cells from end rgb rises within block k low high =
    let n = end - from in
    let j = k - from in
    let rest : length (drop from cells) ≡ length cells - from = length-drop from cells in
    let long : length (take n (drop from cells)) ≡ n =
    length-take-le n (drop from cells) (omega arith) in
    let at = get_take n (drop from cells) j (omega arith) ∙ get_drop from cells j k (omega arith) in
    ap (λ (c : Option Cell). elim c [ Some x ↦ Some x.rgb | None ↦ None ]) (sym at)
    ∙ block j (omega arith) (omega arith)

-- ---- the longest run

abbrev pub Differs : Rgb → List Colored → Type 0
Differs rgb [] = Unit {0}
Differs rgb (r ∷ rs) = same_rgb rgb r.rgb ≡ false

differs_before : (rgb r : Rgb) (rs : List Colored) → same_rgb rgb r ≡ false → Differs rgb (before_runs r rs)
differs_before rgb r [] other = other
differs_before rgb r (x ∷ xs) other =
    elim (same_rgb r x.rgb) as (λ v. Differs rgb (if v then record { count = x.count + 1; rgb = r } ∷ xs else record { count = 1; rgb = r } ∷ x ∷ xs)) [ true ↦ other | false ↦ other ]

alone : (rgb : Rgb) (rs : List Colored) → Differs rgb rs → before_runs rgb rs ≡ record { count = 1; rgb = rgb } ∷ rs
alone rgb [] other = refl
alone rgb (r ∷ rs) other = ap (λ (v : Bool). if v then record { count = r.count + 1; rgb = rgb } ∷ rs else record { count = 1; rgb = rgb } ∷ r ∷ rs) other

pub same_itself : (rgb : Rgb) → same_rgb rgb rgb ≡ true
same_itself rgb = rw (eq-eqb rgb.red rgb.red refl, eq-eqb rgb.green rgb.green refl, eq-eqb rgb.blue rgb.blue refl) refl

are_same : (p q r : Bool) → false ≡ not (p && (q && r)) → (p ≡ true) × (q ≡ true) × (r ≡ true)
are_same true true true e = (refl, refl, refl)
are_same true true false e = absurd (cc)
are_same true false r e = absurd (cc)
are_same false q r e = absurd (cc)

one_differs : (p q r : Bool) → true ≡ not (p && (q && r)) → (p && q) && r ≡ false
one_differs true true true e = absurd (cc)
one_differs true true false e = refl
one_differs true false r e = refl
one_differs false q r e = refl

pub told_same : (a b : Rgb) → false ≡ not ((a.red == b.red) && ((a.green == b.green) && (a.blue == b.blue))) → a ≡ b
told_same a b e =
    let same = are_same (a.red == b.red) (a.green == b.green) (a.blue == b.blue) e in
    let red = eqb-true a.red b.red same.0 in
    let green = eqb-true a.green b.green same.1 in
    let blue = eqb-true a.blue b.blue same.2 in
    ap (λ (n : ℕ). record { red = n; green = a.green; blue = a.blue }) red ∙ ap (λ (n : ℕ). record { red = b.red; green = n; blue = a.blue }) green ∙ ap (λ (n : ℕ). record { red = b.red; green = b.green; blue = n }) blue

pub told_other : (a b : Rgb) → true ≡ not ((a.red == b.red) && ((a.green == b.green) && (a.blue == b.blue))) → same_rgb a b ≡ false
told_other a b e = one_differs (a.red == b.red) (a.green == b.green) (a.blue == b.blue) e

longer : (rgb : Rgb) (n : ℕ) (rs : List Colored) → before_runs rgb (record { count = n; rgb = rgb } ∷ rs) ≡ record { count = n + 1; rgb = rgb } ∷ rs
longer rgb n rs = ap (λ (v : Bool). if v then record { count = n + 1; rgb = rgb } ∷ rs else record { count = 1; rgb = rgb } ∷ record { count = n; rgb = rgb } ∷ rs) (same_itself rgb)

some_same : (a b : Rgb) → Some a ≡ Some b → a ≡ b
some_same a b e = cc

run_of : (n : ℕ) (rgb : Rgb) (xs : List Cell) → ((k : ℕ) → k < n + 1 → rgb_at xs k ≡ Some rgb) → Differs rgb (runs_of (drop (suc n) xs)) → runs_of xs ≡ record { count = n + 1; rgb = rgb } ∷ runs_of (drop (suc n) xs)
unfolding runs_of
run_of n rgb [] all other = let none : None ≡ Some rgb = all 0 (omega arith) in absurd (cc)
run_of zero rgb (c ∷ cs) all other =
    ap (λ (r : Rgb). before_runs r (runs_of cs)) (some_same c.rgb rgb (all 0 (omega arith))) ∙ alone rgb (runs_of cs) other
run_of (suc n) rgb (c ∷ cs) all other =
    ap (λ (r : Rgb). before_runs r (runs_of cs)) (some_same c.rgb rgb (all 0 (omega arith)))
    ∙ ap (before_runs rgb) (run_of n rgb cs (λ k lt. all (suc k) (omega arith)) other) ∙ longer rgb (n + 1) (runs_of (drop (suc n) cs))
    ∙ ap (λ (k : ℕ). record { count = k; rgb = rgb } ∷ runs_of (drop (suc n) cs)) (omega arith)

pub short_row : (width row : ℕ) (cells : List Cell) (end : ℕ) → width ≤ end → length (row_at width row cells) ≤ end
short_row width row cells end le = omega (arith, length-take width (drop (row * width) cells))

pub none_behind : (row : List Cell) (end : ℕ) (rgb : Rgb) → length row ≤ end → Differs rgb (runs_of (drop end row))
unfolding runs_of
none_behind row end rgb le = subst (λ (cs : List Cell). Differs rgb (runs_of cs)) (sym (drop_all end row le)) tt

other_first : (xs : List Cell) (rgb next : Rgb) → rgb_at xs 0 ≡ Some next → same_rgb rgb next ≡ false → Differs rgb (runs_of xs)
unfolding runs_of
other_first [] rgb next at other = tt
other_first (c ∷ cs) rgb next at other =
    subst (λ (r : Rgb). Differs rgb (before_runs r (runs_of cs))) (sym (some_same c.rgb next at)) (differs_before rgb next (runs_of cs) other)

pub other_behind : (row : List Cell) (end behind : ℕ) (rgb next : Rgb) → end < behind → AreColored row end behind next → same_rgb rgb next ≡ false → Differs rgb (runs_of (drop end row))
other_behind row end behind rgb next lt all other = other_first (drop end row) rgb next (rgb_drop end row 0 end (omega arith) ∙ all end (omega arith) lt) other

pub joined : (row : List Cell) (column mid end : ℕ) (rgb : Rgb) → AreColored row column mid rgb → AreColored row mid end rgb → AreColored row column end rgb
joined row column mid end rgb first second k from below = elim (cases_lt k mid) [ inl lt ↦ first k from lt | inr le ↦ second k le below ]

pub is_longest : (row : List Cell) (column end : ℕ) (rgb : Rgb) → column < end → AreColored row column end rgb → Differs rgb (runs_of (drop end row)) → IsLongest row column end rgb
is_longest row column end rgb lt all other =
    let n = end - column - 1 in
    let behind : drop (suc n) (drop column row) ≡ drop end row = drop-drop (suc n) column row ∙ ap (λ (k : ℕ). drop k row) (omega arith) in
    let found = run_of n rgb (drop column row) (λ k below. rgb_drop column row k (column + k) refl ∙ all (column + k) (omega arith) (omega arith)) (subst (λ (cs : List Cell). Differs rgb (runs_of cs)) (sym behind) other) in
    found ∙ ap (λ (cs : List Cell). record { count = n + 1; rgb = rgb } ∷ runs_of cs) behind ∙ ap (λ (k : ℕ). record { count = k; rgb = rgb } ∷ runs_of (drop end row)) (omega arith)

-- ---- a row

-- what is still to be written of a row from a column on, its line feed among it
unfoldable pub row_rest : List Cell → ℕ → List ℕ
row_rest row column = behind (map run_word (runs_of (drop column row))) ++ 10 ∷ []

pub row_begun : (y : ℕ) (row : List Cell) (old one : List ℕ) → one ≡ old ++ decimal y → one ++ row_rest row 0 ≡ old ++ row_text y row
unfolding row_rest
row_begun y row old one first =
    ap (λ (text : List ℕ). text ++ row_rest row 0) first ∙ append_assoc old (decimal y) (row_rest row 0)
    ∙ ap (λ (text : List ℕ). old ++ text) (sym (append_assoc (decimal y) (behind (map run_word (runs_of row))) (10 ∷ [])) ∙ sym (line_behind (decimal y) (map run_word (runs_of row))))

pub row_goes_on : (row : List Cell) (column end : ℕ) (rgb : Rgb) (old new : List ℕ) → IsLongest row column end rgb → new ≡ old ++ 32 ∷ run_word (record { count = end - column; rgb = rgb }) → new ++ row_rest row end ≡ old ++ row_rest row column
unfolding row_rest
row_goes_on row column end rgb old new longest word =
    let r : Colored = record { count = end - column; rgb = rgb } in
    let rest = behind (map run_word (runs_of (drop end row))) in
    ap (λ (text : List ℕ). text ++ (rest ++ 10 ∷ [])) word ∙ append_assoc old (32 ∷ run_word r) (rest ++ 10 ∷ [])
    ∙ ap (λ (text : List ℕ). old ++ text) (sym (append_assoc (32 ∷ run_word r) rest (10 ∷ [])))
    ∙ ap (λ (rs : List Colored). old ++ (behind (map run_word rs) ++ 10 ∷ [])) (sym longest)

pub row_ended : {E : Type 0} (r : Result (Unit {0}) E) (width y column : ℕ) (cells : List Cell) (text new all : List ℕ) → text ++ row_rest (row_at width y cells) column ≡ all → width ≤ column → OnOk r (new ≡ text ++ 10 ∷ []) → OnOk r (new ≡ all)
unfolding row_rest runs_of
row_ended r width y column cells text new all is le last =
    let row = row_at width y cells in
    let small = short_row width y cells column le in
    let end : text ++ 10 ∷ [] ≡ all = ap (λ (cs : List Cell). text ++ (behind (map run_word (runs_of cs)) ++ 10 ∷ [])) (sym (drop_all column row small)) ∙ is in
    on_ok_map r (new ≡ text ++ 10 ∷ []) (new ≡ all) last (λ e. e ∙ end)

-- ---- the screen

unfoldable pub screen_rest : ℕ → ℕ → List Cell → ℕ → List ℕ
screen_rest width height cells row = rows_from width row (height - row) (drop (row * width) cells)

pub screen_begun : (width height : ℕ) (cells : List Cell) (old one two three new : List ℕ) → one ≡ old ++ codes "screen" → two ≡ one ++ 32 ∷ decimal width → three ≡ two ++ 32 ∷ decimal height → new ≡ three ++ 10 ∷ []
    → new ++ screen_rest width height cells 0 ≡ old ++ screen_text width height cells
unfolding screen_rest screen_text
screen_begun width height cells old one two three new first second third fourth =
    let sizes = decimal width ∷ decimal height ∷ [] in
    let both : three ≡ one ++ behind sizes = appended one two three (32 ∷ decimal width) (32 ∷ decimal height) second third ∙ ap (λ (text : List ℕ). one ++ ((32 ∷ decimal width) ++ text)) (sym (append-nil (32 ∷ decimal height))) in
    let line = line_written old one three new (codes "screen") sizes first both fourth in
    let all : height - 0 ≡ height = omega arith in
    let none : 0 * width ≡ 0 = omega arith in
    let rest : screen_rest width height cells 0 ≡ rows_from width 0 height cells =
    ap (λ (n : ℕ). rows_from width 0 n (drop (0 * width) cells)) all ∙ ap (λ (n : ℕ). rows_from width 0 height (drop n cells)) none in
    ap (λ (text : List ℕ). text ++ screen_rest width height cells 0) line ∙ ap (λ (text : List ℕ). (old ++ line_of (codes "screen" ∷ sizes)) ++ text) rest
    ∙ append_assoc old (line_of (codes "screen" ∷ sizes)) (rows_from width 0 height cells)

pub screen_goes_on : (width height row : ℕ) (cells : List Cell) (old new : List ℕ) → row < height → new ≡ old ++ row_text row (row_at width row cells) → new ++ screen_rest width height cells (row + 1) ≡ old ++ screen_rest width height cells row
unfolding screen_rest rows_from
screen_goes_on width height row cells old new lt line =
    let left : height - row ≡ suc (height - (row + 1)) = omega arith in
    let more : drop width (drop (row * width) cells) ≡ drop ((row + 1) * width) cells = drop-drop width (row * width) cells ∙ ap (λ (k : ℕ). drop k cells) (omega arith) in
    let text = row_text row (row_at width row cells) in
    ap (λ (t : List ℕ). t ++ screen_rest width height cells (row + 1)) line ∙ append_assoc old text (screen_rest width height cells (row + 1))
    ∙ ap (λ (cs : List Cell). old ++ (text ++ rows_from width (row + 1) (height - (row + 1)) cs)) (sym more)
    ∙ ap (λ (n : ℕ). old ++ rows_from width row n (drop (row * width) cells)) (sym left)

pub screen_ended : (width height row : ℕ) (cells : List Cell) (text all : List ℕ) → text ++ screen_rest width height cells row ≡ all → height ≤ row → text ≡ all
unfolding screen_rest rows_from
screen_ended width height row cells text all is le =
    let none : height - row ≡ 0 = omega arith in
    sym (append-nil text) ∙ ap (λ (n : ℕ). text ++ rows_from width row n (drop (row * width) cells)) (sym none) ∙ is

pub same_is : (a b : Rgb) → same_rgb a b ≡ true → a ≡ b
same_is a b e =
    let two = and_first ((a.red == b.red) && (a.green == b.green)) (a.blue == b.blue) e in
    let red : a.red ≡ b.red =
    eq_tells a.red b.red (and_first (a.red == b.red) (a.green == b.green) two) in
    let green : a.green ≡ b.green =
    eq_tells a.green b.green (and_second (a.red == b.red) (a.green == b.green) two) in
    let blue : a.blue ≡ b.blue =
    eq_tells a.blue b.blue
    (and_second ((a.red == b.red) && (a.green == b.green)) (a.blue == b.blue) e) in
    λ i. record { red = red i; green = green i; blue = blue i }
