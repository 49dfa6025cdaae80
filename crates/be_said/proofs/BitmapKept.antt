-- What is kept stays so, where a bitmap is begun, gets a row or ends.
use Rattle.std.proofs.Common.{◌≡◌, ℕ, ◌+◌, ◌*◌, ◌<◌, ◌≤◌, ◌++◌, ◌∷◌, ◌||◌, Bool, false, Result, Ok, List, [], length, map, take, get_or, Some, None, refl, ap, sym, ◌∙◌, subst, arith, inl, inr, length-append, mul_comm, mul-le-mul_right}
use Rattle.std.proofs.lemmas.Bool.{cases_lt, le-ltb}
use Rattle.std.proofs.lemmas.List.{map-append, take-append-le, take_all}
use Rattle.std.proofs.lemmas.Option.{slice_get_within, slice_get-get_or, get_or_from_slice_get}
use Rattle.std.proofs.Math.ListN.{get_or-append}
use Rattle.std.proofs.Math.Seq.{get_or-append_seam}
use Rattle.std.specs.Prelude.{nat_lt, slice_get}
use Rattle.be_facts.proofs.Lists.{map_length}
use Rattle.be_bitmap.specs.declared.fault.BitmapFault.{BitmapFault}
use Rattle.be_bitmap.specs.declared.fault.BitmapFault.TheVariants.{TooLarge, WrongLength}
use Rattle.be_bitmap.specs.Sides.{IsRefused, is_too_large}
use Rattle.be_color.specs.declared.colors.Color.{Color}
use Rattle.be_command.specs.declared.fault.Reason.{Reason}
use Rattle.be_command.specs.Names.{Known, name_fault}
use Rattle.be_script.specs.declared.BitmapLine.{BitmapLine}
use Rattle.be_script.specs.Windows.{chain_of}
use Rattle.be_said.specs.declared.inside.Inside.{Inside}
use Rattle.be_said.specs.Everywhere.{with_bitmap}
use Rattle.be_said.specs.Fits.{IsNew, IsRow}
use Rattle.be_said.specs.Deeds.{adds_row, begins_bitmap}
use Rattle.be_said.specs.Inside.{AreInside, AreNew, CanClose, HasRows, IsInside, is_drawn_by, with_begun}
use Rattle.be_said.specs.Judging.{done, said_then, with_colors, with_row}
use Rattle.be_said.specs.SoFar.{SoFar, Begun, nothing, bitmap, bitmap_names, known_in}
use Rattle.be_said.proofs.DueLemmas.{row-done}
use Rattle.be_said.proofs.EventKept.{begun-kept}
use Rattle.be_said.proofs.EverywhereLemmas.{none_before, there_before}
use Rattle.be_said.proofs.ViewLemmas.{no_name_fault}

-- ---- one that is begun

bitmap-begun : (said : SoFar) (insides : List Inside) (name : List ℕ) (width height : ℕ) (colors : List Color) → AreInside said insides → said.begun ≡ nothing →
    length said.bitmaps < 64 → IsNew (bitmap_names said) name → width ≤ 256 → height ≤ 256 → (rows : ℕ) → rows < height → length colors ≡ rows * width →
    AreInside (record said { begun = bitmap name width height colors }) insides
bitmap-begun said insides name width height colors kept free few new narrow low rows more whole =
    begun-kept said insides (bitmap name width height colors) kept
    (λ w c. sym (ap (λ (b : Begun). with_begun b w c) free)) (λ w v. sym (ap (λ (b : Begun). is_drawn_by b w v) free))
    (λ (w : ℕ) (e : None ≡ Some w). (cc)) (few, new, narrow, low, (rows, (more, whole)))

pub bitmap-kept : (said : SoFar) (insides : List Inside) (name : List ℕ) (width height : ℕ) → AreInside said insides → said.begun ≡ nothing →
    length said.bitmaps < 64 → IsNew (bitmap_names said) name → width ≤ 256 → 1 ≤ height → height ≤ 256 →
    AreInside (said_then said (begins_bitmap name width height)) insides
bitmap-kept said insides name width height kept free few new narrow high low =
    bitmap-begun said insides name width height [] kept free few new narrow low 0 (omega arith) (omega arith)

next_row : (rows width : ℕ) → (rows + 1) * width ≡ rows * width + width
next_row rows width = omega arith

rows_left : (rows width height count : ℕ) → rows ≤ height → count ≡ rows * width → count < width * height → rows < height
rows_left rows width height count within whole less =
    elim (cases_lt rows height) [
      | inl more ↦ more
      | inr all ↦
          let same : rows ≡ height = omega arith in
          let full : rows * width ≡ width * height = ap (λ n. n * width) same ∙ mul_comm height width in
          absurd (omega arith)
    ]

-- it has rows, and not all of them
pub rows-kept : (said : SoFar) (insides : List Inside) (name : List ℕ) (width height : ℕ) (colors : List Color) → AreInside said insides → HasRows said name width height colors →
    length colors < width * height → AreInside (record said { begun = bitmap name width height colors }) insides
rows-kept said insides name width height colors kept has less =
    bitmap-begun said insides name width height colors kept has.0 has.1 has.2 has.3 has.4 has.5.0
    (rows_left has.5.0 width height (length colors) has.5.1.0 has.5.1.1 less) has.5.1.1

-- it has all of them
pub all_rows : (rows width height count : ℕ) → rows ≤ height → count ≡ rows * width → width * height ≤ count → count ≡ width * height
all_rows rows width height count within whole many =
    let most : rows * width ≤ height * width = mul-le-mul_right width within in
    let turned : height * width ≡ width * height = mul_comm height width in
    omega arith

-- nothing is begun where its next row is read
pub bitmap-open : (said : SoFar) (insides : List Inside) (name : List ℕ) (width height : ℕ) (colors : List Color) → AreInside said insides →
    said.begun ≡ bitmap name width height colors → AreInside (record said { begun = nothing }) insides
bitmap-open said insides name width height colors kept is =
    begun-kept said insides nothing kept
    (λ w c. sym (ap (λ (b : Begun). with_begun b w c) is)) (λ w v. sym (ap (λ (b : Begun). is_drawn_by b w v) is))
    (λ (w : ℕ) (e : None ≡ Some w). (cc)) tt

pub one_row : (said : SoFar) (insides : List Inside) (name : List ℕ) (width height : ℕ) (colors row : List Color) → AreInside said insides →
    said.begun ≡ bitmap name width height colors → length row ≡ width → HasRows (record said { begun = nothing }) name width height (colors ++ row)
one_row said insides name width height colors row kept is whole =
    let was : CanClose said (bitmap name width height colors) = subst (λ (b : Begun). CanClose said b) is kept.can_close in (
      refl,
      was.0,
      was.1,
      was.2,
      was.3,
      (
        was.4.0 + 1,
        (
          (let more : was.4.0 < height = was.4.1.0 in let goal : was.4.0 + 1 ≤ height = omega arith in goal),
          length-append colors row ∙ ap (λ n. n + length row) was.4.1.1 ∙ ap (λ n. was.4.0 * width + n) whole ∙ sym (next_row was.4.0 width),
        ),
      ),
    )

-- ---- one that ends

-- a new name behind the others
pub are_new_more : (names : List (List ℕ)) (name : List ℕ) → AreNew names → IsNew names name → AreNew (names ++ name ∷ [])
are_new_more names name all new k other there =
    elim (cases_lt k (length names)) [
      | inl below ↦
          let is : slice_get names k ≡ Some other =
          slice_get-get_or names k name below ∙ ap Some (sym (get_or-append names (name ∷ []) name k below) ∙ get_or_from_slice_get (names ++ name ∷ []) k other name there) in
          subst (λ (ns : List (List ℕ)). IsNew ns other) (sym (take-append-le k names (name ∷ []) (omega arith))) (all k other is)
      | inr past ↦
          let within = slice_get_within (names ++ name ∷ []) k other there in
          let at : k ≡ length names = omega (arith, within, length-append names (name ∷ [])) in
          let is : name ≡ other =
          sym (get_or-append_seam names name [] name) ∙ ap (λ n. get_or (names ++ name ∷ []) n name) (sym at)
          ∙ get_or_from_slice_get (names ++ name ∷ []) k other name there in
          let before : take k (names ++ name ∷ []) ≡ names = take-append-le k names (name ∷ []) (omega arith) ∙ take_all k names (omega arith) in
          subst (λ (ns : List (List ℕ)). IsNew ns other) (sym before) (subst (λ (n : List ℕ). IsNew names n) is new)
    ]

-- there is room for its name in each window
pub bitmap_name_fits : (said : SoFar) (insides : List Inside) (name : List ℕ) → AreInside said insides → length said.bitmaps < 64 → IsNew (bitmap_names said) name →
    (w : ℕ) (inside : Inside) → slice_get insides w ≡ Some inside → name_fault 64 inside.names.bitmaps name ≡ None
bitmap_name_fits said insides name kept few new w inside there =
    let names : inside.names.bitmaps ≡ bitmap_names said = ap (λ (k : Known). k.bitmaps) (kept.each w inside there).names in
    ap (λ (ns : List (List ℕ)). name_fault 64 ns name) names
    ∙ no_name_fault 64 (bitmap_names said) name new (omega (arith, few, map_length (λ (line : BitmapLine). line.name) said.bitmaps))

pub bitmap-ended : (said : SoFar) (insides : List Inside) (line : BitmapLine) → AreInside said insides → said.begun ≡ nothing → length said.bitmaps < 64 →
    IsNew (bitmap_names said) line.name → AreInside (record said { bitmaps = said.bitmaps ++ line ∷ [] }) (map (with_bitmap line.name) insides)
unfolding chain_of
bitmap-ended said insides line kept free few new =
    let next : SoFar = record said { bitmaps = said.bitmaps ++ line ∷ [] } in
    let name_of : BitmapLine → List ℕ = λ other. other.name in
    let more : bitmap_names next ≡ bitmap_names said ++ line.name ∷ [] = map-append name_of said.bitmaps (line ∷ []) in
    let same : length (map (with_bitmap line.name) insides) ≡ length insides = map_length (with_bitmap line.name) insides in
    let grown : (w : ℕ) (old : Inside) → IsInside said w old → IsInside next w (with_bitmap line.name old) = λ w old is. record {
      names =
          ap (λ (k : Known). record k { bitmaps = k.bitmaps ++ line.name ∷ [] }) is.names
          ∙ sym (ap (λ (ns : List (List ℕ)). record (known_in said (Some w)) { bitmaps = ns }) more);
      plain = is.plain;
      few_plain = is.few_plain;
      depths = is.depths;
      chain = is.chain;
      draws = is.draws;
    } in
    record {
      count = same ∙ kept.count;
      small_screen = kept.small_screen;
      few_windows = kept.few_windows;
      few_apps = kept.few_apps;
      each = λ w inside there.
          let before = there_before (with_bitmap line.name) insides w inside there in
          subst (λ (i : Inside). IsInside next w i) (sym before.1.1) (grown w before.0 (kept.each w before.0 before.1.0));
      no_views = λ u none. kept.no_views u (none_before (with_bitmap line.name) insides u none);
      no_plain = λ u none. kept.no_plain u (none_before (with_bitmap line.name) insides u none);
      begun_there = λ u at. let there = kept.begun_there u at in omega arith;
      few_bitmaps = omega (arith, few, length-append said.bitmaps (line ∷ []));
      new_windows = kept.new_windows;
      new_bitmaps = subst AreNew (sym more) (are_new_more (bitmap_names said) line.name kept.new_bitmaps new);
      no_filters = λ u none. kept.no_filters u (none_before (with_bitmap line.name) insides u none);
      no_bodies = λ u none. kept.no_bodies u (none_before (with_bitmap line.name) insides u none);
      drawn_there = λ u v hit. let old = kept.drawn_there u v hit in (omega (arith, old.0, same), old.1);
      can_close = subst (λ (b : Begun). CanClose next b) (sym free) tt;
    }

-- ---- a row

-- a row is as long as the bitmap is wide
pub row_width : (begun : Begun) (name : List ℕ) (width height : ℕ) (colors : List Color) (count : ℕ) → IsRow begun count → begun ≡ bitmap name width height colors → count ≡ width
row_width begun name width height colors count fits is = subst (λ (b : Begun). IsRow b count) is fits

pub row-as : (said : SoFar) (row : List Color) (name : List ℕ) (width height : ℕ) (colors : List Color) → said.begun ≡ bitmap name width height colors →
    done said (adds_row row) ≡ Ok (with_colors said name width height (colors ++ row))
row-as said row name width height colors is =
    let then : Begun → Result SoFar Reason = λ b. Ok (with_row said row b) in
    row-done said row ∙ ap then is

-- and its pixels make a bitmap
pub not_refused : (fault : BitmapFault) (width height : ℕ) (colors : List Color) → width ≤ 256 → height ≤ 256 → length colors ≡ width * height → IsRefused fault width height colors → ⊥
not_refused (TooLarge back) width height colors narrow low whole refused =
    let either : Bool → Bool = λ b. b || nat_lt 256 height in
    let small : is_too_large width height ≡ false = ap either (le-ltb 256 width narrow) ∙ le-ltb 256 height low in
    (cc)
not_refused (WrongLength back) width height colors narrow low whole refused = refused.1 whole
