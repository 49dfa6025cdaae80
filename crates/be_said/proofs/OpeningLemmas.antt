-- Names that are added one by one, and a window that is declared.
use Rattle.std.proofs.Common.{◌≡◌, ℕ, ◌+◌, ◌<◌, ◌≤◌, ◌==◌, ◌⊎◌, ◌++◌, ◌∷◌, Bool, false, List, [], length, map, filter, take, drop, get_or, Some, None, Ok, Err, refl, ap, sym, ◌∙◌, subst, arith, inl, inr, length-append, codes}
use Rattle.std.proofs.lemmas.Bool.{cases_lt, le-leb, lt-leb}
use Rattle.std.proofs.lemmas.List.{length-take-le, map-append, take-append-le, take_all, take_more}
use Rattle.std.proofs.lemmas.Option.{get_or_from_slice_get, slice_get-get_or, slice_get-map, slice_get_past, slice_get_within}
use Rattle.std.proofs.Math.ListN.{get_or-append}
use Rattle.std.proofs.Math.Seq.{get_or-append_seam}
use Rattle.std.specs.List.{range_with_len}
use Rattle.std.specs.Prelude.{option_map, slice_get}
use Rattle.be_facts.proofs.Lists.{map_length, none_past}
use Rattle.be_facts.proofs.Truths.{true_or_false}
use Rattle.be_command.specs.declared.fault.Reason.TheVariants.{TooMany}
use Rattle.be_command.specs.Names.{Known, name_fault}
use Rattle.be_handler.specs.Routes.{Chain}
use Rattle.be_script.specs.declared.BodyLine.{BodyLine}
use Rattle.be_script.specs.declared.FilterLine.{FilterLine}
use Rattle.be_script.specs.declared.HandlerLine.{HandlerLine}
use Rattle.be_script.specs.declared.ViewLine.{ViewLine}
use Rattle.be_script.specs.declared.WindowLine.{WindowLine}
use Rattle.be_script.specs.Windows.{chain_of, declared_body, declared_filter}
use Rattle.be_said.specs.declared.inside.Inside.{Inside}
use Rattle.be_said.specs.Everywhere.{with_window}
use Rattle.be_said.specs.Fits.{IsNew}
use Rattle.be_said.specs.Deeds.{adds_window}
use Rattle.be_said.specs.Inside.{AreInside, AreNew, CanClose, IsInside, IsOpened, is_drawn, with_begun}
use Rattle.be_said.specs.Judging.{depths_of, done, said_then}
use Rattle.be_said.specs.SoFar.{SoFar, Begun, nothing, bitmap_names, declared_in, known_in, plain_in, views_in, window_names}
use Rattle.be_said.proofs.BitmapKept.{are_new_more}
use Rattle.be_said.proofs.DueLemmas.{may-be-done, too-many}
use Rattle.be_said.proofs.EverywhereLemmas.{there_before}
use Rattle.be_said.proofs.ViewLemmas.{no_name_fault}

-- ---- names one by one

named_at : {X : Type 0} (f : X → List ℕ) (xs : List X) (k : ℕ) (x : X) → k < length xs → x ≡ get_or xs k x → slice_get (map f xs) k ≡ Some (f x)
named_at f xs k x below is = slice_get-map f xs k ∙ ap (option_map f) (slice_get-get_or xs k x below ∙ ap Some (sym is))

-- the next name may be added
pub next_fits : {X : Type 0} (most : ℕ) (f : X → List ℕ) (xs : List X) (k : ℕ) (x : X) (names : List (List ℕ)) → length xs ≤ most → AreNew (map f xs) →
    k < length xs → x ≡ get_or xs k x → names ≡ take k (map f xs) → name_fault most names (f x) ≡ None
next_fits most f xs k x names few all below is so_far =
    let count : length (map f xs) ≡ length xs = map_length f xs in
    let before : length (take k (map f xs)) ≡ k = length-take-le k (map f xs) (omega arith) in
    ap (λ ns. name_fault most ns (f x)) so_far ∙ no_name_fault most (take k (map f xs)) (f x) (all k (f x) (named_at f xs k x below is)) (omega arith)

-- and stands behind the others then
pub next_named : {X : Type 0} (f : X → List ℕ) (xs : List X) (k : ℕ) (x : X) → k < length xs → x ≡ get_or xs k x → take (k + 1) (map f xs) ≡ take k (map f xs) ++ f x ∷ []
next_named f xs k x below is =
    let count : length (map f xs) ≡ length xs = map_length f xs in
    take_more (map f xs) k (f x) (omega arith)
    ∙ ap (λ n. take k (map f xs) ++ n ∷ []) (get_or_from_slice_get (map f xs) k (f x) (f x) (named_at f xs k x below is))

pub all_named : {X : Type 0} (f : X → List ℕ) (xs : List X) (k : ℕ) → length xs ≤ k → take k (map f xs) ≡ map f xs
all_named f xs k all = let count : length (map f xs) ≡ length xs = map_length f xs in take_all k (map f xs) (omega arith)

-- ---- one window more

at_end : {X : Type 0} (xs : List X) (x : X) (k : ℕ) (y : X) → slice_get (xs ++ x ∷ []) k ≡ Some y → (slice_get xs k ≡ Some y) ⊎ ((k ≡ length xs) × (x ≡ y))
at_end xs x k y there =
    elim (cases_lt k (length xs)) [
      | inl below ↦ inl (slice_get-get_or xs k x below ∙ ap Some (sym (get_or-append xs (x ∷ []) x k below) ∙ get_or_from_slice_get (xs ++ x ∷ []) k y x there))
      | inr past ↦
          let within = slice_get_within (xs ++ x ∷ []) k y there in
          let at : k ≡ length xs = omega (arith, within, length-append xs (x ∷ [])) in
          inr (at, sym (get_or-append_seam xs x [] x) ∙ ap (λ n. get_or (xs ++ x ∷ []) n x) (sym at) ∙ get_or_from_slice_get (xs ++ x ∷ []) k y x there)
    ]

chain_as : (said : SoFar) (n : ℕ) → views_in said n ≡ [] → plain_in said n ≡ [] → filter (λ (line : FilterLine). line.window == n) said.filters ≡ [] →
    filter (λ (line : BodyLine). line.window == n) said.bodies ≡ [] → chain_of (declared_in said (0, 0)) n ≡ record { parents = None ∷ []; nexts = []; filters = []; bodies = [] }
unfolding chain_of
chain_as said n views plain filters bodies =
    let c : List ViewLine → List HandlerLine → List FilterLine → List BodyLine → Chain = λ vs ps fs bs. record {
      parents = None ∷ map (λ (line : ViewLine). Some line.parent) vs;
      nexts = map (λ (line : HandlerLine). line.next) ps;
      filters = map declared_filter fs;
      bodies = map declared_body bs;
    } in
    ap (λ vs. c vs (plain_in said n) (filter (λ (line : FilterLine). line.window == n) said.filters) (filter (λ (line : BodyLine). line.window == n) said.bodies)) views
    ∙ ap (λ ps. c [] ps (filter (λ (line : FilterLine). line.window == n) said.filters) (filter (λ (line : BodyLine). line.window == n) said.bodies)) plain
    ∙ ap (λ fs. c [] [] fs (filter (λ (line : BodyLine). line.window == n) said.bodies)) filters
    ∙ ap (λ bs. c [] [] [] bs) bodies

pub window-kept : (said : SoFar) (insides : List Inside) (line : WindowLine) (new : Inside) → AreInside said insides → said.begun ≡ nothing → length said.windows < 32 →
    IsNew (window_names said) line.name → IsOpened (window_names said ++ line.name ∷ []) (bitmap_names said) new →
    AreInside (record said { windows = said.windows ++ line ∷ [] }) (map (with_window line.name) insides ++ new ∷ [])
unfolding chain_of
window-kept said insides line new kept free few fresh is =
    let next : SoFar = record said { windows = said.windows ++ line ∷ [] } in
    let n : ℕ = length insides in
    let name_of : WindowLine → List ℕ = λ other. other.name in
    let more : window_names next ≡ window_names said ++ line.name ∷ [] = map-append name_of said.windows (line ∷ []) in
    let olds : List Inside = map (with_window line.name) insides in
    let same : length olds ≡ n = map_length (with_window line.name) insides in
    let count : length (olds ++ new ∷ []) ≡ n + 1 = omega (arith, length-append olds (new ∷ []), same) in
    let missing : (u : ℕ) → slice_get (olds ++ new ∷ []) u ≡ None → slice_get insides u ≡ None =
    λ u none. let past = none_past (olds ++ new ∷ []) u none in slice_get_past insides u (omega arith) in
    let last_none : slice_get insides n ≡ None = slice_get_past insides n (omega arith) in
    let no_views : views_in said n ≡ [] = kept.no_views n last_none in
    let no_plain : plain_in said n ≡ [] = kept.no_plain n last_none in
    let not_drawn : is_drawn said n 0 ≡ false =
    elim (true_or_false (is_drawn said n 0)) [
      | inl hit ↦ absurd (omega (arith, (kept.drawn_there n 0 hit).0))
      | inr none ↦ none
    ] in
    let known : List (List ℕ) → List ViewLine → Known = λ windows views. record {
      windows = windows;
      views = codes "root" ∷ map (λ (view : ViewLine). view.name) views;
      bitmaps = bitmap_names said;
    } in
    let opened : IsInside next n new = record {
      names = is.names ∙ sym (ap (λ ws. known ws (views_in said n)) more ∙ ap (known (window_names said ++ line.name ∷ [])) no_views);
      plain = is.plain ∙ sym (ap (map (λ (plain : HandlerLine). plain.name)) no_plain);
      few_plain = omega (arith, ap length is.plain);
      depths = is.depths ∙ sym (ap depths_of no_views);
      chain =
          is.chain ∙ sym (ap (λ (b : Begun). with_begun b n (chain_of (declared_in next (0, 0)) n)) free
          ∙ chain_as said n no_views no_plain (kept.no_filters n last_none) (kept.no_bodies n last_none));
      draws = is.draws ∙ sym (ap (λ (xs : List ℕ). map (is_drawn next n) (range_with_len 0 (length xs))) is.depths ∙ ap (λ (b : Bool). b ∷ []) not_drawn);
    } in
    let grown : (w : ℕ) (old : Inside) → IsInside said w old → IsInside next w (with_window line.name old) = λ w old was. record {
      names =
          ap (λ (k : Known). record k { windows = k.windows ++ line.name ∷ [] }) was.names
          ∙ sym (ap (λ (ws : List (List ℕ)). record (known_in said (Some w)) { windows = ws }) more);
      plain = was.plain;
      few_plain = was.few_plain;
      depths = was.depths;
      chain = was.chain;
      draws = was.draws;
    } in
    record {
      count = count ∙ ap (λ k. k + 1) kept.count ∙ sym (length-append said.windows (line ∷ []));
      small_screen = kept.small_screen;
      few_windows = omega (arith, few, length-append said.windows (line ∷ []));
      few_apps = kept.few_apps;
      each = λ w inside there.
          elim (at_end olds new w inside there) [
            | inl old ↦
                let before = there_before (with_window line.name) insides w inside old in
                subst (λ (i : Inside). IsInside next w i) (sym before.1.1) (grown w before.0 (kept.each w before.0 before.1.0))
            | inr last ↦
                let at : w ≡ n = last.0 ∙ same in
                subst (λ (k : ℕ). IsInside next k inside) (sym at) (subst (λ (i : Inside). IsInside next n i) last.1 opened)
          ];
      no_views = λ u none. kept.no_views u (missing u none);
      no_plain = λ u none. kept.no_plain u (missing u none);
      begun_there = λ u at. let there = kept.begun_there u at in omega arith;
      few_bitmaps = kept.few_bitmaps;
      new_windows = subst AreNew (sym more) (are_new_more (window_names said) line.name kept.new_windows fresh);
      new_bitmaps = kept.new_bitmaps;
      no_filters = λ u none. kept.no_filters u (missing u none);
      no_bodies = λ u none. kept.no_bodies u (missing u none);
      drawn_there = λ u v hit. let old = kept.drawn_there u v hit in (omega (arith, old.0, count), old.1);
      can_close = subst (λ (b : Begun). CanClose next b) (sym free) tt;
    }

-- all of the others are there, and then the new one
pub taken_and_more : (said : SoFar) (n : ℕ) (xs olds ys : List Inside) (new : Inside) → xs ≡ ys → length ys ≡ n → AreInside said (ys ++ new ∷ []) →
    AreInside said (take n (xs ++ drop (length xs) olds) ++ new ∷ [])
taken_and_more said n xs olds ys new same all kept =
    let count : length xs ≡ n = ap length same ∙ all in
    let P : List Inside → Type 0 = λ zs. AreInside said (zs ++ new ∷ []) in
    subst P (sym (take-append-le n xs (drop (length xs) olds) (omega arith) ∙ take_all n xs (omega arith) ∙ same)) kept

-- there is room for its name in each window
pub window_name_fits : (said : SoFar) (insides : List Inside) (name : List ℕ) → AreInside said insides → length said.windows < 32 → IsNew (window_names said) name →
    (w : ℕ) (inside : Inside) → slice_get insides w ≡ Some inside → name_fault 32 inside.names.windows name ≡ None
window_name_fits said insides name kept few new w inside there =
    let names : inside.names.windows ≡ window_names said = ap (λ (k : Known). k.windows) (kept.each w inside there).names in
    ap (λ (ns : List (List ℕ)). name_fault 32 ns name) names
    ∙ no_name_fault 32 (window_names said) name new (omega (arith, few, map_length (λ (line : WindowLine). line.name) said.windows))

pub window-many : (said : SoFar) (line : WindowLine) → 32 ≤ length said.windows → done said (adds_window line) ≡ Err TooMany
window-many said line many = too-many said (adds_window line) refl (le-leb 32 (length said.windows) many)

pub window-done : (said : SoFar) (line : WindowLine) → length said.windows < 32 → done said (adds_window line) ≡ Ok (said_then said (adds_window line))
window-done said line few = may-be-done said (adds_window line) refl (lt-leb 32 (length said.windows) few)
