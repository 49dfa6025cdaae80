-- A state that is cut into slices is put together again.
use Rattle.std.proofs.Common.{◌≡◌, ℕ, zero, suc, ◌+◌, ◌*◌, ◌<◌, Bool, true, List, [], ◌∷◌, ◌++◌, map, length, Option, Some, None, refl, sym, ap, ◌∙◌, subst, arith}
use Rattle.std.specs.Prelude.{ℤ, pos, ◌/◌, ◌%◌, ◌≤◌, nat_lt, slice_get, option_map}
use Rattle.std.proofs.lemmas.Bool.Decides.{nat_tests}
use Rattle.std.proofs.lemmas.List.{length-map}
use Rattle.std.proofs.lemmas.List.FromFn.{length-range_with_len}
use Rattle.std.proofs.lemmas.Option.{same_Some, slice_get_past}
use Rattle.std.specs.List.{range_with_len}
use Rattle.std.proofs.lemmas.Nat.{div-add-mod', mod_below}
use Rattle.be_facts.proofs.Lists.{get_map, get_range, append_none, none_past}
use Rattle.be_script.specs.Script.{Declared}
use Rattle.be_span.specs.Cells.{desktop_cell}
use Rattle.be_span.specs.declared.Cell.{Cell}
use Rattle.be_span.specs.Screen.{cell_at}
use Rattle.be_stack.specs.Owner.{covers, owner_at}
use Rattle.be_stack.specs.declared.window.Window.{Window}
use Rattle.be_stack.specs.Windows.{Windows}
use Rattle.be_machine.specs.Pixels.{owner_in, pixel_at}
use Rattle.be_machine.specs.State.{State}
use Rattle.be_machine.specs.Touched.{Part}
use Rattle.be_machine.specs.Touched as part
use Rattle.be_machine.specs.Windows.{width_of, owned}
use Rattle.be_machine.proofs.HasParts.{HasParts}
use Rattle.be_machine.proofs.ReadsDirt.{is_owned}
use Rattle.be_machine.proofs.PixelSteps.{IsDesktopAt}
use Rattle.be_machine.proofs.WorkStages.{found_if}
use Rattle.be_rules.specs.Slices.{Slice, own_from, slice_of, slices, pick, app_in, looper_in, buffer_in, port_in, link_in, kept_in, cells_in, cell_from, screen_from, state_of}
use Rattle.be_rules.proofs.ListLemmas.{pick_append, picks_nothing, picks_all, same_list, there_below}

-- what each segment of the slices gives
module _ {Y : Type 0} (f : Slice → Option Y) (d : Declared) (s : State) where
  abbrev seg : (ℕ → Part) → ℕ → List Slice
  seg g n = map (λ i. slice_of s (g i)) (range_with_len 0 n)

  twice : (g : ℕ → Part) (is : List ℕ) → map (slice_of s) (map g is) ≡ map (λ i. slice_of s (g i)) is
  twice g [] = refl
  twice g (i ∷ is) = ap (λ l. slice_of s (g i) ∷ l) (twice g is)

  map_append : (xs ys : List Part) → map (slice_of s) (xs ++ ys) ≡ map (slice_of s) xs ++ map (slice_of s) ys
  map_append [] ys = refl
  map_append (x ∷ xs) ys = ap (λ l. slice_of s x ∷ l) (map_append xs ys)

  picked : (g : ℕ → Part) (n : ℕ) (rest : List Part) → pick f (map (slice_of s) (map g (range_with_len 0 n) ++ rest)) ≡ pick f (seg g n) ++ pick f (map (slice_of s) rest)
  picked g n rest =
      ap (pick f) (map_append (map g (range_with_len 0 n)) rest)
      ∙ pick_append f (map (slice_of s) (map g (range_with_len 0 n))) (map (slice_of s) rest)
      ∙ ap (λ l. pick f l ++ pick f (map (slice_of s) rest)) (twice g (range_with_len 0 n))

  -- what the six rows of slices give
  pub rows : pick f (map (slice_of s) (map part.cell (range_with_len 0 (length d.apps)) ++ (map part.looper (range_with_len 0 (length d.windows)) ++ (map part.port (range_with_len 0 (length d.windows)) ++ (map part.link (range_with_len 0 (length d.windows)) ++ map part.pane (range_with_len 0 (length d.windows)))))))
      ≡ pick f (seg part.cell (length d.apps)) ++ (pick f (seg part.looper (length d.windows)) ++ (pick f (seg part.port (length d.windows)) ++ (pick f (seg part.link (length d.windows)) ++ pick f (seg part.pane (length d.windows)))))
  rows =
      picked part.cell (length d.apps) _
      ∙ ap (λ l. pick f (seg part.cell (length d.apps)) ++ l) (picked part.looper (length d.windows) _
      ∙ ap (λ l. pick f (seg part.looper (length d.windows)) ++ l) (picked part.port (length d.windows) _
      ∙ ap (λ l. pick f (seg part.port (length d.windows)) ++ l) (picked part.link (length d.windows) _
      ∙ ap (λ l. pick f (seg part.link (length d.windows)) ++ pick f l) (twice part.pane (range_with_len 0 (length d.windows))))))

-- ---- each list

module _ (d : Declared) (s : State) (h : HasParts d s) where
  n : ℕ
  n = length d.windows

  apps_back : pick app_in (slices d s) ≡ s.apps
  apps_back =
      rows app_in d s
      ∙ ap (λ l. pick app_in (map (λ i. slice_of s (part.cell i)) (range_with_len 0 (length d.apps))) ++ l) (λ i. picks_nothing app_in (λ w. slice_of s (part.looper w)) (range_with_len 0 (length d.windows)) (λ w. refl) i ++ (picks_nothing app_in (λ w. slice_of s (part.port w)) (range_with_len 0 (length d.windows)) (λ w. refl) i ++ (picks_nothing app_in (λ w. slice_of s (part.link w)) (range_with_len 0 (length d.windows)) (λ w. refl) i ++ picks_nothing app_in (λ w. slice_of s (part.pane w)) (range_with_len 0 (length d.windows)) (λ w. refl) i)))
      ∙ append_none _
      ∙ picks_all app_in (λ i. slice_of s (part.cell i)) (length d.apps) s.apps h.apps (λ i. refl)

  -- in front of the row that is picked nothing is, and behind it
  module _ {Y : Type 0} (f : Slice → Option Y) (ys : List Y) where
    abbrev row : (ℕ → Part) → List Y
    row g = pick f (map (λ i. slice_of s (g i)) (range_with_len 0 (length d.windows)))

    abbrev cells : List Y
    cells = pick f (map (λ i. slice_of s (part.cell i)) (range_with_len 0 (length d.apps)))

    of_loopers : cells ≡ [] → row part.looper ≡ ys → row part.port ≡ [] → row part.link ≡ [] → row part.pane ≡ [] → cells ++ (row part.looper ++ (row part.port ++ (row part.link ++ row part.pane))) ≡ ys
    of_loopers a b c e g = (λ i. a i ++ (b i ++ (c i ++ (e i ++ g i)))) ∙ append_none ys

    of_ports : cells ≡ [] → row part.looper ≡ [] → row part.port ≡ ys → row part.link ≡ [] → row part.pane ≡ [] → cells ++ (row part.looper ++ (row part.port ++ (row part.link ++ row part.pane))) ≡ ys
    of_ports a b c e g = (λ i. a i ++ (b i ++ (c i ++ (e i ++ g i)))) ∙ append_none ys

    of_links : cells ≡ [] → row part.looper ≡ [] → row part.port ≡ [] → row part.link ≡ ys → row part.pane ≡ [] → cells ++ (row part.looper ++ (row part.port ++ (row part.link ++ row part.pane))) ≡ ys
    of_links a b c e g = (λ i. a i ++ (b i ++ (c i ++ (e i ++ g i)))) ∙ append_none ys

    of_panes : cells ≡ [] → row part.looper ≡ [] → row part.port ≡ [] → row part.link ≡ [] → row part.pane ≡ ys → cells ++ (row part.looper ++ (row part.port ++ (row part.link ++ row part.pane))) ≡ ys
    of_panes a b c e g = λ i. a i ++ (b i ++ (c i ++ (e i ++ g i)))

  abbrev none : {Y : Type 0} (f : Slice → Option Y) (g : ℕ → Part) (k : ℕ) → ((i : ℕ) → f (slice_of s (g i)) ≡ None) → pick f (map (λ i. slice_of s (g i)) (range_with_len 0 k)) ≡ []
  none f g k e = picks_nothing f (λ i. slice_of s (g i)) (range_with_len 0 k) e

  abbrev all : {Y : Type 0} (f : Slice → Option Y) (g : ℕ → Part) (ys : List Y) → length ys ≡ length d.windows → ((i : ℕ) → f (slice_of s (g i)) ≡ slice_get ys i) → pick f (map (λ i. slice_of s (g i)) (range_with_len 0 (length d.windows))) ≡ ys
  all f g ys e k = picks_all f (λ i. slice_of s (g i)) (length d.windows) ys e k

  loopers_back : pick looper_in (slices d s) ≡ s.loopers
  loopers_back = rows looper_in d s ∙ of_loopers looper_in s.loopers (none looper_in part.cell (length d.apps) (λ i. refl)) (all looper_in part.looper s.loopers h.loopers (λ i. refl)) (none looper_in part.port (length d.windows) (λ i. refl)) (none looper_in part.link (length d.windows) (λ i. refl)) (none looper_in part.pane (length d.windows) (λ i. refl))

  buffers_back : pick buffer_in (slices d s) ≡ s.buffers
  buffers_back = rows buffer_in d s ∙ of_loopers buffer_in s.buffers (none buffer_in part.cell (length d.apps) (λ i. refl)) (all buffer_in part.looper s.buffers h.buffers (λ i. refl)) (none buffer_in part.port (length d.windows) (λ i. refl)) (none buffer_in part.link (length d.windows) (λ i. refl)) (none buffer_in part.pane (length d.windows) (λ i. refl))

  ports_back : pick port_in (slices d s) ≡ s.ports
  ports_back = rows port_in d s ∙ of_ports port_in s.ports (none port_in part.cell (length d.apps) (λ i. refl)) (none port_in part.looper (length d.windows) (λ i. refl)) (all port_in part.port s.ports h.ports (λ i. refl)) (none port_in part.link (length d.windows) (λ i. refl)) (none port_in part.pane (length d.windows) (λ i. refl))

  links_back : pick link_in (slices d s) ≡ s.links
  links_back = rows link_in d s ∙ of_links link_in s.links (none link_in part.cell (length d.apps) (λ i. refl)) (none link_in part.looper (length d.windows) (λ i. refl)) (none link_in part.port (length d.windows) (λ i. refl)) (all link_in part.link s.links h.links (λ i. refl)) (none link_in part.pane (length d.windows) (λ i. refl))

  panes_back : pick kept_in (slices d s) ≡ s.panes
  panes_back = rows kept_in d s ∙ of_panes kept_in s.panes (none kept_in part.cell (length d.apps) (λ i. refl)) (none kept_in part.looper (length d.windows) (λ i. refl)) (none kept_in part.port (length d.windows) (λ i. refl)) (none kept_in part.link (length d.windows) (λ i. refl)) (all kept_in part.pane s.panes h.panes (λ i. refl))

  -- for each window the cells of its pixels
  abbrev shown_cells : List (List (Option Cell))
  shown_cells = map (λ w. own_from (width_of s) 0 (owned s w) s.screen) (range_with_len 0 (length d.windows))

  own_cells : (is : List ℕ) → pick cells_in (map (λ i. slice_of s (part.pane i)) is) ≡ map (λ w. own_from (width_of s) 0 (owned s w) s.screen) is
  own_cells [] = refl
  own_cells (i ∷ is) = ap (λ l. own_from (width_of s) 0 (owned s i) s.screen ∷ l) (own_cells is)

  cells_back : pick cells_in (slices d s) ≡ shown_cells
  cells_back = rows cells_in d s ∙ of_panes cells_in shown_cells (none cells_in part.cell (length d.apps) (λ i. refl)) (none cells_in part.looper (length d.windows) (λ i. refl)) (none cells_in part.port (length d.windows) (λ i. refl)) (none cells_in part.link (length d.windows) (λ i. refl)) (own_cells (range_with_len 0 (length d.windows)))

-- ---- the screen

own_at : (width k i : ℕ) (own : ℤ → ℤ → Bool) (cells : List Cell) (c : Cell) → own (pos ((k + i) % width)) (pos ((k + i) / width)) ≡ true → slice_get cells i ≡ Some c → slice_get (own_from width k own cells) i ≡ Some (Some c)
own_at width k i own [] c ok e = absurd (cc)
own_at width k zero own (x ∷ xs) c ok e =
    let here : k + 0 ≡ k = omega arith in
    let test : own (pos (k % width)) (pos (k / width)) ≡ true = subst (λ j. own (pos (j % width)) (pos (j / width)) ≡ true) here ok in
    rw test (ap (λ z. Some (Some z)) (same_Some x c e))
own_at width k (suc i) own (x ∷ xs) c ok e =
    let there : k + suc i ≡ suc k + i = omega arith in
    own_at width (suc k) i own xs c (subst (λ j. own (pos (j % width)) (pos (j / width)) ≡ true) there ok) e

-- what each state after a legal history has
pub record IsWhole (d : Declared) (s : State) : Type 0 where
  pub parts : HasParts d s
  pub wide : 0 < d.width
  pub desktop : (x y : ℤ) → IsDesktopAt s x y

covered_there : (windows : List Window) (w : ℕ) (x y : ℤ) → covers windows x y w ≡ true → w < length windows
covered_there [] w x y e = absurd (cc)
covered_there (z ∷ zs) zero x y e = omega arith
covered_there (z ∷ zs) (suc w) x y e = let h = covered_there zs w x y e in omega arith

pub owner_there : (windows : Windows) (x y : ℤ) (w : ℕ) → owner_at windows x y ≡ Some w → w < length windows.windows
unfolding owner_at
owner_there windows x y w e = covered_there windows.windows w x y (found_if _ windows x y w e)

within : (a b : ℕ) → 0 < b → nat_lt (a % b) b ≡ true
within a b h = let lt : a % b < b = mod_below a b h in grind (arith, nat_tests)

pub pixel_there : (s : State) (k : ℕ) → 0 < width_of s → pixel_at s (pos (k % width_of s)) (pos (k / width_of s)) ≡ slice_get s.screen k
unfolding cell_at
pixel_there s k wide = rw (within k (width_of s) wide) (ap (slice_get s.screen) (div-add-mod' k (width_of s)))

module _ (d : Declared) (s : State) (h : IsWhole d s) where
  wide_state : 0 < width_of s
  wide_state = subst (λ n. 0 < n) (sym h.parts.width) h.wide

  cell_there : (k : ℕ) (c : Cell) (o : Option ℕ) → slice_get s.screen k ≡ Some c → owner_in s (pos (k % width_of s)) (pos (k / width_of s)) ≡ o → cell_from (shown_cells d s h.parts) k o ≡ c
  cell_there k c (Some u) read owner =
      let lt : u < length d.windows = subst (λ n. u < n) h.parts.windows (owner_there s.desk.windows _ _ u owner) in
      let none : u ≡ 0 + u = omega arith in
      let list : slice_get (shown_cells d s h.parts) u ≡ Some (own_from (width_of s) 0 (owned s u) s.screen) = get_map (λ w. own_from (width_of s) 0 (owned s w) s.screen) (range_with_len 0 (length d.windows)) u u (get_range 0 (length d.windows) u lt ∙ ap Some (sym none)) in
      let zeroed : k ≡ 0 + k = omega arith in
      let cell : slice_get (own_from (width_of s) 0 (owned s u) s.screen) k ≡ Some (Some c) = own_at (width_of s) 0 k (owned s u) s.screen c (subst (λ j. owned s u (pos (j % width_of s)) (pos (j / width_of s)) ≡ true) zeroed (is_owned s u _ _ owner)) read in
      rw (list, cell) refl
  cell_there k c None read owner =
      let there : pixel_at s (pos (k % width_of s)) (pos (k / width_of s)) ≡ Some c = pixel_there s k wide_state ∙ read in
      sym (same_Some c desktop_cell (sym there ∙ h.desktop _ _ owner ∙ ap (option_map (λ _. desktop_cell)) there))

  screen_there : (k : ℕ) (o : Option Cell) → slice_get s.screen k ≡ o → slice_get (screen_from d s.desk (shown_cells d s h.parts)) k ≡ o
  screen_there k (Some c) read =
      let lt : k < d.width * d.height = subst (λ n. k < n) h.parts.screen (there_below s.screen k c read) in
      let zeroed : k ≡ 0 + k = omega arith in
      get_map (λ k. cell_from (shown_cells d s h.parts) k (owner_at s.desk.windows (pos (k % d.width)) (pos (k / d.width)))) (range_with_len 0 (d.width * d.height)) k k (get_range 0 (d.width * d.height) k lt ∙ ap Some (sym zeroed))
      ∙ ap Some (ap (λ w. cell_from (shown_cells d s h.parts) k (owner_at s.desk.windows (pos (k % w)) (pos (k / w)))) (sym h.parts.width) ∙ cell_there k c _ read refl)
  screen_there k None read =
      let past : length s.screen ≤ k = none_past s.screen k read in
      slice_get_past _ k (subst (λ n. n ≤ k) (h.parts.screen ∙ sym (length-map (range_with_len 0 (d.width * d.height)) _ ∙ length-range_with_len 0 (d.width * d.height))) past)

  screen_back : screen_from d s.desk (pick cells_in (slices d s)) ≡ s.screen
  screen_back = ap (screen_from d s.desk) (cells_back d s h.parts) ∙ same_list _ s.screen (λ k. screen_there k (slice_get s.screen k) refl)

  pub put_together : state_of d (slices d s) ≡ s
  unfolding state_of
  put_together = λ i. record {
    desk = s.desk;
    screen = screen_back i;
    panes = panes_back d s h.parts i;
    ports = ports_back d s h.parts i;
    loopers = loopers_back d s h.parts i;
    buffers = buffers_back d s h.parts i;
    links = links_back d s h.parts i;
    apps = apps_back d s h.parts i;
    events = s.events;
    stopped = s.stopped;
  }
