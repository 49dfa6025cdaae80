-- The shares of all parts are the potential.
use Rattle.std.proofs.Common.{◌≡◌, ℕ, suc, ◌+◌, Bool, true, false, List, [], ◌∷◌, ◌++◌, map, length, sum_by, Some, None, refl, sym, ap, ◌∙◌, arith}
use Rattle.std.specs.Prelude.{ℤ, pos, ◌/◌, ◌%◌, ◌&&◌, slice_get, if◌then◌else◌}
use Rattle.std.specs.List.{range_with_len}
use Rattle.be_geom.specs.Places.{at_pixel}
use Rattle.be_hall.specs.Numbers.{total}
use Rattle.be_port.specs.Ports.{queue_of}
use Rattle.be_script.specs.Script.{Declared}
use Rattle.be_script.specs.Work.{update_cost, updates_cost}
use Rattle.be_span.specs.declared.Cell.{Cell}
use Rattle.be_update.specs.Sessions.{is_any, dirty_from, dirty_pixels}
use Rattle.be_span.specs.Spans.{is_dirty as is_dirty_cell}
use Rattle.be_machine.specs.Program.{app_program}
use Rattle.be_machine.specs.State.{State}
use Rattle.be_machine.specs.Touched.{Part}
use Rattle.be_machine.specs.Touched as part
use Rattle.be_machine.specs.Windows.{width_of, owned}
use Rattle.be_machine.proofs.HasParts.{HasParts}
use Rattle.be_machine.specs.Shares.{left, app_cost, looper_share, letter_share, in_buffer, in_link, dirt, is_dirty, apps_share, loopers_share, ports_share, buffers_share, links_share, dirt_share, potential}
use Rattle.be_rules.specs.Shares.{share, app_part, looper_part, buffer_part, port_part, link_part, pane_part, any_dirty}
use Rattle.be_rules.specs.Slices.{own_from, slice_of, slices}
use Rattle.be_rules.proofs.ListLemmas.{total_append, total_ranged, total_map, total_two}

any_if : (c : Cell) (a b : Bool) (width k : ℕ) (own : ℤ → ℤ → Bool) (cs : List Cell) → c.dirty ≡ a → any_dirty (own_from width (suc k) own cs) ≡ is_any (dirty_from width (suc k) own cs) → (if is_dirty_cell (if b then Some c else None) then true else any_dirty (own_from width (suc k) own cs)) ≡ is_any (if a && b then at_pixel (pos (k % width)) (pos (k / width)) ∷ dirty_from width (suc k) own cs else dirty_from width (suc k) own cs)
any_if c true true width k own cs e rest = rw e refl
any_if c true false width k own cs e rest = rest
any_if c false true width k own cs e rest = rw e rest
any_if c false false width k own cs e rest = rest

any_same : (width k : ℕ) (own : ℤ → ℤ → Bool) (cs : List Cell) → any_dirty (own_from width k own cs) ≡ is_any (dirty_from width k own cs)
any_same width k own [] = refl
any_same width k own (c ∷ cs) = any_if c c.dirty (own (pos (k % width)) (pos (k / width))) width k own cs refl (any_same width (suc k) own cs)

dirty_same : (s : State) (w : ℕ) → any_dirty (own_from (width_of s) 0 (owned s w) s.screen) ≡ is_dirty s.desk s.screen w
unfolding is_dirty dirty_pixels
dirty_same s w = any_same (width_of s) 0 (owned s w) s.screen

module _ (d : Declared) (s : State) (h : HasParts d s) where
  abbrev row : (ℕ → Part) → ℕ → ℕ
  row g n = total (λ i. share d (slice_of s (g i))) (range_with_len 0 n)

  twice : (g : ℕ → Part) (n : ℕ) (rest : List Part) → total (share d) (map (slice_of s) (map g (range_with_len 0 n) ++ rest)) ≡ row g n + total (share d) (map (slice_of s) rest)
  twice g n rest =
      total_map (share d) (slice_of s) (map g (range_with_len 0 n) ++ rest)
      ∙ total_append (λ p. share d (slice_of s p)) (map g (range_with_len 0 n)) rest
      ∙ (λ i. total_map (λ p. share d (slice_of s p)) g (range_with_len 0 n) i + sym (total_map (share d) (slice_of s) rest) i)

  apps : row part.cell (length d.apps) ≡ apps_share d s.apps
  unfolding apps_share
  apps = total_ranged _ (λ m a. left (app_cost d) (app_program d m) a.place) (length d.apps) s.apps h.apps (λ i x read. ap (app_part d i) read)

  loopers : row part.looper (length d.windows) ≡ loopers_share d s.loopers + buffers_share d s.buffers
  unfolding loopers_share buffers_share
  loopers =
      total_two _ (λ i. looper_part d i (slice_get s.loopers i)) (λ i. buffer_part d (slice_get s.buffers i)) (range_with_len 0 (length d.windows)) (λ i. refl)
      ∙ (λ i. total_ranged (λ i. looper_part d i (slice_get s.loopers i)) (looper_share d) (length d.windows) s.loopers h.loopers (λ i x read. ap (looper_part d i) read) i + total_ranged (λ i. buffer_part d (slice_get s.buffers i)) (λ w b. sum_by (in_buffer (updates_cost d)) b.commands) (length d.windows) s.buffers h.buffers (λ i x read. ap (buffer_part d) read) i)

  ports : row part.port (length d.windows) ≡ ports_share d s.ports
  unfolding ports_share
  ports = total_ranged _ (λ w p. sum_by (letter_share d w) (queue_of p)) (length d.windows) s.ports h.ports (λ i x read. ap (port_part d i) read)

  links : row part.link (length d.windows) ≡ links_share d s.links
  unfolding links_share
  links = total_ranged _ (λ w link. sum_by (in_link (updates_cost d)) link) (length d.windows) s.links h.links (λ i x read. ap (link_part d) read)

  panes : row part.pane (length d.windows) ≡ dirt_share d s.desk s.screen s.panes
  unfolding dirt_share
  panes = total_ranged _ (λ w pane. dirt (update_cost d w) (is_dirty s.desk s.screen w) pane) (length d.windows) s.panes h.panes (λ i x read. (λ j. pane_part d i (read j) (dirty_same s i j)))

  last : total (share d) (map (slice_of s) (map part.pane (range_with_len 0 (length d.windows)))) ≡ row part.pane (length d.windows)
  last = total_map (share d) (slice_of s) (map part.pane (range_with_len 0 (length d.windows))) ∙ total_map (λ p. share d (slice_of s p)) part.pane (range_with_len 0 (length d.windows))

  abbrev with_panes : List Part
  with_panes = map part.pane (range_with_len 0 (length d.windows))

  abbrev with_links : List Part
  with_links = map part.link (range_with_len 0 (length d.windows)) ++ with_panes

  abbrev with_ports : List Part
  with_ports = map part.port (range_with_len 0 (length d.windows)) ++ with_links

  abbrev with_loopers : List Part
  with_loopers = map part.looper (range_with_len 0 (length d.windows)) ++ with_ports

  pub sum_is : total (share d) (slices d s) ≡ potential d s
  unfolding potential
  sum_is = omega (arith, twice part.cell (length d.apps) with_loopers, twice part.looper (length d.windows) with_ports, twice part.port (length d.windows) with_links, twice part.link (length d.windows) with_panes, last, apps, loopers, ports, links, panes)
