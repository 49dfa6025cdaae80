-- How far an entry lets letters, commands and events grow, and what keeps its form.
use Rattle.std.proofs.Common.{◌≡◌, ℕ, zero, suc, ◌+◌, ◌≤◌, Bool, true, false, List, [], ◌∷◌, length, None, refl, sym, subst, ◌∙◌, arith}
use Rattle.std.specs.Prelude.{slice_set, ◌==◌}
use Rattle.std.proofs.lemmas.Option.{same_Some}
use Rattle.be_facts.proofs.Numbers.{eq_tells, eq_false_tells}
use Rattle.be_geom.specs.declared.rect.Rect.{Rect}
use Rattle.be_link.specs.Queues.{Buffer}
use Rattle.be_message.specs.Messages.{Message}
use Rattle.be_port.specs.Ports.{Port}
use Rattle.be_views.specs.Resizing.{with_frames}
use Rattle.be_views.specs.Trees.{Tree, View, parent_of}
use Rattle.be_machine.specs.Lists.{at}
use Rattle.be_machine.specs.State.{State}
use Rattle.be_machine.proofs.Lists.{AtPlace, place_here, place_elsewhere, length_at}

-- ---- lists

place_grows_by : {X : Type 0} (P Q : X → Type 0) (xs : List X) (v w : ℕ) (f : X → X) (b : Bool) → (w == v) ≡ b → ((x : X) → P x → Q x) → ((x : X) → P x → Q (f x)) → AtPlace P xs w → AtPlace Q (at xs v f) w
place_grows_by P Q xs v w f true e stay change h = subst (λ u. AtPlace Q (at xs u f) w) (eq_tells w v e) (place_here P Q xs w f (λ x _ k. change x k) h)
place_grows_by P Q xs v w f false e stay change h = place_elsewhere Q xs v w f (λ same. eq_false_tells w v e (sym same)) (λ x read. stay x (h x read))

-- a change at one place, where what holds before becomes what holds afterwards
pub place_grows : {X : Type 0} (P Q : X → Type 0) (xs : List X) (v w : ℕ) (f : X → X) → ((x : X) → P x → Q x) → ((x : X) → P x → Q (f x)) → AtPlace P xs w → AtPlace Q (at xs v f) w
place_grows P Q xs v w f stay change h = place_grows_by P Q xs v w f (w == v) refl stay change h

pub place_set : {X : Type 0} (P : X → Type 0) (xs : List X) (i : ℕ) (y : X) → P y → ((w : ℕ) → AtPlace P xs w) → (w : ℕ) → AtPlace P (slice_set xs i y) w
place_set P [] i y new h w x e = cc
place_set P (z ∷ zs) zero y new h zero x e = subst P (same_Some y x e) new
place_set P (z ∷ zs) zero y new h (suc w) x e = h (suc w) x e
place_set P (z ∷ zs) (suc i) y new h zero x e = h zero x e
place_set P (z ∷ zs) (suc i) y new h (suc w) x e = place_set P zs i y new (λ v u k. h (suc v) u k) w x e

-- ---- views

-- the root has no parent
abbrev pub IsRooted : Tree → Type 0
IsRooted tree = parent_of tree 0 ≡ None

abbrev pub AreRooted : List Tree → Type 0
AreRooted trees = (w : ℕ) → AtPlace IsRooted trees w

pub framed_root : (tree : List View) (frames : List Rect) → IsRooted tree → IsRooted (with_frames tree frames)
framed_root [] frames h = refl
framed_root (view ∷ views) [] h = refl
framed_root (view ∷ views) (frame ∷ frames) h = h

-- ---- what grows

abbrev pub Holds : ℕ → Port Message → Type 0
Holds n p = length p.arrived ≤ n

abbrev pub Made : ℕ → Buffer → Type 0
Made n b = b.made ≤ n

pub record Grows (letters commands events : ℕ) (s t : State) : Type 0 where
  pub arrived : (w m n : ℕ) → m + letters ≤ n → AtPlace (Holds m) s.ports w → AtPlace (Holds n) t.ports w
  pub made : (w m n : ℕ) → m + commands ≤ n → AtPlace (Made m) s.buffers w → AtPlace (Made n) t.buffers w
  pub used : t.events ≤ s.events + events
  pub panes : length t.panes ≡ length s.panes
  pub ports : length t.ports ≡ length s.ports
  pub rooted : AreRooted s.desk.pointing.trees → AreRooted t.desk.pointing.trees

-- a list that stays
pub ports_stay : (ports : List (Port Message)) (w m n : ℕ) → m + 0 ≤ n → AtPlace (Holds m) ports w → AtPlace (Holds n) ports w
ports_stay ports w m n le h p read = omega (arith, h p read)

pub buffers_stay : (buffers : List Buffer) (w m n : ℕ) → m + 0 ≤ n → AtPlace (Made m) buffers w → AtPlace (Made n) buffers w
buffers_stay buffers w m n le h b read = omega (arith, h b read)

pub ports_change : (ports : List (Port Message)) (v : ℕ) (f : Port Message → Port Message) (k : ℕ) → ((p : Port Message) → length (f p).arrived ≤ length p.arrived + k) → (w m n : ℕ) → m + k ≤ n → AtPlace (Holds m) ports w → AtPlace (Holds n) (at ports v f) w
ports_change ports v f k up w m n le h = place_grows (Holds m) (Holds n) ports v w f (λ p e. omega arith) (λ p e. omega (arith, up p)) h

buffers_change : (buffers : List Buffer) (v : ℕ) (f : Buffer → Buffer) (k : ℕ) → ((b : Buffer) → (f b).made ≤ b.made + k) → (w m n : ℕ) → m + k ≤ n → AtPlace (Made m) buffers w → AtPlace (Made n) (at buffers v f) w
buffers_change buffers v f k up w m n le h = place_grows (Made m) (Made n) buffers v w f (λ b e. omega arith) (λ b e. omega (arith, up b)) h

pub stays : (s : State) → Grows 0 0 0 s s
stays s = record {
  arrived = ports_stay s.ports;
  made = buffers_stay s.buffers;
  used = omega arith;
  panes = refl;
  ports = refl;
  rooted = λ h. h;
}

pub and_then : {a b c i j k : ℕ} (s t u : State) → Grows a b c s t → Grows i j k t u → Grows (a + i) (b + j) (c + k) s u
and_then {a} {b} {c} {i} {j} {k} s t u g h = record {
  arrived = λ w m n le e. h.arrived w (m + a) n (omega arith) (g.arrived w m (m + a) (omega arith) e);
  made = λ w m n le e. h.made w (m + b) n (omega arith) (g.made w m (m + b) (omega arith) e);
  used = omega (arith, g.used, h.used);
  panes = h.panes ∙ g.panes;
  ports = h.ports ∙ g.ports;
  rooted = λ e. h.rooted (g.rooted e);
}

pub at_most : {a b c i j k : ℕ} (s t : State) → a ≤ i → b ≤ j → c ≤ k → Grows a b c s t → Grows i j k s t
at_most s t p q r g = record {
  arrived = λ w m n le e. g.arrived w m n (omega arith) e;
  made = λ w m n le e. g.made w m n (omega arith) e;
  used = omega (arith, g.used);
  panes = g.panes;
  ports = g.ports;
  rooted = g.rooted;
}

-- ---- one part

pub ports_grow : (k : ℕ) (s : State) (v : ℕ) (f : Port Message → Port Message) → ((p : Port Message) → length (f p).arrived ≤ length p.arrived + k) → Grows k 0 0 s (record s { ports = at s.ports v f })
ports_grow k s v f up = record {
  arrived = ports_change s.ports v f k up;
  made = buffers_stay s.buffers;
  used = omega arith;
  panes = refl;
  ports = length_at s.ports v f;
  rooted = λ h. h;
}

pub buffers_grow : (k : ℕ) (s : State) (v : ℕ) (f : Buffer → Buffer) → ((b : Buffer) → (f b).made ≤ b.made + k) → Grows 0 k 0 s (record s { buffers = at s.buffers v f })
buffers_grow k s v f up = record {
  arrived = ports_stay s.ports;
  made = buffers_change s.buffers v f k up;
  used = omega arith;
  panes = refl;
  ports = refl;
  rooted = λ h. h;
}
