-- What a change of one part does to its share.
use Rattle.std.proofs.Common.{◌≡◌, ℕ, zero, suc, ◌+◌, ◌<◌, ◌≤◌, Bool, true, false, List, [], ◌∷◌, drop, length, Option, Some, None, sum_by, refl, ap, arith}
use Rattle.std.specs.Prelude.{◌-◌, nat_le, slice_get, if◌then◌else◌}
use Rattle.std.proofs.lemmas.List.Sums.{sum_by-append, sum_by-cons, sum_by_push}
use Rattle.std.proofs.lemmas.Bool.Decides.{nat_tests}
use Rattle.be_actor.specs.declared.Instruction.{Instruction}
use Rattle.be_actor.specs.declared.Instruction.TheVariants as instruction
use Rattle.be_actor.specs.declared.Place.{Place}
use Rattle.be_actor.specs.Wishes.{first_place, next_place, second_part}
use Rattle.be_command.specs.declared.Command.{Command}
use Rattle.be_command.specs.Effects.{effect_of}
use Rattle.be_geom.specs.declared.change.Change.{Change}
use Rattle.be_geom.specs.declared.change.Change.TheVariants as change
use Rattle.be_link.specs.Queues.{Buffer, Numbered, with_command, emptied, lengthened, shortened}
use Rattle.be_message.specs.declared.target.Target.{Target}
use Rattle.be_message.specs.Messages.{Message}
use Rattle.be_port.specs.declared.Posted.TheVariants.{Accepted, WouldBlock, BadPort, TooDeep}
use Rattle.be_port.specs.Ports.{counted, Letter, Port, queue_of, judged, is_accepted, with_letter, posted, front, without_front, closed_port}
use Rattle.be_script.specs.declared.InputLine.{InputLine}
use Rattle.be_script.specs.Script.{Declared}
use Rattle.be_script.specs.Work.{updates_cost, post_cost, body_cost, input_cost}
use Rattle.be_machine.specs.Lists.{at}
use Rattle.be_machine.specs.Port.{letter}
use Rattle.be_machine.specs.Program.{app_program}
use Rattle.be_machine.specs.State.{App, Looper}
use Rattle.be_machine.specs.Windows.{ports_after}
use Rattle.be_machine.proofs.Lists.{at_past}
use Rattle.be_machine.proofs.WorkWeights.{weight_at, weight_at_there, sum_drop_push, sum_drop_read}
use Rattle.be_machine.specs.Shares.{exposure, in_link, in_buffer, here, here_of, left, post_at, app_cost, message_share, letter_share, looper_share, apps_share, loopers_share, ports_share, buffers_share, links_share, input_share}

-- ---- places

first_part : (cost : Instruction → ℕ) (i : Instruction) → here cost 0 i ≡ cost i
first_part cost (instruction.Note text) = refl
first_part cost (instruction.Post w target draft) = refl
first_part cost (instruction.Send w target draft) = refl
first_part cost (instruction.Reply draft) = refl
first_part cost (instruction.Forward w target) = refl
first_part cost (instruction.Lock w) = refl
first_part cost instruction.Unlock = refl
first_part cost instruction.Flush = refl
first_part cost instruction.Sync = refl
first_part cost (instruction.Draw command) = refl

left_by : (cost : Instruction → ℕ) (program : List Instruction) (k : ℕ) → here_of cost 0 (slice_get program k) + sum_by cost (drop (k + 1) program) ≡ sum_by cost (drop k program)
left_by cost [] zero = refl
left_by cost [] (suc k) = let more : suc k + 1 ≡ suc (k + 1) = omega arith in rw more refl
left_by cost (i ∷ is) zero = omega (arith, first_part cost i, sum_by-cons cost i is)
left_by cost (i ∷ is) (suc k) = let more : suc k + 1 ≡ suc (k + 1) = omega arith in rw more (left_by cost is k)

-- at the first part of an instruction
pub left_at : (cost : Instruction → ℕ) (program : List Instruction) (k : ℕ) → left cost program (record { step = k; part = 0 }) ≡ sum_by cost (drop k program)
unfolding left
left_at cost program k = left_by cost program k

pub left_first : (cost : Instruction → ℕ) (program : List Instruction) → left cost program first_place ≡ sum_by cost program
left_first cost program = left_at cost program 0

-- an actor that is past an instruction has paid for it
pub left_next : (cost : Instruction → ℕ) (program : List Instruction) (place : Place) (i : Instruction) → slice_get program place.step ≡ Some i → left cost program (next_place place) + here cost place.part i ≡ left cost program place
unfolding left
left_next cost program place i read =
    let now : here_of cost place.part (slice_get program place.step) ≡ here cost place.part i = ap (here_of cost place.part) read in
    omega (arith, now, left_by cost program (place.step + 1))

-- ... and one at its second part for its first
pub left_second : (cost : Instruction → ℕ) (program : List Instruction) (place : Place) (i : Instruction) → slice_get program place.step ≡ Some i → left cost program (second_part place) + here cost place.part i ≡ left cost program place + here cost 1 i
unfolding left
left_second cost program place i read =
    let now : here_of cost place.part (slice_get program place.step) ≡ here cost place.part i = ap (here_of cost place.part) read in
    let later : here_of cost 1 (slice_get program place.step) ≡ here cost 1 i = ap (here_of cost 1) read in
    omega (arith, now, later)

-- ---- applications

pub apps_turn : (d : Declared) (apps : List App) (m : ℕ) (f : App → App) (a : App) → slice_get apps m ≡ Some a → apps_share d (at apps m f) + left (app_cost d) (app_program d m) a.place ≡ apps_share d apps + left (app_cost d) (app_program d m) (f a).place
unfolding apps_share
apps_turn d apps m f a read = weight_at_there (λ k x. left (app_cost d) (app_program d k) x.place) apps m f a read

-- an application that stays where it is
pub apps_quiet : (d : Declared) (apps : List App) (m : ℕ) (f : App → App) → ((a : App) → (f a).place ≡ a.place) → apps_share d (at apps m f) ≤ apps_share d apps
unfolding apps_share
apps_quiet d apps m f same = omega (arith, weight_at (λ k (x : App). left (app_cost d) (app_program d k) x.place) apps m 0 f (λ a. let is : left (app_cost d) (app_program d m) (f a).place ≡ left (app_cost d) (app_program d m) a.place = ap (left (app_cost d) (app_program d m)) (same a) in omega (arith, is)))

-- ---- loopers

pub loopers_turn : (d : Declared) (loopers : List Looper) (w : ℕ) (f : Looper → Looper) (l : Looper) → slice_get loopers w ≡ Some l → loopers_share d (at loopers w f) + looper_share d w l ≡ loopers_share d loopers + looper_share d w (f l)
unfolding loopers_share
loopers_turn d loopers w f l read = weight_at_there (looper_share d) loopers w f l read

pub loopers_drop : (d : Declared) (loopers : List Looper) (w : ℕ) (f : Looper → Looper) → ((l : Looper) → looper_share d w (f l) ≤ looper_share d w l) → loopers_share d (at loopers w f) ≤ loopers_share d loopers
unfolding loopers_share
loopers_drop d loopers w f down = omega (arith, weight_at (looper_share d) loopers w 0 f (λ l. omega (arith, down l)))

-- ---- ports

letter_adds : (d : Declared) (w : ℕ) (letter : Letter Message) (p : Port Message) → sum_by (letter_share d w) (queue_of (with_letter letter p)) ≤ sum_by (letter_share d w) (queue_of p) + letter_share d w letter
letter_adds d w letter p = sum_drop_push (letter_share d w) p.taken p.arrived letter

pub ports_noticed : (d : Declared) (ports : List (Port Message)) (w : ℕ) (letter : Letter Message) → ports_share d (at ports w (with_letter letter)) ≤ ports_share d ports + letter_share d w letter
unfolding ports_share
ports_noticed d ports w letter = weight_at (λ v p. sum_by (letter_share d v) (queue_of p)) ports w (letter_share d w letter) (with_letter letter) (letter_adds d w letter)

posted_if : (d : Declared) (w : ℕ) (letter : Letter Message) (p : Port Message) (b : Bool) → sum_by (letter_share d w) (queue_of (if b then with_letter letter p else p)) ≤ sum_by (letter_share d w) (queue_of p) + letter_share d w letter
posted_if d w letter p true = letter_adds d w letter p
posted_if d w letter p false = omega arith

posted_adds : (d : Declared) (w : ℕ) (letter : Letter Message) (p : Port Message) → sum_by (letter_share d w) (queue_of (posted letter p)) ≤ sum_by (letter_share d w) (queue_of p) + letter_share d w letter
unfolding posted
posted_adds d w letter p = posted_if d w letter p (is_accepted (judged p letter.hop))

pub ports_posted : (d : Declared) (ports : List (Port Message)) (w : ℕ) (letter : Letter Message) → ports_share d (at ports w (posted letter)) ≤ ports_share d ports + letter_share d w letter
unfolding ports_share
ports_posted d ports w letter = weight_at (λ v p. sum_by (letter_share d v) (queue_of p)) ports w (letter_share d w letter) (posted letter) (posted_adds d w letter)

-- a letter that is taken
pub ports_taken : (d : Declared) (ports : List (Port Message)) (w : ℕ) (p : Port Message) (letter : Letter Message) → slice_get ports w ≡ Some p → front p ≡ Some letter → ports_share d (at ports w without_front) + letter_share d w letter ≡ ports_share d ports
unfolding ports_share
ports_taken d ports w p letter read first = omega (
  arith,
  weight_at_there (λ v q. sum_by (letter_share d v) (queue_of q)) ports w without_front p read,
  sum_drop_read (letter_share d w) p.taken p.arrived letter first,
)

-- ---- posts

post_costs_one : (k : ℕ) (d : Declared) (updates w : ℕ) (target : Target) (what : ℕ) → 1 ≤ post_cost k d updates w target what
unfolding post_cost
post_costs_one zero d updates w target what = omega arith
post_costs_one (suc k) d updates w target what = omega arith

pub post_at_one : (d : Declared) (hop w : ℕ) (target : Target) (what : ℕ) → 1 ≤ post_at d hop w target what
post_at_one d hop w target what = post_costs_one (8 - hop) d (updates_cost d) w target what

post_below : (d : Declared) (k hop w : ℕ) (target : Target) (what : ℕ) → 8 - hop ≡ k → hop < 8 → post_cost k d (updates_cost d) w target what ≡ 1 + body_cost d (updates_cost d) (post_cost (8 - (hop + 1)) d (updates_cost d)) w target what
unfolding post_cost
post_below d zero hop w target what e lt = absurd (omega arith)
post_below d (suc k) hop w target what e lt = let same : 8 - (hop + 1) ≡ k = omega arith in rw same refl

-- a post that may be accepted
post_pays : (d : Declared) (hop w : ℕ) (target : Target) (what : ℕ) → hop < 8 → post_at d hop w target what ≡ 1 + message_share d hop w target what
post_pays d hop w target what lt = post_below d (8 - hop) hop w target what refl lt

-- ---- a letter that is posted

not_deep : (hop : ℕ) → nat_le 8 hop ≡ false → hop < 8
not_deep hop e = grind (arith, nat_tests)

below_by : {B : Type 0} (p : Port B) (hop : ℕ) (a b c : Bool) (n m : ℕ) → a ≡ p.closed → nat_le 8 hop ≡ b → is_accepted (if a then BadPort else if b then TooDeep else if c then WouldBlock n else Accepted m) ≡ true → hop < 8
below_by p hop true b c n m closed deep e = cc
below_by p hop false true c n m closed deep e = cc
below_by p hop false false c n m closed deep e = not_deep hop deep

accepted_below : {B : Type 0} (p : Port B) (hop : ℕ) → is_accepted (judged p hop) ≡ true → hop < 8
unfolding judged
accepted_below p hop e = below_by p hop p.closed (nat_le 8 hop) (nat_le p.capacity (counted p)) (counted p) (length p.arrived + 1) refl refl e

posted_by : (d : Declared) (w : ℕ) (letter : Letter Message) (p : Port Message) (b : Bool) → letter.notice ≡ false → is_accepted (judged p letter.hop) ≡ b → sum_by (letter_share d w) (queue_of (if b then with_letter letter p else p)) + 1 ≤ sum_by (letter_share d w) (queue_of p) + post_at d letter.hop w letter.target letter.body.what
posted_by d w letter p true plain e =
    let share : letter_share d w letter ≡ message_share d letter.hop w letter.target letter.body.what = rw plain refl in
    omega (arith, letter_adds d w letter p, share, post_pays d letter.hop w letter.target letter.body.what (accepted_below p letter.hop e))
posted_by d w letter p false plain e = omega (arith, post_at_one d letter.hop w letter.target letter.body.what)

post_here : (d : Declared) (w : ℕ) (letter : Letter Message) (p : Port Message) → letter.notice ≡ false → sum_by (letter_share d w) (queue_of (posted letter p)) + 1 ≤ sum_by (letter_share d w) (queue_of p) + post_at d letter.hop w letter.target letter.body.what
unfolding posted
post_here d w letter p plain = posted_by d w letter p (is_accepted (judged p letter.hop)) plain refl

post_there : (d : Declared) (ports : List (Port Message)) (w : ℕ) (letter : Letter Message) (o : Option (Port Message)) → letter.notice ≡ false → slice_get ports w ≡ o → ports_share d (at ports w (posted letter)) + 1 ≤ ports_share d ports + post_at d letter.hop w letter.target letter.body.what
unfolding ports_share
post_there d ports w letter (Some p) plain read = omega (arith, weight_at_there (λ v q. sum_by (letter_share d v) (queue_of q)) ports w (posted letter) p read, post_here d w letter p plain)
post_there d ports w letter None plain read = rw (at_past ports w (posted letter) read) (omega (arith, post_at_one d letter.hop w letter.target letter.body.what))

-- a post falls, whether or not it is accepted
pub ports_post : (d : Declared) (ports : List (Port Message)) (w : ℕ) (letter : Letter Message) → letter.notice ≡ false → ports_share d (at ports w (posted letter)) + 1 ≤ ports_share d ports + post_at d letter.hop w letter.target letter.body.what
ports_post d ports w letter plain = post_there d ports w letter (slice_get ports w) plain refl

pub ports_changed : (d : Declared) (w : ℕ) (c : Change) (ports : List (Port Message)) → ports_share d (ports_after w c ports) ≤ ports_share d ports
unfolding ports_share
ports_changed d w change.Close ports = omega (arith, weight_at (λ v q. sum_by (letter_share d v) (queue_of q)) ports w 0 closed_port (λ p. omega arith))
ports_changed d w change.Show ports = omega arith
ports_changed d w change.Hide ports = omega arith
ports_changed d w (change.MoveTo corner) ports = omega arith
ports_changed d w (change.MoveBy dx dy) ports = omega arith
ports_changed d w (change.ResizeTo width height) ports = omega arith
ports_changed d w change.Activate ports = omega arith
ports_changed d w (change.Behind front) ports = omega arith
ports_changed d w (change.Focus view) ports = omega arith

-- ---- commands

pub buffers_drawn : (d : Declared) (buffers : List Buffer) (w : ℕ) (c : Command) → buffers_share d (at buffers w (with_command c)) ≤ buffers_share d buffers + (2 + exposure (updates_cost d) (effect_of c))
unfolding buffers_share
buffers_drawn d buffers w c = weight_at (λ v b. sum_by (in_buffer (updates_cost d)) b.commands) buffers w (2 + exposure (updates_cost d) (effect_of c)) (with_command c) (λ b. omega (arith, sum_by_push (in_buffer (updates_cost d)) b.commands (record { number = b.made + 1; command = c })))

flush_each : (updates : ℕ) (cs : List Numbered) → sum_by (in_link updates) cs + length cs ≡ sum_by (in_buffer updates) cs
flush_each updates [] = refl
flush_each updates (c ∷ cs) = omega (arith, flush_each updates cs, sum_by-cons (in_link updates) c cs, sum_by-cons (in_buffer updates) c cs)

links_lengthened : (d : Declared) (links : List (List Numbered)) (w : ℕ) (b : Buffer) → links_share d (at links w (lengthened b)) ≤ links_share d links + sum_by (in_link (updates_cost d)) b.commands
unfolding links_share
links_lengthened d links w b = weight_at (λ v link. sum_by (in_link (updates_cost d)) link) links w (sum_by (in_link (updates_cost d)) b.commands) (lengthened b) (λ link. omega (arith, sum_by-append (in_link (updates_cost d)) link b.commands))

buffers_emptied : (d : Declared) (buffers : List Buffer) (w : ℕ) (b : Buffer) → slice_get buffers w ≡ Some b → buffers_share d (at buffers w emptied) + sum_by (in_buffer (updates_cost d)) b.commands ≡ buffers_share d buffers
unfolding buffers_share
buffers_emptied d buffers w b read = omega (arith, weight_at_there (λ v x. sum_by (in_buffer (updates_cost d)) x.commands) buffers w emptied b read)

-- each command that goes over falls
pub flush_pays : (d : Declared) (buffers : List Buffer) (links : List (List Numbered)) (w : ℕ) (b : Buffer) → slice_get buffers w ≡ Some b → buffers_share d (at buffers w emptied) + links_share d (at links w (lengthened b)) + length b.commands ≤ buffers_share d buffers + links_share d links
flush_pays d buffers links w b read = omega (arith, buffers_emptied d buffers w b read, links_lengthened d links w b, flush_each (updates_cost d) b.commands)

-- the front of a link
pub links_shortened : (d : Declared) (links : List (List Numbered)) (w : ℕ) (link : List Numbered) (c : Numbered) → slice_get links w ≡ Some link → slice_get link 0 ≡ Some c → links_share d (at links w shortened) + (1 + exposure (updates_cost d) (effect_of c.command)) ≡ links_share d links
unfolding links_share
links_shortened d links w link c read first = omega (
  arith,
  weight_at_there (λ v x. sum_by (in_link (updates_cost d)) x) links w shortened link read,
  sum_drop_read (in_link (updates_cost d)) 0 link c first,
)

-- ---- input

pub input_used : (d : Declared) (events : ℕ) (line : InputLine) → slice_get d.input events ≡ Some line → input_share d (events + 1) + input_cost d (updates_cost d) line ≡ input_share d events
unfolding input_share
input_used d events line read = omega (arith, sum_drop_read (input_cost d (updates_cost d)) events d.input line read)
